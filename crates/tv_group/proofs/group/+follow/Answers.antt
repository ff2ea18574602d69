use Rattle.std.proofs.Common.{arith, ◌<◌, ◌≤◌, ◌∷◌, [], ◌+◌, length, ap}
use Rattle.tv_view.specs.Meaning.{PaneAt}
use Rattle.tv_group.specs.Outline.{members_outline, outlined}
use Rattle.tv_group.proofs.OpenedLemmas.{item_at}
use Rattle.tv_group.proofs.OutlineLemmas.{left-all, left-next, left-none, left-end, outline-leaf, outline-pane, some-join, none-join, follows-split}
use Rattle.tv_group.proofs.group.+follow.Goals as goal

pub GroupOf::follow-loop-member-init : goal.GroupOf::follow-loop-member-init
GroupOf::follow-loop-member-init g t c = left-all g.V.View.meaning c.args.depth c.args.self.now c.args.nodes.now

pub GroupOf::follow-loop-member-preserved : goal.GroupOf::follow-loop-member-preserved
GroupOf::follow-loop-member-preserved g t c =
    let s = c.args.self.now in let p = c.loop-member in let at = c.deref-member-items in
    let h : p.member-index < length s.members.items = omega (arith, ap length at.ensures.value) in
    left-next g.V.View.meaning c.args.depth p.member-index s c.args.nodes.now p.left.now c.in-Some.rest.now c.member-item.result h
    (item_at p.member-index at.result.now s.members.items c.member-item.result at.ensures.value c.member-item.is) p.invariant c.in-Some.ensures.some

pub GroupOf::follow-returns-in-None-clause-none : goal.GroupOf::follow-returns-in-None-clause-none
GroupOf::follow-returns-in-None-clause-none g t c =
    let s = c.args.self.now in let p = c.loop-member in let at = c.deref-member-items in
    let h : p.member-index < length s.members.items = omega (arith, ap length at.ensures.value) in
    left-none g.V.View.meaning c.args.depth p.member-index s c.args.nodes.now p.left.now c.member-item.result h
    (item_at p.member-index at.result.now s.members.items c.member-item.result at.ensures.value c.member-item.is) p.invariant c.in-None.ensures.none

pub GroupOf::follow-returns-clause-some : goal.GroupOf::follow-returns-clause-some
GroupOf::follow-returns-clause-some g t c =
    let s = c.args.self.now in let p = c.loop-member in let at = c.deref-member-items in
    let h : length s.members.items ≤ p.member-index = omega (arith, ap length at.ensures.value) in
    left-end g.V.View.meaning c.args.depth p.member-index s c.args.nodes.now p.left.now h p.invariant

pub MemberOf::follow-returns-in-Leaf-clause-some : goal.MemberOf::follow-returns-in-Leaf-clause-some
MemberOf::follow-returns-in-Leaf-clause-some g t c =
    rw (outline-leaf g.V.View.meaning c.args.self.now c.in-Leaf.view c.args.depth c.in-Leaf.is) c.follow_leaf.ensures.some

pub MemberOf::follow-returns-in-Leaf-clause-none : goal.MemberOf::follow-returns-in-Leaf-clause-none
MemberOf::follow-returns-in-Leaf-clause-none g t c =
    rw (outline-leaf g.V.View.meaning c.args.self.now c.in-Leaf.view c.args.depth c.in-Leaf.is) c.follow_leaf.ensures.none

pub MemberOf::follow-returns-in-Some-clause-some : goal.MemberOf::follow-returns-in-Some-clause-some
MemberOf::follow-returns-in-Some-clause-some g t c =
    let look = g.V.View.meaning in let group = c.in-Pane.group in
    rw (outline-pane look c.args.self.now group c.args.depth c.in-Pane.is)
    (some-join (λ r. r.now) c.follow.result (outlined c.args.depth (PaneAt group.bounds) ∷ []) (members_outline look group (c.args.depth + 1)) c.args.nodes.now c.in-Some.inner.now
    (rw (← c.rect.ensures.is) c.in-Some.ensures.some.0) c.follow.ensures.some)

pub MemberOf::follow-returns-in-Some-clause-none : goal.MemberOf::follow-returns-in-Some-clause-none
MemberOf::follow-returns-in-Some-clause-none g t c =
    let look = g.V.View.meaning in let group = c.in-Pane.group in
    rw (outline-pane look c.args.self.now group c.args.depth c.in-Pane.is)
    (none-join c.follow.result (outlined c.args.depth (PaneAt group.bounds) ∷ []) (members_outline look group (c.args.depth + 1)) c.args.nodes.now c.in-Some.inner.now
    (rw (← c.rect.ensures.is) c.in-Some.ensures.some.0) c.follow.ensures.none)

pub MemberOf::follow-returns-in-None-clause-none : goal.MemberOf::follow-returns-in-None-clause-none
MemberOf::follow-returns-in-None-clause-none g t c =
    let look = g.V.View.meaning in let group = c.in-Pane.group in
    rw (outline-pane look c.args.self.now group c.args.depth c.in-Pane.is)
    (λ rest whole.
    let s = follows-split (outlined c.args.depth (PaneAt group.bounds) ∷ []) (members_outline look group (c.args.depth + 1)) c.args.nodes.now rest whole in
    c.in-None.ensures.none s.0 (rw c.rect.ensures.is s.1))
