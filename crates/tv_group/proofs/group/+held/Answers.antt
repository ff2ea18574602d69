use Rattle.std.proofs.Common.{arith, ◌<◌, ◌≤◌, length, ap, ◌∙◌}
use Rattle.tv_view.specs.Meaning.{holds_mouse}
use Rattle.tv_group.specs.Calls.{any_holds}
use Rattle.tv_group.specs.Opened.{opened}
use Rattle.tv_group.proofs.OpenedLemmas.{item_at}
use Rattle.tv_group.proofs.AskedLemmas.{any_leaf, any-all, any-found, any-passed, any-none, any-leaf, any-pane}
use Rattle.tv_group.proofs.group.+held.Goals as goal

pub GroupOf::held-loop-member-init : goal.GroupOf::held-loop-member-init
GroupOf::held-loop-member-init g t c = any-all (λ leaf. holds_mouse leaf) g.V.View.meaning c.args.self.now

pub GroupOf::held-returns-then-held : goal.GroupOf::held-returns-then-held
unfolding any_holds
GroupOf::held-returns-then-held g t c =
    let s = c.args.self.now in let p = c.loop-member in let at = c.deref-member-items in
    let h : p.member-index < length s.members.items = omega (arith, ap length at.ensures.value) in
    any-found (λ leaf. holds_mouse leaf) g.V.View.meaning s.current p.member-index s.members.items c.member-item.result (any_leaf (λ leaf. holds_mouse leaf) (opened g.V.View.meaning s)) c.held.result h
    (item_at p.member-index at.result.now s.members.items c.member-item.result at.ensures.value c.member-item.is) p.invariant c.held.ensures c.if-held.true

pub GroupOf::held-loop-member-preserved : goal.GroupOf::held-loop-member-preserved
unfolding any_holds
GroupOf::held-loop-member-preserved g t c =
    let s = c.args.self.now in let p = c.loop-member in let at = c.deref-member-items in
    let h : p.member-index < length s.members.items = omega (arith, ap length at.ensures.value) in
    any-passed (λ leaf. holds_mouse leaf) g.V.View.meaning s.current p.member-index s.members.items c.member-item.result (any_leaf (λ leaf. holds_mouse leaf) (opened g.V.View.meaning s)) c.held.result h
    (item_at p.member-index at.result.now s.members.items c.member-item.result at.ensures.value c.member-item.is) p.invariant c.held.ensures c.if-held.false

pub GroupOf::held-returns : goal.GroupOf::held-returns
unfolding any_holds
GroupOf::held-returns g t c =
    let s = c.args.self.now in let p = c.loop-member in let at = c.deref-member-items in
    let h : length s.members.items ≤ p.member-index = omega (arith, ap length at.ensures.value) in
    any-none (λ leaf. holds_mouse leaf) g.V.View.meaning s.current p.member-index s.members.items (any_leaf (λ leaf. holds_mouse leaf) (opened g.V.View.meaning s)) h p.invariant

pub MemberOf::held-returns-in-Leaf : goal.MemberOf::held-returns-in-Leaf
unfolding any_holds
MemberOf::held-returns-in-Leaf g t c = c.held.ensures ∙ any-leaf (λ leaf. holds_mouse leaf) g.V.View.meaning c.args.self.now c.in-Leaf.view c.in-Leaf.is

pub MemberOf::held-returns-in-Pane : goal.MemberOf::held-returns-in-Pane
unfolding any_holds
MemberOf::held-returns-in-Pane g t c = c.held-in-Pane.ensures ∙ any-pane (λ leaf. holds_mouse leaf) g.V.View.meaning c.args.self.now c.in-Pane.group c.in-Pane.is
