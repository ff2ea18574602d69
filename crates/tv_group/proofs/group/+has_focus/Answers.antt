use Rattle.std.proofs.Common.{arith, ◌<◌, ◌≤◌, length, ap, ◌∙◌}
use Rattle.tv_group.specs.Calls.{any_focused}
use Rattle.tv_group.specs.Opened.{opened}
use Rattle.tv_group.proofs.OpenedLemmas.{item_at}
use Rattle.tv_group.proofs.AskedLemmas.{any_leaf, any-all, any-found, any-passed, any-none, any-leaf, any-pane}
use Rattle.tv_group.proofs.group.+has_focus.Goals as goal

pub GroupOf::has_focus-loop-member-init : goal.GroupOf::has_focus-loop-member-init
GroupOf::has_focus-loop-member-init g t c = any-all (λ leaf. leaf.is_focused) g.V.View.meaning c.args.self.now

pub GroupOf::has_focus-returns-then-has_focus : goal.GroupOf::has_focus-returns-then-has_focus
unfolding any_focused
GroupOf::has_focus-returns-then-has_focus g t c =
    let s = c.args.self.now in let p = c.loop-member in let at = c.deref-member-items in
    let h : p.member-index < length s.members.items = omega (arith, ap length at.ensures.value) in
    any-found (λ leaf. leaf.is_focused) g.V.View.meaning s.current p.member-index s.members.items c.member-item.result (any_leaf (λ leaf. leaf.is_focused) (opened g.V.View.meaning s)) c.has_focus.result h
    (item_at p.member-index at.result.now s.members.items c.member-item.result at.ensures.value c.member-item.is) p.invariant c.has_focus.ensures c.if-has_focus.true

pub GroupOf::has_focus-loop-member-preserved : goal.GroupOf::has_focus-loop-member-preserved
unfolding any_focused
GroupOf::has_focus-loop-member-preserved g t c =
    let s = c.args.self.now in let p = c.loop-member in let at = c.deref-member-items in
    let h : p.member-index < length s.members.items = omega (arith, ap length at.ensures.value) in
    any-passed (λ leaf. leaf.is_focused) g.V.View.meaning s.current p.member-index s.members.items c.member-item.result (any_leaf (λ leaf. leaf.is_focused) (opened g.V.View.meaning s)) c.has_focus.result h
    (item_at p.member-index at.result.now s.members.items c.member-item.result at.ensures.value c.member-item.is) p.invariant c.has_focus.ensures c.if-has_focus.false

pub GroupOf::has_focus-returns : goal.GroupOf::has_focus-returns
unfolding any_focused
GroupOf::has_focus-returns g t c =
    let s = c.args.self.now in let p = c.loop-member in let at = c.deref-member-items in
    let h : length s.members.items ≤ p.member-index = omega (arith, ap length at.ensures.value) in
    any-none (λ leaf. leaf.is_focused) g.V.View.meaning s.current p.member-index s.members.items (any_leaf (λ leaf. leaf.is_focused) (opened g.V.View.meaning s)) h p.invariant

pub MemberOf::has_focus-returns-in-Leaf : goal.MemberOf::has_focus-returns-in-Leaf
unfolding any_focused
MemberOf::has_focus-returns-in-Leaf g t c = c.is_focused.ensures ∙ any-leaf (λ leaf. leaf.is_focused) g.V.View.meaning c.args.self.now c.in-Leaf.view c.in-Leaf.is

pub MemberOf::has_focus-returns-in-Pane : goal.MemberOf::has_focus-returns-in-Pane
unfolding any_focused
MemberOf::has_focus-returns-in-Pane g t c = c.has_focus.ensures ∙ any-pane (λ leaf. leaf.is_focused) g.V.View.meaning c.args.self.now c.in-Pane.group c.in-Pane.is
