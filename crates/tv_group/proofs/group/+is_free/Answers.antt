use Rattle.std.proofs.Common.{arith, ◌<◌, ◌≤◌, length, ap, ◌∙◌}
use Rattle.std.proofs.Common.{◌&&◌}
use Rattle.tv_view.specs.Calls.{takes_focus}
use Rattle.tv_group.specs.Calls.{is_free_control}
use Rattle.tv_group.specs.Calls.{is_free_id}
use Rattle.tv_group.specs.Opened.{opened}
use Rattle.tv_group.proofs.OpenedLemmas.{item_at}
use Rattle.tv_group.proofs.AskedLemmas.{any_leaf, any-all, any-found, any-passed, any-none, any-leaf, any-pane}
use Rattle.tv_group.proofs.group.+is_free.Goals as goal

pub GroupOf::is_free-loop-member-init : goal.GroupOf::is_free-loop-member-init
GroupOf::is_free-loop-member-init g t c = any-all (λ leaf. takes_focus c.args.id leaf && is_free_control leaf) g.V.View.meaning c.args.self.now

pub GroupOf::is_free-returns-then-is_free : goal.GroupOf::is_free-returns-then-is_free
unfolding is_free_id
GroupOf::is_free-returns-then-is_free g t c =
    let s = c.args.self.now in let p = c.loop-member in let at = c.deref-member-items in
    let h : p.member-index < length s.members.items = omega (arith, ap length at.ensures.value) in
    any-found (λ leaf. takes_focus c.args.id leaf && is_free_control leaf) g.V.View.meaning s.current p.member-index s.members.items c.member-item.result (any_leaf (λ leaf. takes_focus c.args.id leaf && is_free_control leaf) (opened g.V.View.meaning s)) c.is_free.result h
    (item_at p.member-index at.result.now s.members.items c.member-item.result at.ensures.value c.member-item.is) p.invariant c.is_free.ensures c.if-is_free.true

pub GroupOf::is_free-loop-member-preserved : goal.GroupOf::is_free-loop-member-preserved
unfolding is_free_id
GroupOf::is_free-loop-member-preserved g t c =
    let s = c.args.self.now in let p = c.loop-member in let at = c.deref-member-items in
    let h : p.member-index < length s.members.items = omega (arith, ap length at.ensures.value) in
    any-passed (λ leaf. takes_focus c.args.id leaf && is_free_control leaf) g.V.View.meaning s.current p.member-index s.members.items c.member-item.result (any_leaf (λ leaf. takes_focus c.args.id leaf && is_free_control leaf) (opened g.V.View.meaning s)) c.is_free.result h
    (item_at p.member-index at.result.now s.members.items c.member-item.result at.ensures.value c.member-item.is) p.invariant c.is_free.ensures c.if-is_free.false

pub GroupOf::is_free-returns : goal.GroupOf::is_free-returns
unfolding is_free_id
GroupOf::is_free-returns g t c =
    let s = c.args.self.now in let p = c.loop-member in let at = c.deref-member-items in
    let h : length s.members.items ≤ p.member-index = omega (arith, ap length at.ensures.value) in
    any-none (λ leaf. takes_focus c.args.id leaf && is_free_control leaf) g.V.View.meaning s.current p.member-index s.members.items (any_leaf (λ leaf. takes_focus c.args.id leaf && is_free_control leaf) (opened g.V.View.meaning s)) h p.invariant

pub MemberOf::is_free-returns-in-Leaf : goal.MemberOf::is_free-returns-in-Leaf
unfolding is_free_id
MemberOf::is_free-returns-in-Leaf g t c = c.is_free_leaf.ensures ∙ any-leaf (λ leaf. takes_focus c.args.id leaf && is_free_control leaf) g.V.View.meaning c.args.self.now c.in-Leaf.view c.in-Leaf.is

pub MemberOf::is_free-returns-in-Pane : goal.MemberOf::is_free-returns-in-Pane
unfolding is_free_id
MemberOf::is_free-returns-in-Pane g t c = c.is_free.ensures ∙ any-pane (λ leaf. takes_focus c.args.id leaf && is_free_control leaf) g.V.View.meaning c.args.self.now c.in-Pane.group c.in-Pane.is
