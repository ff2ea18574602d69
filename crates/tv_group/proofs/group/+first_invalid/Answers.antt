use Rattle.std.proofs.Common.{arith, ◌<◌, ◌≤◌, length, ap, ◌∙◌}
use Rattle.tv_view.specs.Calls.{invalid_id}
use Rattle.tv_group.specs.Calls.{first_invalid_in}
use Rattle.tv_group.specs.Opened.{opened}
use Rattle.tv_group.proofs.OpenedLemmas.{item_at}
use Rattle.tv_group.proofs.AskedLemmas.{first_leaf, first-all, first-found, first-passed, first-none, first-leaf, first-pane}
use Rattle.tv_group.proofs.group.+first_invalid.Goals as goal

pub GroupOf::first_invalid-loop-member-init : goal.GroupOf::first_invalid-loop-member-init
GroupOf::first_invalid-loop-member-init g t c = first-all invalid_id g.V.View.meaning c.args.self.now

pub GroupOf::first_invalid-returns-in-Some : goal.GroupOf::first_invalid-returns-in-Some
unfolding first_invalid_in
GroupOf::first_invalid-returns-in-Some g t c =
    let s = c.args.self.now in let p = c.loop-member in let at = c.deref-member-items in
    let h : p.member-index < length s.members.items = omega (arith, ap length at.ensures.value) in
    first-found invalid_id g.V.View.meaning s.current p.member-index s.members.items c.member-item.result (first_leaf invalid_id (opened g.V.View.meaning s)) c.first_invalid.result c.in-Some.id h
    (item_at p.member-index at.result.now s.members.items c.member-item.result at.ensures.value c.member-item.is) p.invariant c.first_invalid.ensures c.in-Some.is

pub GroupOf::first_invalid-loop-member-preserved : goal.GroupOf::first_invalid-loop-member-preserved
unfolding first_invalid_in
GroupOf::first_invalid-loop-member-preserved g t c =
    let s = c.args.self.now in let p = c.loop-member in let at = c.deref-member-items in
    let h : p.member-index < length s.members.items = omega (arith, ap length at.ensures.value) in
    first-passed invalid_id g.V.View.meaning s.current p.member-index s.members.items c.member-item.result (first_leaf invalid_id (opened g.V.View.meaning s)) c.first_invalid.result h
    (item_at p.member-index at.result.now s.members.items c.member-item.result at.ensures.value c.member-item.is) p.invariant c.first_invalid.ensures c.in_default.is

pub GroupOf::first_invalid-returns : goal.GroupOf::first_invalid-returns
unfolding first_invalid_in
GroupOf::first_invalid-returns g t c =
    let s = c.args.self.now in let p = c.loop-member in let at = c.deref-member-items in
    let h : length s.members.items ≤ p.member-index = omega (arith, ap length at.ensures.value) in
    first-none invalid_id g.V.View.meaning s.current p.member-index s.members.items (first_leaf invalid_id (opened g.V.View.meaning s)) h p.invariant

pub MemberOf::first_invalid-returns-in-Leaf : goal.MemberOf::first_invalid-returns-in-Leaf
unfolding first_invalid_in
MemberOf::first_invalid-returns-in-Leaf g t c = c.first_invalid.ensures ∙ first-leaf invalid_id g.V.View.meaning c.args.self.now c.in-Leaf.view c.in-Leaf.is

pub MemberOf::first_invalid-returns-in-Pane : goal.MemberOf::first_invalid-returns-in-Pane
unfolding first_invalid_in
MemberOf::first_invalid-returns-in-Pane g t c = c.first_invalid-in-Pane.ensures ∙ first-pane invalid_id g.V.View.meaning c.args.self.now c.in-Pane.group c.in-Pane.is
