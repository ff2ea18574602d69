use Rattle.std.proofs.Common.{arith, ◌<◌, ◌≤◌, length, ap}
use Rattle.tv_group.specs.Calls.{gathered_within}
use Rattle.tv_group.specs.Opened.{opened}
use Rattle.tv_group.proofs.OpenedLemmas.{item_at}
use Rattle.tv_group.proofs.GatheredLemmas.{gathered-none, gathered-next, gathered-end, gathered-leaf, gathered-pane}
use Rattle.tv_group.proofs.group.+gather.Goals as goal

pub GroupOf::gather-loop-member-init : goal.GroupOf::gather-loop-member-init
GroupOf::gather-loop-member-init g t c = gathered-none g.V.View.meaning c.args.self.now c.args.values.now

pub GroupOf::gather-loop-member-preserved : goal.GroupOf::gather-loop-member-preserved
GroupOf::gather-loop-member-preserved g t c =
    let look = g.V.View.meaning in let s = c.args.self.now in let p = c.loop-member in let at = c.deref-member-items in
    let h : p.member-index < length s.members.items = omega (arith, ap length at.ensures.value) in
    gathered-next look s.current p.member-index s.members.items c.member-item.result (gathered_within (opened look s) c.args.values.now) p.values c.gather.new.values h
    (item_at p.member-index at.result.now s.members.items c.member-item.result at.ensures.value c.member-item.is) p.invariant c.gather.ensures

pub GroupOf::gather-returns : goal.GroupOf::gather-returns
GroupOf::gather-returns g t c =
    let look = g.V.View.meaning in let s = c.args.self.now in let p = c.loop-member in let at = c.deref-member-items in
    let h : length s.members.items ≤ p.member-index = omega (arith, ap length at.ensures.value) in
    gathered-end look s.current p.member-index s.members.items (gathered_within (opened look s) c.args.values.now) p.values h p.invariant

pub MemberOf::gather-returns-in-Leaf : goal.MemberOf::gather-returns-in-Leaf
MemberOf::gather-returns-in-Leaf g t c =
    gathered-leaf g.V.View.meaning c.args.self.now c.in-Leaf.view c.args.values.now c.gather_leaf.new.values c.in-Leaf.is c.gather_leaf.ensures

pub MemberOf::gather-returns-in-Pane : goal.MemberOf::gather-returns-in-Pane
MemberOf::gather-returns-in-Pane g t c =
    gathered-pane g.V.View.meaning c.args.self.now c.in-Pane.group c.args.values.now c.gather.new.values c.in-Pane.is c.gather.ensures
