use Rattle.std.proofs.Common.{arith, ◌<◌, ◌≤◌, length, sym, ap, ◌∙◌}
use Rattle.tv_view.specs.Meaning.{has_current}
use Rattle.tv_group.proofs.OpenedLemmas.{member-leaf, member-pane}
use Rattle.tv_group.proofs.CurrentLemmas.{lt_false, current-none, current-at, current-past}
use Rattle.tv_group.proofs.group.+has_current.Goals as goal

pub GroupOf::has_current-returns-then-i-len : goal.GroupOf::has_current-returns-then-i-len
GroupOf::has_current-returns-then-i-len g t c =
    let s = c.args.self.now in
    let h : c.in-Some.i < length s.members.items = omega arith in
    c.has_current.ensures ∙ current-at g.V.View.meaning s c.in-Some.i c.index.result.now c.in-Some.is h c.index.ensures

pub GroupOf::has_current-returns-else-i-len : goal.GroupOf::has_current-returns-else-i-len
GroupOf::has_current-returns-else-i-len g t c =
    let s = c.args.self.now in
    let h : length s.members.items ≤ c.in-Some.i = omega arith in
    lt_false c.in-Some.i c.len.result c.if-i-len.false ∙ current-past g.V.View.meaning s c.in-Some.i c.in-Some.is h

pub GroupOf::has_current-returns-in-None : goal.GroupOf::has_current-returns-in-None
GroupOf::has_current-returns-in-None g t c = current-none g.V.View.meaning c.args.self.now c.in-None.is

pub MemberOf::has_current-returns-in-Leaf : goal.MemberOf::has_current-returns-in-Leaf
MemberOf::has_current-returns-in-Leaf g t c = sym (ap has_current (member-leaf g.V.View.meaning c.args.self.now c.in-Leaf.field-0 c.in-Leaf.is))

pub MemberOf::has_current-returns-in-Pane : goal.MemberOf::has_current-returns-in-Pane
MemberOf::has_current-returns-in-Pane g t c = c.has_current.ensures ∙ sym (ap has_current (member-pane g.V.View.meaning c.args.self.now c.in-Pane.group c.in-Pane.is))
