use Rattle.std.proofs.Common.{◌≡◌}
use Rattle.tv_group.specs.Calls.{gathered_within}
use Rattle.tv_group.specs.Opened.{opened}
use Rattle.tv_group.proofs.RestLemmas.{opened_from}
use Rattle.tv_group.proofs.group.+gather.Given as goal

abbrev pub invariant-GroupOf::gather-loop-member : goal.invariant-GroupOf::gather-loop-member
invariant-GroupOf::gather-loop-member g l =
    gathered_within (opened g.V.View.meaning l.self) l.initial.values
    ≡ gathered_within (opened_from g.V.View.meaning l.self.current l.member-index l.self.members.items) l.values
