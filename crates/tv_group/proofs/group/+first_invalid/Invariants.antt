use Rattle.std.proofs.Common.{◌≡◌}
use Rattle.tv_view.specs.Calls.{invalid_id}
use Rattle.tv_group.specs.Opened.{opened}
use Rattle.tv_group.proofs.AskedLemmas.{first_leaf}
use Rattle.tv_group.proofs.RestLemmas.{opened_from}
use Rattle.tv_group.proofs.group.+first_invalid.Given as goal

abbrev pub invariant-GroupOf::first_invalid-loop-member : goal.invariant-GroupOf::first_invalid-loop-member
invariant-GroupOf::first_invalid-loop-member g l =
    first_leaf invalid_id (opened g.V.View.meaning l.self)
    ≡ first_leaf invalid_id (opened_from g.V.View.meaning l.self.current l.member-index l.self.members.items)
