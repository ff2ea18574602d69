use Rattle.std.proofs.Common.{◌≡◌}
use Rattle.tv_view.specs.Meaning.{holds_mouse}
use Rattle.tv_group.specs.Opened.{opened}
use Rattle.tv_group.proofs.AskedLemmas.{any_leaf}
use Rattle.tv_group.proofs.RestLemmas.{opened_from}
use Rattle.tv_group.proofs.group.+held.Given as goal

abbrev pub invariant-GroupOf::held-loop-member : goal.invariant-GroupOf::held-loop-member
invariant-GroupOf::held-loop-member g l =
    any_leaf (λ leaf. holds_mouse leaf) (opened g.V.View.meaning l.self)
    ≡ any_leaf (λ leaf. holds_mouse leaf) (opened_from g.V.View.meaning l.self.current l.member-index l.self.members.items)
