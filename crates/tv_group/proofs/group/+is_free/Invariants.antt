use Rattle.std.proofs.Common.{◌≡◌}
use Rattle.std.proofs.Common.{◌&&◌}
use Rattle.tv_view.specs.Calls.{takes_focus}
use Rattle.tv_group.specs.Calls.{is_free_control}
use Rattle.tv_group.specs.Opened.{opened}
use Rattle.tv_group.proofs.AskedLemmas.{any_leaf}
use Rattle.tv_group.proofs.RestLemmas.{opened_from}
use Rattle.tv_group.proofs.group.+is_free.Given as goal

abbrev pub invariant-GroupOf::is_free-loop-member : goal.invariant-GroupOf::is_free-loop-member
invariant-GroupOf::is_free-loop-member g l =
    any_leaf (λ leaf. takes_focus l.id leaf && is_free_control leaf) (opened g.V.View.meaning l.self)
    ≡ any_leaf (λ leaf. takes_focus l.id leaf && is_free_control leaf) (opened_from g.V.View.meaning l.self.current l.member-index l.self.members.items)
