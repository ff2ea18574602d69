use Rattle.std.proofs.Common.{◌≡◌}
use Rattle.tv_group.specs.Opened.{opened}
use Rattle.tv_group.proofs.AskedLemmas.{any_leaf}
use Rattle.tv_group.proofs.RestLemmas.{opened_from}
use Rattle.tv_group.proofs.group.+has_focus.Given as goal

abbrev pub invariant-GroupOf::has_focus-loop-member : goal.invariant-GroupOf::has_focus-loop-member
invariant-GroupOf::has_focus-loop-member g l =
    any_leaf (λ leaf. leaf.is_focused) (opened g.V.View.meaning l.self)
    ≡ any_leaf (λ leaf. leaf.is_focused) (opened_from g.V.View.meaning l.self.current l.member-index l.self.members.items)
