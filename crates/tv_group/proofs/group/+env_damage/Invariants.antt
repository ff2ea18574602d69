use Rattle.std.proofs.Common.{[]}
use Rattle.tv_view.specs.Damage.{AllEnvDrawn}
use Rattle.tv_group.proofs.OpenedLemmas.{opened_to}
use Rattle.tv_group.proofs.group.+env_damage.Given as goal

abbrev pub invariant-GroupOf::env_damage-loop-member : goal.invariant-GroupOf::env_damage-loop-member
invariant-GroupOf::env_damage-loop-member g l =
    AllEnvDrawn l.old l.new (opened_to g.V.View.meaning l.self.current l.member-index l.self.members.items) [] l.inner
