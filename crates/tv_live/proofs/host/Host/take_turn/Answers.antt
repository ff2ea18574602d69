use Rattle.std.proofs.Common.{[], ◌∷◌}
use Rattle.tv_live.specs.Course.{Turns}
use Rattle.tv_live.proofs.HostLemmas.{sees-out, sees-then}
use Rattle.tv_live.proofs.host.Host.take_turn.Goals as goal

pub returns-in-Some-clause-sees : goal.returns-in-Some-clause-sees
returns-in-Some-clause-sees g c = sees-out _ _ _ (Turns ∷ []) c.in-Some.outcome c.in-Some.ensures.sees

pub returns-clause-sees : goal.returns-clause-sees
returns-clause-sees g c = sees-then _ _ _ _ (Turns ∷ []) c.turn.result c.in_default.ensures.sees c.turn.ensures.sees
