use Rattle.std.proofs.Common.{[], None, ap, map, sym}
use Rattle.tv_live.specs.Course.{Does}
use Rattle.tv_live.proofs.HostLemmas.{sees-as, sees-none}
use Rattle.tv_live.proofs.host.Host.take_meant.Goals as goal
use Rattle.tv_terminal.specs.Decoding.{before}

pub returns-in_default-clause-sees : goal.returns-in_default-clause-sees
returns-in_default-clause-sees g c = sees-as _ _ [] _ None (ap (λ o. map Does (before o [])) (sym c.in_default.is)) (sees-none _)

pub returns-clause-sees : goal.returns-clause-sees
returns-clause-sees g c = sees-as _ _ _ _ c.take_action.result (ap (λ o. map Does (before o [])) (sym c.in-Some.is)) c.take_action.ensures.sees
