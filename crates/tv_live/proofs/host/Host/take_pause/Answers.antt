use Rattle.std.proofs.Common.{[], ap, map}
use Rattle.tv_live.specs.Course.{Does}
use Rattle.tv_live.proofs.HostLemmas.{sees-as}
use Rattle.tv_live.proofs.host.Host.take_pause.Goals as goal
use Rattle.tv_terminal.specs.Decoding.{before}

pub take_meant-requires-clause-ready : goal.take_meant-requires-clause-ready
take_meant-requires-clause-ready g c = c.requires.ready

pub returns-clause-sees : goal.returns-clause-sees
returns-clause-sees g c = sees-as _ _ _ _ c.take_meant.result (ap (λ o. map Does (before o [])) c.pause-action.ensures.heard) c.take_meant.ensures.sees
