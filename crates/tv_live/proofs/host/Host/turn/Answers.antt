use Rattle.std.proofs.Common.{refl}
use Rattle.tv_live.specs.Course.{Turns}
use Rattle.tv_live.proofs.host.Host.turn.Goals as goal
use Rattle.tv_machine.specs.Run.{quiet}

pub returns-clause-sees : goal.returns-clause-sees
returns-clause-sees g c = λ colours program s from causes living.
    let was = living.now in
    let done = living.done in
    c.ask.ensures.asks colours program s from causes was living.earlier (quiet was.session) Turns
    (record { course = done.course; all = done.all; here = c.forget_log.ensures.quiet was.session done.here; left = done.left; size = done.size; painter = done.painter; shown = done.shown })
    living.goes refl refl refl (λ now asked. asked)
