use Rattle.tv_play.proofs.LiveLemmas.{keeps-screen, placed-given}
use Rattle.tv_play.proofs.session.SessionOfLive.react.Goals as goal

pub step-requires-clause-near : goal.step-requires-clause-near
step-requires-clause-near g c = placed-given c.args.event.now c.requires.near

pub step-requires-clause-there : goal.step-requires-clause-there
step-requires-clause-there g c = c.requires.there

pub returns-clause-rest : goal.returns-clause-rest
returns-clause-rest g c = λ s stands.
    keeps-screen c.step.new.self.repainted s c.args.event.now c.args.self.now.screen c.step.new.self.screen
    stands.screen (c.step.ensures.stands s stands).screen (c.step.ensures.within s stands) c.step.ensures.rest
