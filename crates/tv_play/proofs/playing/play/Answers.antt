use Rattle.std.proofs.Common.{refl}
use Rattle.tv_play.proofs.playing.play.Goals as goal

pub returns-in_default-clause-plays : goal.returns-in_default-clause-plays
returns-in_default-clause-plays g c = λ s stands. record { ports = refl; left = stands }

pub play_with-requires : goal.play_with-requires
play_with-requires g c = record { there = (c.requires.there.0, c.requires.there.1, c.in-Ok.ensures.size c.requires.there.0 c.requires.there.1); untold = c.in-Ok.ensures.untold }

pub returns-clause-plays : goal.returns-clause-plays
returns-clause-plays g c = λ s stands. rw c.in-Ok.ensures.colours at (c.play_with.ensures.plays s stands)
