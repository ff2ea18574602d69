use Rattle.std.proofs.Common.{ap, refl, rules}
use Rattle.tv_play.proofs.PlayLemmas.{plays-lent, shown-lent}
use Rattle.tv_play.proofs.playing.play_with.Goals as goal

pub play_through-requires-clause-ready : goal.play_through-requires-clause-ready
play_through-requires-clause-ready g c =
    let there = c.requires.there in
    record { staged = record { session = there.0; here = there.1; size = there.2 }; going = refl; whole = refl }

pub returns-clause-plays : goal.returns-clause-plays
returns-clause-plays g c = λ s stands.
    let same = c.play_through.ensures.same in
    plays-lent g.L.Stage.stands _ _ s _ _ _ _ _ _ _ _ c.play_through.result
    (search (rules, same.stage)) (ap g.W.Writer.seen (search (rules, same.log))) (ap g.T.Writer.seen (search (rules, same.screen))) (ap g.R.Writer.seen (search (rules, same.tape)))
    (c.play_through.ensures.plays s stands)

pub returns-clause-passed : goal.returns-clause-passed
returns-clause-passed g c =
    let same = c.play_through.ensures.same in
    shown-lent g.T.Writer.seen _ _ _ c.play_through.result (ap g.T.Writer.seen (search (rules, same.screen))) c.play_through.ensures.passed
