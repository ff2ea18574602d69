use Rattle.std.proofs.Common.{refl}
use Rattle.tv_play.proofs.HeardLemmas.{meant-none, meant-some, playing-still}
use Rattle.tv_play.proofs.player.Player.take_meant.Goals as goal

pub returns-in_default-clause-kept : goal.returns-in_default-clause-kept
returns-in_default-clause-kept g c = record { same = record { stage = refl; screen = refl; log = refl; tape = refl }; staged = c.requires.ready.staged; going = λ none. c.requires.ready.going; whole = λ none. c.requires.ready.whole }

pub returns-in_default-clause-acts : goal.returns-in_default-clause-acts
returns-in_default-clause-acts g c = λ s symbols next from playing read means. record {
  turns = playing-still s symbols next from _ _ (meant-none symbols next c.args.action c.in_default.is means) playing;
  read = λ none. read;
}

pub returns-clause-acts : goal.returns-clause-acts
returns-clause-acts g c = λ s symbols next from playing read means.
    c.take_action.ensures.acts s symbols next from playing read (meant-some symbols next c.args.action c.in-Some.action c.in-Some.is means)
