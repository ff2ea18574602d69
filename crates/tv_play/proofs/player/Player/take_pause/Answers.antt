use Rattle.std.proofs.Common.{◌∷◌, [], ◌++◌}
use Rattle.tv_play.proofs.HeardLemmas.{kept-pause, meant-pause}
use Rattle.tv_play.proofs.player.Player.take_pause.Goals as goal
use Rattle.tv_terminal.specs.Decoding.{Pause}

pub take_meant-requires-clause-ready : goal.take_meant-requires-clause-ready
take_meant-requires-clause-ready g c =
    let ready = c.requires.ready in
    record { staged = record { session = ready.staged.session; here = ready.staged.here; size = ready.staged.size }; going = ready.going; whole = ready.whole }

pub returns-clause-kept : goal.returns-clause-kept
returns-clause-kept g c =
    let kept = c.take_meant.ensures.kept in
    record { same = record { stage = kept.same.stage; screen = kept.same.screen; log = kept.same.log; tape = kept.same.tape }; staged = kept.staged; going = kept.going; whole = kept.whole }

pub returns-clause-hears : goal.returns-clause-hears
returns-clause-hears g c = λ s symbols from played.
    c.take_meant.ensures.acts s symbols (symbols ++ Pause ∷ []) from played.run (kept-pause symbols c.args.self.now.decoder _ played.read c.pause-action.ensures.kept)
    (meant-pause symbols c.args.self.now.decoder c.pause-action.result played.read c.pause-action.ensures.heard)
