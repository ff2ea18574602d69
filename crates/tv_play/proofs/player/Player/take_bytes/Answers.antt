use Rattle.std.proofs.Common.{ℕ, ◌+◌, List, ◌∷◌, [], ◌++◌, drop, get_or, map, refl, subst, sym, ap, ◌∙◌, take}
use Rattle.std.proofs.lemmas.List.{append-nil, take_all}
use Rattle.tv_play.specs.Steps.{HasPlayedOut, outside}
use Rattle.tv_play.proofs.HeardLemmas.{bytes-all, bytes-more, kept-byte, meant-byte, played-wider}
use Rattle.tv_play.proofs.PlayerLemmas.{played-along}
use Rattle.tv_play.proofs.player.Player.take_bytes.Goals as goal
use Rattle.tv_terminal.specs.Decoding.{Byte}

pub loop-byte-init : goal.loop-byte-init
loop-byte-init g c = record {
  same = record { stage = refl; screen = refl; log = refl; tape = refl };
  ready = c.requires.ready;
  plays = λ s symbols from played. played-along s symbols (symbols ++ []) from (sym (append-nil symbols)) played;
}

pub take_meant-requires-clause-sent : goal.take_meant-requires-clause-sent
take_meant-requires-clause-sent g c = c.take-action.ensures.sent

pub take_meant-requires-clause-ready : goal.take_meant-requires-clause-ready
take_meant-requires-clause-ready g c =
    let ready = c.loop-byte.invariant.ready in
    record { staged = record { session = ready.staged.session; here = ready.staged.here; size = ready.staged.size }; going = ready.going; whole = ready.whole }

pub returns-in-Some-clause-kept : goal.returns-in-Some-clause-kept
returns-in-Some-clause-kept g c =
    let same = c.take_meant.ensures.kept.same in
    let before = c.loop-byte.invariant.same in
    record { same = record { stage = same.stage ∙ before.stage; screen = same.screen ∙ before.screen; log = same.log ∙ before.log; tape = same.tape ∙ before.tape }; staged = c.take_meant.ensures.kept.staged; going = λ none. absurd cc; whole = λ none. absurd cc }

pub returns-in-Some-clause-hears : goal.returns-in-Some-clause-hears
returns-in-Some-clause-hears g c = λ s symbols from played.
    let i = c.loop-byte.byte-index in
    let bytes = c.args.bytes.now in
    let byte = get_or bytes i 0 in
    let here = symbols ++ map Byte (take i bytes) in
    let before = c.loop-byte.invariant.plays s symbols from played in
    let new = c.take_meant.new.self in
    let now = outside (g.W.Writer.seen new.log.now) (g.T.Writer.seen new.pen.out.now) (g.R.Writer.seen new.tape.out.now) new.pen.stopped new.tape.stopped new.monitor.now in
    let New = g.L.Stage.stands new.stage.now in
    let turned = c.in-Some.ensures.acts s here (here ++ Byte byte ∷ []) from before.run
    (kept-byte here byte c.loop-byte.self.decoder c.take-action.new.self before.read c.take-action.ensures.kept)
    (meant-byte here byte c.loop-byte.self.decoder c.take-action.result before.read c.take-action.ensures.heard) in
    record {
      turns = subst (λ x. HasPlayedOut s x from now New c.in-Some.outcome)
          (ap (λ x. x ++ map Byte (drop (i + 1) bytes)) (bytes-more symbols bytes i c.loop-byte-test.true) ∙ bytes-all symbols bytes (i + 1))
          (played-wider s (here ++ Byte byte ∷ []) (map Byte (drop (i + 1) bytes)) from now New c.in-Some.outcome turned.turns);
      read = λ none. absurd cc;
    }

pub loop-byte-preserved : goal.loop-byte-preserved
loop-byte-preserved g c =
    let i = c.loop-byte.byte-index in
    let bytes = c.args.bytes.now in
    let byte = get_or bytes i 0 in
    let before = c.loop-byte.invariant in
    let same = c.take_meant.ensures.kept.same in
    record {
      same = record { stage = same.stage ∙ before.same.stage; screen = same.screen ∙ before.same.screen; log = same.log ∙ before.same.log; tape = same.tape ∙ before.same.tape };
      ready = record { staged = c.take_meant.ensures.kept.staged; going = c.in_default.ensures.kept.going refl; whole = c.in_default.ensures.kept.whole refl };
      plays = λ s symbols from played.
          let here = symbols ++ map Byte (take i bytes) in
          let so_far = before.plays s symbols from played in
          let turned = c.in_default.ensures.acts s here (here ++ Byte byte ∷ []) from so_far.run
          (kept-byte here byte c.loop-byte.self.decoder c.take-action.new.self so_far.read c.take-action.ensures.kept)
          (meant-byte here byte c.loop-byte.self.decoder c.take-action.result so_far.read c.take-action.ensures.heard) in
          played-along s (here ++ Byte byte ∷ []) (symbols ++ map Byte (take (i + 1) bytes)) from (bytes-more symbols bytes i c.loop-byte-test.true) (record { run = turned.turns; read = turned.read refl });
    }

pub returns-clause-kept : goal.returns-clause-kept
returns-clause-kept g c = record { same = c.loop-byte.invariant.same; staged = c.loop-byte.invariant.ready.staged; going = λ none. c.loop-byte.invariant.ready.going; whole = λ none. c.loop-byte.invariant.ready.whole }

pub returns-clause-hears : goal.returns-clause-hears
returns-clause-hears g c = λ s symbols from played.
    let all = played-along s _ (symbols ++ map Byte c.args.bytes.now) from (ap (λ (x : List ℕ). symbols ++ map Byte x) (take_all c.loop-byte.byte-index c.args.bytes.now c.loop-byte-test.false))
    (c.loop-byte.invariant.plays s symbols from played) in
    record { turns = all.run; read = λ none. all.read }
