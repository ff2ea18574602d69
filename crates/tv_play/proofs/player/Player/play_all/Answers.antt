use Rattle.std.proofs.Common.{◌++◌, [], false, arith, refl, sym, ◌∙◌, inr, length-append}
use Rattle.tv_play.specs.Pieces.{symbols_in}
use Rattle.tv_play.proofs.PlayLemmas.{come-none, come-then, goes-to, passes-on, played-on, played-out, plays-on, run-by, run-ended, run-unheard, some-symbols, turned-passed, went-on}
use Rattle.tv_play.proofs.StepLemmas.{going-both}
use Rattle.tv_play.proofs.player.Player.play_all.Goals as goal

pub loop-turn-init : goal.loop-turn-init
loop-turn-init g c = record {
  same = record { stage = refl; screen = refl; log = refl; tape = refl };
  ready = c.requires.ready;
  symbols = [];
  many = omega arith;
  came = come-none (g.P.Pieces.heard c.args.pieces.now);
  plays = λ s from played. played;
}

pub returns-in-Some-clause-same : goal.returns-in-Some-clause-same
returns-in-Some-clause-same g c =
    let before = c.loop-turn.invariant.same in
    record { stage = before.stage; screen = c.pass_on.ensures.puts.same ∙ before.screen; log = before.log; tape = c.pass_on-in-loop-turn.ensures.puts.same ∙ before.tape }

pub returns-in-Some-clause-runs : goal.returns-in-Some-clause-runs
returns-in-Some-clause-runs g c = λ s from played.
    let before = c.loop-turn.invariant in
    let turned = turned-passed s before.symbols from _ _ _ _ _ _ _ _ _ _ _ _ c.pass_on-passed.result c.pass_on-passed.ensures c.pass_on.ensures.puts.how c.pass_on-in-loop-turn.ensures.puts.how (before.plays s from played).run in
    run-by s before.symbols _ _ from _ _ c.in-Some.outcome before.came (played-out s before.symbols from _ _ c.in-Some.outcome _ c.in-Some.ensures turned)

pub returns-in_default-next-clause-same : goal.returns-in_default-next-clause-same
returns-in_default-next-clause-same g c =
    let before = c.loop-turn.invariant.same in
    record { stage = before.stage; screen = c.pass_on.ensures.puts.same ∙ before.screen; log = before.log; tape = c.pass_on-in-loop-turn.ensures.puts.same ∙ before.tape }

pub returns-in_default-next-clause-runs : goal.returns-in_default-next-clause-runs
returns-in_default-next-clause-runs g c = λ s from played.
    let before = c.loop-turn.invariant in
    let none = sym c.in_default.is ∙ c.outcome_of.ensures in
    let turned = turned-passed s before.symbols from _ _ _ _ _ _ _ _ _ _ _ _ c.pass_on-passed.result c.pass_on-passed.ensures c.pass_on.ensures.puts.how c.pass_on-in-loop-turn.ensures.puts.how (before.plays s from played).run in
    run-unheard s before.symbols _ (g.P.Pieces.heard c.loop-turn.pieces) _ from _ _ before.came (c.next.ensures.failed c.in_default-next.is) (passes-on _ _ c.pass_on-passed.result _ _ none c.pass_on-passed.ensures)
    (c.pass_on-in-loop-turn.ensures.none (going-both false c.pass_on-passed.result _ _ (sym none)).1)
    (c.pass_on.ensures.none (going-both false c.pass_on-passed.result _ _ (sym none)).0)
    (played-on s before.symbols from _ _ _ none turned)

pub take_piece-outcome-requires-clause-within : goal.take_piece-outcome-requires-clause-within
take_piece-outcome-requires-clause-within g c = c.in-Some-next.ensures.within

pub take_piece-outcome-requires-clause-ready : goal.take_piece-outcome-requires-clause-ready
take_piece-outcome-requires-clause-ready g c =
    let ready = c.loop-turn.invariant.ready in
    record {
      staged = record { session = ready.staged.session; here = ready.staged.here; size = ready.staged.size };
      going = (going-both false c.pass_on-passed.result c.pass_on.new.self.stopped c.pass_on-in-loop-turn.new.self.stopped (sym c.outcome_of.ensures ∙ c.in_default.is)).0;
      whole = (going-both false c.pass_on-passed.result c.pass_on.new.self.stopped c.pass_on-in-loop-turn.new.self.stopped (sym c.outcome_of.ensures ∙ c.in_default.is)).1;
    }

pub returns-in-Some-or_end-clause-same : goal.returns-in-Some-or_end-clause-same
returns-in-Some-or_end-clause-same g c =
    let before = c.loop-turn.invariant.same in
    let same = c.take_piece-outcome.ensures.kept.same in
    record { stage = same.stage ∙ before.stage; screen = same.screen ∙ c.pass_on.ensures.puts.same ∙ before.screen; log = same.log ∙ before.log; tape = same.tape ∙ c.pass_on-in-loop-turn.ensures.puts.same ∙ before.tape }

pub returns-in-Some-or_end-clause-runs : goal.returns-in-Some-or_end-clause-runs
returns-in-Some-or_end-clause-runs g c = λ s from played.
    let before = c.loop-turn.invariant in
    let so_far = before.plays s from played in
    let none = sym c.in_default.is ∙ c.outcome_of.ensures in
    let turned = turned-passed s before.symbols from _ _ _ _ _ _ _ _ _ _ _ _ c.pass_on-passed.result c.pass_on-passed.ensures c.pass_on.ensures.puts.how c.pass_on-in-loop-turn.ensures.puts.how so_far.run in
    let heard = c.take_piece-outcome.ensures.hears s before.symbols from (record { run = played-on s before.symbols from _ _ _ none turned; read = so_far.read }) in
    goes-to s before.symbols c.in-Some-next.piece c.next.new.room (g.P.Pieces.heard c.args.pieces.now) (g.P.Pieces.heard c.loop-turn.pieces) (g.P.Pieces.heard c.next.new.self) from _ _
    c.take_piece-outcome.result _ c.in-Some-or_end.ensures before.came c.in-Some-next.ensures.came heard.turns

pub loop-turn-preserved : goal.loop-turn-preserved
loop-turn-preserved g c =
    let before = c.loop-turn.invariant in
    let piece = c.in-Some-next.piece in
    let room = c.next.new.room in
    let none = sym c.in_default.is ∙ c.outcome_of.ensures in
    let on = sym c.in_default-or_end.is ∙ c.or_end.ensures in
    let same = c.take_piece-outcome.ensures.kept.same in
    let went = went-on c.take_piece-outcome.result piece on in
    record {
      same = record { stage = same.stage ∙ before.same.stage; screen = same.screen ∙ c.pass_on.ensures.puts.same ∙ before.same.screen; log = same.log ∙ before.same.log; tape = same.tape ∙ c.pass_on-in-loop-turn.ensures.puts.same ∙ before.same.tape };
      ready = record { staged = c.take_piece-outcome.ensures.kept.staged; going = c.take_piece-outcome.ensures.kept.going went; whole = c.take_piece-outcome.ensures.kept.whole went };
      symbols = before.symbols ++ symbols_in piece room;
      many = omega (arith, before.many, some-symbols piece room c.in-Some-next.ensures.within, length-append before.symbols (symbols_in piece room));
      came = come-then before.symbols (symbols_in piece room) before.came c.in-Some-next.ensures.came.has;
      plays = λ s from played.
          let so_far = before.plays s from played in
          let turned = turned-passed s before.symbols from _ _ _ _ _ _ _ _ _ _ _ _ c.pass_on-passed.result c.pass_on-passed.ensures c.pass_on.ensures.puts.how c.pass_on-in-loop-turn.ensures.puts.how so_far.run in
          let heard = c.take_piece-outcome.ensures.hears s before.symbols from (record { run = played-on s before.symbols from _ _ _ none turned; read = so_far.read }) in
          record { run = plays-on s (before.symbols ++ symbols_in piece room) from _ _ c.take_piece-outcome.result piece on heard.turns; read = heard.read went };
    }

pub returns-clause-same : goal.returns-clause-same
returns-clause-same g c = c.loop-turn.invariant.same

pub returns-clause-runs : goal.returns-clause-runs
returns-clause-runs g c = λ s from played.
    let before = c.loop-turn.invariant in
    run-ended s before.symbols _ _ from _ _ before.came (inr (omega (arith, before.many, c.loop-turn-test.false))) (before.plays s from played).run
