use Rattle.std.proofs.Common.{[], refl, sym, ◌∙◌}
use Rattle.tv_machine.specs.Run.{quiet}
use Rattle.tv_play.specs.Steps.{outside}
use Rattle.tv_play.proofs.PlayLemmas.{come-none, first-turns, run-by, taped-none}
use Rattle.tv_play.proofs.StepLemmas.{going-both, size-quiet, turns-told}
use Rattle.tv_play.proofs.player.Player.play_begun.Goals as goal

pub show_all-requires : goal.show_all-requires
show_all-requires g c = record { there = (c.requires.ready.staged.session, c.requires.ready.staged.here, c.requires.ready.staged.size) }

pub returns-in-Some-clause-same : goal.returns-in-Some-clause-same
returns-in-Some-clause-same g c = record { stage = refl; screen = c.show_all.ensures.same; log = refl; tape = refl }

pub returns-in-Some-clause-runs : goal.returns-in-Some-clause-runs
returns-in-Some-clause-runs g c = λ s stands.
    let old = c.args.self.now in
    let pen = c.show_all.new.pen in
    let begun = outside (g.W.Writer.seen old.log.now) (g.T.Writer.seen old.pen.out.now) (g.R.Writer.seen old.tape.out.now) old.pen.stopped old.tape.stopped old.monitor.now in
    let now = outside (g.W.Writer.seen c.write_log-written.new.log) (g.T.Writer.seen pen.out.now) (g.R.Writer.seen old.tape.out.now) pen.stopped old.tape.stopped c.show_all.new.monitor in
    let Left = g.L.Stage.stands c.write_log-written.new.stage in
    let input = g.P.Pieces.heard c.args.pieces.now in
    run-by s [] input input begun now Left c.in-Some.outcome (come-none input)
    (turns-told s [] begun now Left c.in-Some.ensures
    (first-turns s begun now Left c.is_finished-is_finished.result (c.is_finished-is_finished.ensures s stands) c.write_log-written.result pen.stopped old.tape.stopped refl refl
    (c.write_log-written.ensures.text s stands) (c.show_all.ensures.first s stands c.requires.ready.going refl c.requires.untold) (c.write_log-written.ensures.taken s stands)
    (taped-none (g.R.Writer.seen old.tape.out.now) old.tape.stopped c.requires.ready.whole)))

pub play_all-requires : goal.play_all-requires
play_all-requires g c =
    let staged = c.requires.ready.staged in
    record {
      ready = record {
        staged = record {
          session = quiet staged.session;
          here = c.write_log-written.ensures.taken staged.session staged.here;
          size = size-quiet staged.session c.show_all.new.monitor (c.show_all.ensures.size staged.session staged.size);
        };
        going = (going-both c.is_finished-is_finished.result c.write_log-written.result c.show_all.new.pen.stopped c.args.self.now.tape.stopped (sym c.in-None.ensures)).0;
        whole = c.requires.ready.whole;
      };
    }

pub returns-in-None-clause-same : goal.returns-in-None-clause-same
returns-in-None-clause-same g c =
    let same = c.play_all.ensures.same in
    record { stage = same.stage; screen = same.screen ∙ c.show_all.ensures.same; log = same.log; tape = same.tape }

pub returns-in-None-clause-runs : goal.returns-in-None-clause-runs
returns-in-None-clause-runs g c = λ s stands.
    let old = c.args.self.now in
    let pen = c.show_all.new.pen in
    let begun = outside (g.W.Writer.seen old.log.now) (g.T.Writer.seen old.pen.out.now) (g.R.Writer.seen old.tape.out.now) old.pen.stopped old.tape.stopped old.monitor.now in
    let now = outside (g.W.Writer.seen c.write_log-written.new.log) (g.T.Writer.seen pen.out.now) (g.R.Writer.seen old.tape.out.now) pen.stopped old.tape.stopped c.show_all.new.monitor in
    let Left = g.L.Stage.stands c.write_log-written.new.stage in
    c.play_all.ensures.runs s begun (record {
      run = turns-told s [] begun now Left c.in-None.ensures
          (first-turns s begun now Left c.is_finished-is_finished.result (c.is_finished-is_finished.ensures s stands) c.write_log-written.result pen.stopped old.tape.stopped refl refl
          (c.write_log-written.ensures.text s stands) (c.show_all.ensures.first s stands c.requires.ready.going refl c.requires.untold) (c.write_log-written.ensures.taken s stands)
          (taped-none (g.R.Writer.seen old.tape.out.now) old.tape.stopped c.requires.ready.whole));
      read = c.requires.fresh;
    })
