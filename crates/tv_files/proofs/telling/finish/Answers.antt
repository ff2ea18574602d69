use Rattle.std.proofs.Common.{refl}
use Rattle.tv_model.specs.Log.LogText.{line_of}
use Rattle.tv_files.specs.Ends.{end_of}
use Rattle.tv_files.specs.Telling.{out_told}
use Rattle.tv_files.specs.Telling.Tells.{written, failed}
use Rattle.tv_files.proofs.TellingLemmas.{IsOffered-written}
use Rattle.tv_files.proofs.telling.finish.Goals as goal

pub returns-in-Ok : goal.returns-in-Ok
returns-in-Ok g c =
    written (g.O.Writer.seen c.tell-status.new.out)
    (IsOffered-written (g.O.Writer.seen c.args.out.now) (g.O.Writer.seen c.tell-status.new.out) (g.O.Writer.seen c.flush.new.self) (out_told (end_of c.args.answer.now)) c.tell-status.ensures.out c.in-Ok.ensures)
    c.in-Ok.ensures
    (g.E.Writer.seen c.tell-status.new.err, c.tell-status.ensures.err, c.close.ensures)
    c.tell-status.ensures.status

pub returns-in-Err : goal.returns-in-Err
unfolding line_of
returns-in-Err g c =
    failed (g.O.Writer.seen c.tell-status.new.out) c.tell-status.ensures.out c.in-Err.ensures
    (g.E.Writer.seen c.tell-status.new.err, c.tell-status.ensures.err, c.tell_last.ensures)
    refl
