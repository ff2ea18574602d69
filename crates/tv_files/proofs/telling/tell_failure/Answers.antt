use Rattle.std.proofs.Common.{subst}
use Rattle.tv_program.specs.Report.{IsOffered}
use Rattle.tv_files.specs.Telling.{no_way_message}
use Rattle.tv_files.proofs.telling.tell_failure.Goals as goal

pub returns-in-Picture-clause-err : goal.returns-in-Picture-clause-err
returns-in-Picture-clause-err g c = rw c.in-Picture.is c.tell_unwritten.ensures

pub returns-in-Box-clause-err : goal.returns-in-Box-clause-err
returns-in-Box-clause-err g c = rw c.in-Box.is c.tell_unboxed.ensures

pub returns-in-Tape-clause-err : goal.returns-in-Tape-clause-err
returns-in-Tape-clause-err g c = rw c.in-Tape.is c.tell_untaped.ensures

pub returns-in-NoWay-clause-err : goal.returns-in-NoWay-clause-err
returns-in-NoWay-clause-err g c =
    rw c.in-NoWay.is (subst (λ message. IsOffered (g.E.Writer.seen c.args.err.now) (g.E.Writer.seen c.tell_no_way.new.err) (no_way_message c.in-NoWay.path.now message)) c.as_slice.ensures.value c.tell_no_way.ensures)
