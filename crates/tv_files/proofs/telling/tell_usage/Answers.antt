use Rattle.tv_files.specs.Telling.TellsUsage.{written, failed}
use Rattle.std.proofs.Common.{refl}
use Rattle.tv_files.proofs.TellingLemmas.{IsOffered-written}
use Rattle.tv_files.proofs.telling.tell_usage.Goals as goal

pub returns-in-Ok : goal.returns-in-Ok
returns-in-Ok g c =
    written (g.E.Writer.seen c.offer.new.to)
    (IsOffered-written (g.E.Writer.seen c.args.err.now) (g.E.Writer.seen c.offer.new.to) (g.E.Writer.seen c.flush.new.self) c.args.text.now (rw c.as_bytes.ensures.value at c.offer.ensures) c.in-Ok.ensures)
    c.in-Ok.ensures refl

pub returns-in-Err : goal.returns-in-Err
returns-in-Err g c = failed (g.E.Writer.seen c.offer.new.to) (rw c.as_bytes.ensures.value at c.offer.ensures) c.in-Err.ensures refl
