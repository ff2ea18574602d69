use Rattle.std.proofs.Common.{Ok, Err, refl, subst}
use Rattle.tv_program.specs.CheckRun.{ChecksTo}
use Rattle.tv_files.specs.Tasks.OnFile.{done}
use Rattle.tv_files.proofs.tasks.check_file.Goals as goal

pub returns-in-Ok : goal.returns-in-Ok
returns-in-Ok g c = done c.in_ok-text.text.items c.in_ok-text.ensures (Ok tt, rw c.as_slice.ensures.value at c.in-Ok.ensures, refl)

pub returns : goal.returns
returns g c =
    done c.in_ok-text.text.items c.in_ok-text.ensures (
      Err c.in-Err.fault,
      subst (λ text. ChecksTo {T = Unit {0}} text (g.W.Writer.seen c.args.out.now) (g.W.Writer.seen c.check.new.out) (Err c.in-Err.fault)) c.as_slice.ensures.value c.in-Err.ensures,
      rw c.from.ensures at c.new.ensures,
    )
