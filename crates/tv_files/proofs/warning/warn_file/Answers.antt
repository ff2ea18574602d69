use Rattle.std.proofs.Common.{Ok, Err, refl, subst}
use Rattle.tv_files.specs.Tasks.OnFile.{done}
use Rattle.tv_files.specs.Warning.{WarnsTo}
use Rattle.tv_files.proofs.warning.warn_file.Goals as goal

pub returns-in-Ok : goal.returns-in-Ok
returns-in-Ok g c =
    done c.in_ok-text.text.items c.in_ok-text.ensures (
      Ok c.in-Ok.done,
      subst (λ text. WarnsTo c.args.inquiry.manner c.args.denies c.args.inquiry.file.now text (g.W.Writer.seen c.args.out.now) (g.W.Writer.seen c.tell_warnings.new.out) (Ok c.in-Ok.done)) c.as_slice.ensures.value c.in-Ok.ensures,
      refl,
      refl,
    )

pub returns : goal.returns
returns g c =
    done c.in_ok-text.text.items c.in_ok-text.ensures (
      Err c.in-Err.fault,
      subst (λ text. WarnsTo c.args.inquiry.manner c.args.denies c.args.inquiry.file.now text (g.W.Writer.seen c.args.out.now) (g.W.Writer.seen c.tell_warnings.new.out) (Err c.in-Err.fault)) c.as_slice.ensures.value c.in-Err.ensures,
      refl,
      c.new.ensures,
    )
