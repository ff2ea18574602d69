use Rattle.std.proofs.Common.{Ok, Err, refl, subst}
use Rattle.tv_files.specs.Explaining.{ExplainsTo}
use Rattle.tv_files.specs.Tasks.OnFile.{done}
use Rattle.tv_files.proofs.explaining.explain_file.Goals as goal

pub returns-in-Ok : goal.returns-in-Ok
returns-in-Ok g c =
    done c.in_ok-text.text.items c.in_ok-text.ensures (
      Ok c.in-Ok.found,
      subst (λ text. ExplainsTo c.args.inquiry.manner c.args.inquiry.file.now text (g.W.Writer.seen c.args.out.now) (g.W.Writer.seen c.explain.new.out) (Ok c.in-Ok.found)) c.as_slice.ensures.value c.in-Ok.ensures,
      c.how_found.ensures,
      refl,
    )

pub returns : goal.returns
returns g c =
    done c.in_ok-text.text.items c.in_ok-text.ensures (
      Err c.in-Err.fault,
      subst (λ text. ExplainsTo c.args.inquiry.manner c.args.inquiry.file.now text (g.W.Writer.seen c.args.out.now) (g.W.Writer.seen c.explain.new.out) (Err c.in-Err.fault)) c.as_slice.ensures.value c.in-Err.ensures,
      refl,
      c.new.ensures,
    )
