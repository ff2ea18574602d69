use Rattle.std.proofs.Common.{Ok, Err, None, refl, subst}
use Rattle.tv_advice.specs.Told.{SpellsSound}
use Rattle.tv_files.specs.Ends.{done_in, end_of}
use Rattle.tv_files.specs.Explaining.{ExplainsSecond, ExplainsTo}
use Rattle.tv_files.specs.Explaining.ExplainsFiles.{first, second}
use Rattle.tv_files.proofs.explaining.explain_files.Goals as goal

pub returns-in-Ok-Some : goal.returns-in-Ok-Some
returns-in-Ok-Some g c =
    let told = subst (λ found. ExplainsTo c.args.inquiry.manner c.args.inquiry.file.now c.as_slice.result.now (g.W.Writer.seen c.args.out.now) (g.W.Writer.seen c.explain.new.out) (Ok found)) c.in-Ok-Some.field-0-is c.in-Ok-Some.ensures in
    second (g.F.FileStore.known c.read_file.new.files) c.in_ok-text.text.items c.in-Ok-Some.desc c.in_ok-text.ensures
    (subst (λ text. SpellsSound text c.in-Ok-Some.desc) c.as_slice.ensures.value told.0)
    (subst (λ seen. ExplainsSecond c.args.inquiry.manner c.in-Ok-Some.desc (g.F.FileStore.known c.read_file.new.files) (g.F.FileStore.known c.explain_second.new.files) c.args.beside.now seen (g.W.Writer.seen c.explain_second.new.out) (done_in c.explain_second.result) (end_of c.explain_second.result)) told.1 c.explain_second.ensures)

pub returns-in-Ok-None : goal.returns-in-Ok-None
returns-in-Ok-None g c =
    let told = subst (λ found. ExplainsTo c.args.inquiry.manner c.args.inquiry.file.now c.as_slice.result.now (g.W.Writer.seen c.args.out.now) (g.W.Writer.seen c.explain.new.out) (Ok found)) c.in-Ok-None.field-0-is c.in-Ok-None.ensures in
    first c.in_ok-text.text.items (Ok None) c.in_ok-text.ensures
    (subst (λ text. ExplainsTo c.args.inquiry.manner c.args.inquiry.file.now text (g.W.Writer.seen c.args.out.now) (g.W.Writer.seen c.explain.new.out) (Ok None)) c.as_slice.ensures.value told)
    tt refl refl

pub returns : goal.returns
returns g c =
    first c.in_ok-text.text.items (Err c.in-Err.fault) c.in_ok-text.ensures
    (subst (λ text. ExplainsTo c.args.inquiry.manner c.args.inquiry.file.now text (g.W.Writer.seen c.args.out.now) (g.W.Writer.seen c.explain.new.out) (Err c.in-Err.fault)) c.as_slice.ensures.value c.in-Err.ensures)
    tt refl
    c.new.ensures
