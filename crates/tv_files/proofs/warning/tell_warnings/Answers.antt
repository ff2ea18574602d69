use Rattle.std.proofs.Common.{Ok, Err, None, Option, ap, refl, subst}
use Rattle.tv_files.specs.Explaining.{ExplainsTo}
use Rattle.tv_files.specs.Warning.{WarnsOf}
use Rattle.tv_files.specs.Warning.WarnsTo.{faulty, sound}
use Rattle.tv_files.proofs.WaysLemmas.{err-is}
use Rattle.tv_files.specs.declared.done.Done.{Done}
use Rattle.tv_model.specs.declared.desc.Desc.{Desc}
use Rattle.tv_files.proofs.warning.tell_warnings.Goals as goal

pub returns-in_err-desc : goal.returns-in_err-desc
returns-in_err-desc g c = faulty (Err c.in_err-desc.field-0.0) c.in_err-desc.ensures tt (err-is c.in_err-desc.field-0.0 c.from_residual.result c.from_residual.ensures.1)

pub returns-in-None : goal.returns-in-None
returns-in-None g c =
    faulty (Ok None)
    (subst (λ (found : Option Desc). ExplainsTo c.args.inquiry.manner c.args.inquiry.file.now c.args.text.now (g.W.Writer.seen c.args.out.now) (g.W.Writer.seen c.explain.new.out) (Ok found)) c.in-None.is c.in_ok-desc.ensures)
    tt refl

pub returns-in_err-is_any-in-Some : goal.returns-in_err-is_any-in-Some
returns-in_err-is_any-in-Some g c =
    let told = subst (λ (found : Option Desc). ExplainsTo c.args.inquiry.manner c.args.inquiry.file.now c.args.text.now (g.W.Writer.seen c.args.out.now) (g.W.Writer.seen c.explain.new.out) (Ok found)) c.in-Some.is c.in_ok-desc.ensures in
    sound c.in-Some.desc (Err c.in_err-is_any-in-Some.field-0.0) told.0
    (subst (λ seen. WarnsOf c.args.inquiry.manner c.args.inquiry.file.now c.args.text.now c.in-Some.desc seen (g.W.Writer.seen c.write_warnings.new.out) (Err c.in_err-is_any-in-Some.field-0.0)) told.1 c.in_err-is_any-in-Some.ensures)
    (err-is c.in_err-is_any-in-Some.field-0.0 c.from_residual-in_err-is_any-in-Some.result c.from_residual-in_err-is_any-in-Some.ensures.1)

pub returns-in_ok-is_any-in-Some : goal.returns-in_ok-is_any-in-Some
returns-in_ok-is_any-in-Some g c =
    let told = subst (λ (found : Option Desc). ExplainsTo c.args.inquiry.manner c.args.inquiry.file.now c.args.text.now (g.W.Writer.seen c.args.out.now) (g.W.Writer.seen c.explain.new.out) (Ok found)) c.in-Some.is c.in_ok-desc.ensures in
    sound c.in-Some.desc (Ok c.in_ok-is_any-in-Some.is_any) told.0
    (subst (λ seen. WarnsOf c.args.inquiry.manner c.args.inquiry.file.now c.args.text.now c.in-Some.desc seen (g.W.Writer.seen c.write_warnings.new.out) (Ok c.in_ok-is_any-in-Some.is_any)) told.1 c.in_ok-is_any-in-Some.ensures)
    (ap (λ (how : Done). Ok how) c.how_warned.ensures)
