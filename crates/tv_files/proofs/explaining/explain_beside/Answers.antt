use Rattle.std.proofs.Common.{subst, string_bytes}
use Rattle.tv_io.specs.Writer.{Cuts, Takes}
use Rattle.tv_advice.specs.Beginnings.{is_certificate}
use Rattle.tv_files.proofs.ExplainLemmas.{IsReportIn, told_report}
use Rattle.tv_files.proofs.explaining.explain_beside.Goals as goal

pub returns-in-Ok : goal.returns-in-Ok
returns-in-Ok g c = (
  string_bytes c.in-Faulty.report,
  subst (λ told. IsReportIn (is_certificate c.args.text.now) c.args.beside.manner c.args.beside.file.now c.args.desc c.args.text.now told) c.in-Faulty.is (told_report (is_certificate c.args.text.now) c.args.beside.manner c.args.beside.file.now c.args.desc c.args.text.now c.in_ok-tell_beside.field-0 c.in_ok-tell_beside.ensures),
  subst (λ bytes. Takes (g.W.Writer.seen c.args.out.now) (g.W.Writer.seen c.write_all.new.out) bytes) c.as_bytes.ensures.value c.in-Ok.ensures,
)

pub returns-in-Faulty : goal.returns-in-Faulty
returns-in-Faulty g c = (
  string_bytes c.in-Faulty.report,
  subst (λ told. IsReportIn (is_certificate c.args.text.now) c.args.beside.manner c.args.beside.file.now c.args.desc c.args.text.now told) c.in-Faulty.is (told_report (is_certificate c.args.text.now) c.args.beside.manner c.args.beside.file.now c.args.desc c.args.text.now c.in_ok-tell_beside.field-0 c.in_ok-tell_beside.ensures),
  subst (λ bytes. Cuts (g.W.Writer.seen c.args.out.now) (g.W.Writer.seen c.write_all.new.out) bytes) c.as_bytes.ensures.value c.in-Err.ensures,
)
