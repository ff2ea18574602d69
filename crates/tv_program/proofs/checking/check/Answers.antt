use Rattle.std.proofs.Common.{◌≡◌, ap, ◌∙◌, subst}
use Rattle.tv_certificate.specs.CertificateTexts.{certificate_lines}
use Rattle.tv_check.specs.Certificates.{certificate_of}
use Rattle.tv_io.specs.Writer.{Takes}
use Rattle.tv_words.specs.Canonical.{canonical_text}
use Rattle.tv_program.specs.CheckRun.{certificate_text}
use Rattle.tv_program.proofs.CheckLemmas.{cut-ChecksTo, faulty-ChecksTo, memory-ChecksTo}
use Rattle.tv_program.proofs.checking.check.Goals as goal

pub returns-in_err-checked : goal.returns-in_err-checked
returns-in_err-checked g c =
    faulty-ChecksTo c.args.text.now (g.W.Writer.seen c.args.out.now) c.in_ok-desc.desc c.in_ok-desc.ensures.spelled c.in_err-checked.field-0.0 c.in_err-checked.ensures.no
    c.from_residual-in_err-checked.result c.from_residual-in_err-checked.ensures.1

pub returns-in_err-certificate : goal.returns-in_err-certificate
returns-in_err-certificate g c =
    memory-ChecksTo c.args.text.now (g.W.Writer.seen c.args.out.now) c.from_residual-in_err-certificate.result c.from_residual-in_err-certificate.ensures.1

pub returns-in_err-printed : goal.returns-in_err-printed
returns-in_err-printed g c =
    memory-ChecksTo c.args.text.now (g.W.Writer.seen c.args.out.now) c.from_residual-in_err-printed.result c.from_residual-in_err-printed.ensures.1

pub returns-in_err-write_all : goal.returns-in_err-write_all
returns-in_err-write_all g c =
    let made = c.in_ok-certificate.ensures.value ∙ ap certificate_of c.in_ok-checked.ensures.yes.0 in
    let whole : c.as_bytes.result.now ≡ certificate_text c.in_ok-desc.desc =
    c.as_bytes.ensures.value ∙ c.in_ok-printed.ensures.text ∙ ap (λ certificate. canonical_text (certificate_lines certificate)) made in
    cut-ChecksTo c.args.text.now (g.W.Writer.seen c.args.out.now) (g.W.Writer.seen c.write_all.new.out) c.in_ok-desc.desc
    (record { spelled = c.in_ok-desc.ensures.spelled; sound = c.in_ok-checked.ensures.yes.1 })
    c.as_bytes.result.now whole c.in_err-write_all.ensures
    c.from_residual-in_err-write_all.result c.from_residual-in_err-write_all.ensures.1

pub returns : goal.returns
returns g c =
    let made = c.in_ok-certificate.ensures.value ∙ ap certificate_of c.in_ok-checked.ensures.yes.0 in
    let whole : c.as_bytes.result.now ≡ certificate_text c.in_ok-desc.desc =
    c.as_bytes.ensures.value ∙ c.in_ok-printed.ensures.text ∙ ap (λ certificate. canonical_text (certificate_lines certificate)) made in (
      c.in_ok-desc.desc,
      record { spelled = c.in_ok-desc.ensures.spelled; sound = c.in_ok-checked.ensures.yes.1 },
      subst (λ text. Takes (g.W.Writer.seen c.args.out.now) (g.W.Writer.seen c.write_all.new.out) text) whole c.in_ok-write_all.ensures,
    )
