use Rattle.std.proofs.Common.{◌≡◌, ◌≤◌, length, arith}
use Rattle.std.proofs.lemmas.Result.{IfOk-weaker}
use Rattle.tv_certificate.specs.CertificateReading.{Value, certificate_outcome}
use Rattle.tv_certificate.specs.CertificateTexts.{SpellsACertificate}
use Rattle.tv_certificate.proofs.ReadLemmas.{all_refused, gives, read_spelled}
use Rattle.tv_certificate.proofs.certificate.Certificate.read.Goals as goal

pub returns-clause-spelled : goal.returns-clause-spelled
returns-clause-spelled c =
    let short : length c.args.text.now ≤ 262144 = omega arith in
    IfOk-weaker c.read_lines.result (λ certificate. certificate_outcome c.args.text.now ≡ Value certificate) (λ certificate. SpellsACertificate c.args.text.now certificate) (λ certificate e. record { short = short; lines = read_spelled c.args.text.now certificate e }) c.read_lines.ensures.value

pub returns-clause-only : goal.returns-clause-only
returns-clause-only c = λ certificate spelled. gives c.read_lines.result c.args.text.now certificate c.read_lines.ensures.value c.read_lines.ensures.fault spelled

pub returns-clause-fault : goal.returns-clause-fault
returns-clause-fault c =
    let short : length c.args.text.now ≤ 262144 = omega arith in
    all_refused c.read_lines.result c.args.text.now short c.read_lines.ensures.fault
