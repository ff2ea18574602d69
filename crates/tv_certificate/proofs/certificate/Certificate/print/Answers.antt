use Rattle.std.proofs.Common.{◌≡◌, rules}
use Rattle.std.specs.Prelude.{IfOk, string_bytes}
use Rattle.std.proofs.lemmas.Result.{IfOk-weaker}
use Rattle.tv_words.specs.Canonical.{canonical_text}
use Rattle.tv_certificate.specs.CertificateTexts.{IsSpelledCertificate, SpellsCertificateOnly, certificate_lines}
use Rattle.tv_certificate.proofs.PrintedLemmas.{spelled_only}
use Rattle.tv_certificate.proofs.certificate.Certificate.print.Goals as goal

pub returns-clause-spelled : goal.returns-clause-spelled
returns-clause-spelled c =
    let made : IfOk c.canonical.result (λ printed. string_bytes printed ≡ canonical_text (certificate_lines c.args.self.now)) = search rules in
    IfOk-weaker c.canonical.result (λ printed. string_bytes printed ≡ canonical_text (certificate_lines c.args.self.now)) (λ printed. IsSpelledCertificate c.args.self.now → SpellsCertificateOnly (string_bytes printed) c.args.self.now)
    (λ printed e. spelled_only (string_bytes printed) c.args.self.now e) made
