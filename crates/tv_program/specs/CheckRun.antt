-- What checking a description, or accepting it with a certificate, comes to.
use Rattle.std.specs.Prelude.{◌≡◌, ◌≢◌, ℕ, List, [], ◌∷◌, ◌++◌, Result, Ok, Err, codes}
use Rattle.tv_words.specs.Canonical.{canonical_text}
use Rattle.tv_lang.specs.Faults.{Spells}
use Rattle.tv_model.specs.declared.desc.Desc.{Desc}
use Rattle.tv_certificate.specs.declared.certificate.Certificate.{Certificate}
use Rattle.tv_certificate.specs.declared.reading.CertificateFault.TheVariants as unread
use Rattle.tv_check.specs.declared.acceptance.Refusal.TheVariants as refusals
use Rattle.tv_check.specs.Certificates.{IsSoundCertificate, certificate_of}
use Rattle.tv_certificate.specs.CertificateTexts.{RefusesText, SpellsACertificate as SpellsCertificate}
use Rattle.tv_certificate.specs.CertificateTexts.{certificate_lines}
use Rattle.tv_check.specs.Refusals.{HasFaults, RefusesToAccept}
use Rattle.tv_certificate.specs.declared.reading.CertificateFault.{CertificateFault}
use Rattle.tv_program.specs.declared.accept_fault.AcceptFault.{AcceptFault}
use Rattle.tv_program.specs.declared.accept_fault.AcceptFault.TheVariants as accepts
use Rattle.tv_program.specs.declared.check_fault.CheckFault.{CheckFault}
use Rattle.tv_program.specs.declared.check_fault.CheckFault.TheVariants as checks
use Rattle.tv_program.specs.Reading.{IsNoDescription, IsSoundText}
use Rattle.tv_io.specs.Writer.{Seen, Takes, Cuts}

-- the text of the certificate of a sound description
abbrev pub certificate_text : Desc → List ℕ
certificate_text d = canonical_text (certificate_lines (certificate_of d))

-- With Ok the certificate of a sound description was written. A fault of its text comes before its own
-- faults, and both
-- before anything is written.
abbrev pub ChecksTo : {T : Type 0} → List ℕ → Seen → Seen → Result T CheckFault → Type 0
ChecksTo text old new (Ok _) = (d : Desc) × IsSoundText text d × Takes old new (certificate_text d)
ChecksTo text old new (Err checks.NoMemory) = new ≡ old
ChecksTo text old new (Err (checks.Lang fault)) = IsNoDescription text fault × (new ≡ old)
ChecksTo text old new (Err (checks.Faults list)) = (d : Desc) × Spells text d × HasFaults d list × (new ≡ old)
ChecksTo text old new (Err checks.Write) = (d : Desc) × IsSoundText text d × Cuts old new (certificate_text d)

-- what is written where the description and its certificate are accepted
abbrev pub accepted : List ℕ
accepted = codes "accepted" ++ 10 ∷ []

-- the texts spell a sound description, and a certificate that is sound for it
pub record Fit (text written : List ℕ) : Type 0 where
  pub desc : Desc
  pub certificate : Certificate
  pub described : IsSoundText text desc
  pub certified : SpellsCertificate written certificate
  pub fits : IsSoundCertificate desc certificate

-- the text spells no certificate, for a reason of its own
abbrev pub IsNoCertificate : List ℕ → CertificateFault → Type 0
IsNoCertificate text fault = RefusesText text fault × (fault ≢ unread.NoMemory)

-- With Ok `accepted` was written. Faults of the two texts come first, that of the description before that of
-- the
-- certificate, then the first reason to refuse what they spell; nothing is written before all have passed.
abbrev pub AcceptsTo : {T : Type 0} → List ℕ → List ℕ → Seen → Seen → Result T AcceptFault → Type 0
AcceptsTo text written old new (Ok _) = Fit text written × Takes old new accepted
AcceptsTo text written old new (Err accepts.NoMemory) = new ≡ old
AcceptsTo text written old new (Err (accepts.Lang fault)) = IsNoDescription text fault × (new ≡ old)
AcceptsTo text written old new (Err (accepts.Cert fault)) =
    (d : Desc) × Spells text d × IsNoCertificate written fault × (new ≡ old)
AcceptsTo text written old new (Err (accepts.Refused refusal)) =
    (d : Desc) × (certificate : Certificate) × Spells text d × SpellsCertificate written certificate
    × RefusesToAccept d certificate refusal
    × (refusal ≢ refusals.NoMemory) × (new ≡ old)
AcceptsTo text written old new (Err accepts.Write) = Fit text written × Cuts old new accepted
