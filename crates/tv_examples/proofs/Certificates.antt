-- The certificates of descriptions, from text to text.
use Prim.Native.String.{String}
use Rattle.std.specs.Prelude.{◌≡◌, ℕ, List, [], ◌∷◌, Option, Some, None}
use Rattle.std.proofs.Common.{refl}
use Rattle.tv_words.specs.Canonical.{canonical_text}
use Rattle.tv_lang.specs.Reading.Descriptions as readings
use Rattle.tv_lang.specs.Reading.Descriptions.{DescriptionOutcome, description_outcome}
use Rattle.tv_certificate.specs.CertificateTexts.{certificate_lines}
use Rattle.tv_check.specs.Certificates.{certificate_of}
use Rattle.tv_examples.specs.Descriptions.{replaced, cancel, order}
use Rattle.tv_examples.specs.Running.{written, text}

-- the text of the certificate of a description that was read, if one was
abbrev pub certificate_read : DescriptionOutcome → Option (List ℕ)
certificate_read (readings.Value d) = Some (canonical_text (certificate_lines (certificate_of d)))
certificate_read (readings.Fault line) = None
certificate_read readings.Other = None

-- the description of these lines has the certificate of these lines
abbrev pub HasCertificate : List String → List String → Type 0
HasCertificate description lines = certificate_read (description_outcome (text description)) ≡ Some (text lines)

-- examples/cancel.cert
cancel_certificate : HasCertificate cancel ("tvcert 1" ∷ "dialog a" ∷ "tab c" ∷ "key C c" ∷ "end" ∷ [])
unfolding written
cancel_certificate = refl

-- a certificate is of its description's version
two_certificate : HasCertificate (replaced 1 "tvd 2" cancel) ("tvcert 2" ∷ "dialog a" ∷ "tab c" ∷ "key C c" ∷ "end" ∷ [])
unfolding written
two_certificate = refl

-- a label's letter names its link, an item's its cluster and its number: examples/order.cert
order_certificate : HasCertificate order (
    "tvcert 1" ∷ "dialog b" ∷ "tab amount" ∷ "tab opts" ∷ "tab qty" ∷ "tab ok" ∷ "tab no" ∷ "tab log" ∷
    "key A amount" ∷ "key C no" ∷ "key G opts 1" ∷ "key L log" ∷ "key N opts 2" ∷ "key O ok" ∷ "end" ∷ [])
unfolding written
order_certificate = refl
