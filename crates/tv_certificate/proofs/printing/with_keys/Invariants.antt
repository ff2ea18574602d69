use Rattle.std.proofs.Common.{◌≡◌, ◌++◌, map, drop}
use Rattle.std.specs.Prelude.{string_bytes}
use Rattle.tv_words.specs.Canonical.{canonical_text}
use Rattle.tv_certificate.specs.CertificateTexts.{key_words}
use Rattle.tv_certificate.proofs.printing.with_keys.Given as goal

abbrev pub invariant-loop-line : goal.invariant-loop-line
invariant-loop-line l = string_bytes l.text ++ canonical_text (map key_words (drop l.line-index l.line-items)) ≡ string_bytes l.fn.text ++ canonical_text (map key_words l.block.keys)
