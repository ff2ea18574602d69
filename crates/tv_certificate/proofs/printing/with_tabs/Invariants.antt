use Rattle.std.proofs.Common.{◌≡◌, ◌++◌, map, drop}
use Rattle.std.specs.Prelude.{string_bytes}
use Rattle.tv_words.specs.Canonical.{canonical_text}
use Rattle.tv_certificate.specs.CertificateTexts.{tab_words}
use Rattle.tv_certificate.proofs.printing.with_tabs.Given as goal

abbrev pub invariant-loop-name : goal.invariant-loop-name
invariant-loop-name l = string_bytes l.text ++ canonical_text (map tab_words (drop l.name-index l.name-items)) ≡ string_bytes l.fn.text ++ canonical_text (map tab_words l.block.tabs)
