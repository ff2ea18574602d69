use Rattle.std.proofs.Common.{◌≡◌, ◌++◌, flat_map, drop}
use Rattle.std.specs.Prelude.{string_bytes}
use Rattle.tv_words.specs.Canonical.{canonical_text}
use Rattle.tv_certificate.specs.CertificateTexts.{block_lines}
use Rattle.tv_certificate.proofs.printing.with_blocks.Given as goal

abbrev pub invariant-loop-block : goal.invariant-loop-block
invariant-loop-block l = string_bytes l.text ++ flat_map (λ block. canonical_text (block_lines block)) (drop l.block-index l.blocks) ≡ string_bytes l.fn.text ++ flat_map (λ block. canonical_text (block_lines block)) l.blocks
