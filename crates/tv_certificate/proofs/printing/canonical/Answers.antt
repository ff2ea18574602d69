use Rattle.std.proofs.Common.{◌≡◌, ◌∷◌, ◌++◌, sym, ap, ◌∙◌}
use Rattle.std.specs.Prelude.{flat_map, string_bytes}
use Rattle.std.proofs.lemmas.Result.{IfOk-weaker}
use Rattle.tv_words.specs.Canonical.{canonical_text, ended_line}
use Rattle.tv_certificate.specs.CertificateTexts.{block_lines, version_words}
use Rattle.tv_certificate.proofs.PrintedLemmas.{blocks_text}
use Rattle.tv_certificate.proofs.printing.canonical.Goals as goal

pub returns : goal.returns
returns c =
    let first = ended_line (version_words c.args.version) in
    let blocks = c.args.blocks.now in
    IfOk-weaker c.with_blocks.result (λ longer. string_bytes longer ≡ string_bytes c.in_ok-text.text ++ flat_map (λ block. canonical_text (block_lines block)) blocks) (λ longer. string_bytes longer ≡ canonical_text (version_words c.args.version ∷ flat_map block_lines blocks))
    (λ longer e. e ∙ ap (λ bytes. bytes ++ flat_map (λ block. canonical_text (block_lines block)) blocks) c.in_ok-text.ensures ∙ ap (λ rest. first ++ rest) (sym (blocks_text blocks)))
    c.with_blocks.ensures
