use Rattle.std.proofs.Common.{◌≡◌, ◌++◌}
use Rattle.std.specs.Prelude.{string_bytes}
use Rattle.std.proofs.lemmas.Result.{IfOk-weaker}
use Rattle.tv_words.specs.Canonical.{canonical_text, ended_line}
use Rattle.tv_certificate.specs.CertificateTexts.{block_lines, end_words}
use Rattle.tv_certificate.proofs.PrintedLemmas.{block_printed}
use Rattle.tv_certificate.proofs.printing.with_block.Goals as goal

pub returns : goal.returns
returns c =
    IfOk-weaker c.with_end.result (λ longer. string_bytes longer ≡ string_bytes c.in_ok-keyed.keyed ++ ended_line end_words) (λ longer. string_bytes longer ≡ string_bytes c.args.text ++ canonical_text (block_lines c.args.block.now))
    (λ longer e. block_printed c.args.block.now (string_bytes c.args.text) (string_bytes c.in_ok-named.named) (string_bytes c.in_ok-tabbed.tabbed) (string_bytes c.in_ok-keyed.keyed) (string_bytes longer)
    c.in_ok-named.ensures c.in_ok-tabbed.ensures c.in_ok-keyed.ensures e)
    c.with_end.ensures
