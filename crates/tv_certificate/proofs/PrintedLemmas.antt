-- The text of a block, piece by piece.
use Rattle.std.proofs.Common.{◌≡◌, ℕ, List, [], ◌∷◌, ◌++◌, map, flat_map, refl, sym, ap, ◌∙◌, append_assoc, subst}
use Rattle.std.proofs.lemmas.List.{append-nil}
use Rattle.tv_words.specs.declared.word.Word.{Word}
use Rattle.tv_words.specs.Lines.{lines_of}
use Rattle.tv_words.specs.Canonical.{canonical_text, ended_line}
use Rattle.tv_words.proofs.CanonicalTextLemmas.{respelled}
use Rattle.tv_certificate.specs.declared.certificate.Certificate.{Certificate}
use Rattle.tv_certificate.specs.declared.certificate.Block.{Block}
use Rattle.tv_certificate.proofs.ReadLemmas.{one_value}
use Rattle.tv_certificate.specs.CertificateTexts.{IsCertificate, IsSpelledCertificate, SpellsCertificateLines, SpellsCertificateOnly, block_lines, certificate_lines, dialog_words, end_words, key_words, tab_words}

text_append : (a b : List (List Word)) → canonical_text (a ++ b) ≡ canonical_text a ++ canonical_text b
text_append [] b = refl
text_append (ws ∷ a) b = ap (λ rest. ended_line ws ++ rest) (text_append a b) ∙ sym (append_assoc (ended_line ws) (canonical_text a) (canonical_text b))

pub blocks_text : (blocks : List Block) → canonical_text (flat_map block_lines blocks) ≡ flat_map (λ block. canonical_text (block_lines block)) blocks
blocks_text [] = refl
blocks_text (block ∷ blocks) = text_append (block_lines block) (flat_map block_lines blocks) ∙ ap (λ rest. canonical_text (block_lines block) ++ rest) (blocks_text blocks)

pub block_printed : (block : Block) (text named tabbed keyed printed : List ℕ)
    → named ≡ text ++ ended_line (dialog_words block.dialog) → tabbed ≡ named ++ canonical_text (map tab_words block.tabs)
    → keyed ≡ tabbed ++ canonical_text (map key_words block.keys) → printed ≡ keyed ++ ended_line end_words
    → printed ≡ text ++ canonical_text (block_lines block)
block_printed block text named tabbed keyed printed en et ek ep =
    let dialog = ended_line (dialog_words block.dialog) in
    let tabs = canonical_text (map tab_words block.tabs) in
    let keys = canonical_text (map key_words block.keys) in
    let last = ended_line end_words in
    let body : canonical_text (map tab_words block.tabs ++ (map key_words block.keys ++ end_words ∷ [])) ≡ tabs ++ (keys ++ last) =
    text_append (map tab_words block.tabs) (map key_words block.keys ++ end_words ∷ [])
    ∙ ap (λ rest. tabs ++ rest) (text_append (map key_words block.keys) (end_words ∷ []) ∙ ap (λ rest. keys ++ rest) (append-nil last)) in
    ep ∙ ap (λ x. x ++ last) (ek ∙ ap (λ x. x ++ keys) (et ∙ ap (λ x. x ++ tabs) en))
    ∙ append_assoc ((text ++ dialog) ++ tabs) keys last
    ∙ append_assoc (text ++ dialog) tabs (keys ++ last)
    ∙ append_assoc text dialog (tabs ++ (keys ++ last))
    ∙ ap (λ rest. text ++ (dialog ++ rest)) (sym body)

spelled_again : (lines : List (List ℕ)) (printed : List ℕ) (certificate : Certificate) → SpellsCertificateLines lines certificate → printed ≡ canonical_text (certificate_lines certificate) → SpellsCertificateLines (lines_of printed) certificate
spelled_again lines printed certificate spelled e = subst (λ bytes. SpellsCertificateLines (lines_of bytes) certificate) (sym e) (respelled certificate_lines IsCertificate lines certificate spelled)

pub spelled_only : (printed : List ℕ) (certificate : Certificate) → printed ≡ canonical_text (certificate_lines certificate) → IsSpelledCertificate certificate → SpellsCertificateOnly printed certificate
spelled_only printed certificate e text =
    let spelled = spelled_again (lines_of text.0) printed certificate text.1 e in
    record { spelled = spelled; only = λ other too. one_value printed certificate other spelled too }
