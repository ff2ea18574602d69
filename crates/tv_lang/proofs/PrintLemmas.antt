-- The canonical text of a description that some text spells, spells it and no other.
use Rattle.std.proofs.Common.{◌≡◌, ℕ, List, Some, sym, ◌∙◌}
use Rattle.tv_model.specs.declared.desc.Desc.{Desc}
use Rattle.tv_words.specs.Lines.{lines_of}
use Rattle.tv_declarations.specs.Spelling.{word_lines, IsDescription}
use Rattle.tv_lang.specs.Faults.{SpellsLines}
use Rattle.tv_declarations.specs.CanonicalDescription.{description_text}
use Rattle.tv_lang.specs.CanonicalDescription.{CanBeSpelled, SpellsOnly}
use Rattle.tv_words.proofs.CanonicalTextLemmas.{respelled}
use Rattle.tv_lang.proofs.DescriptionTextLemmas.{spelled_lines}

-- the lines of a text spell one description at most
pub spelled_once : (text : List ℕ) (d e : Desc) → SpellsLines (lines_of text) d → SpellsLines (lines_of text) e → d ≡ e
spelled_once text d e h k = (let same : Some d ≡ Some e = sym (spelled_lines (lines_of text) d h) ∙ spelled_lines (lines_of text) e k in cc)

pub text_spells : (d : Desc) (text : List ℕ) → text ≡ description_text d → CanBeSpelled d → SpellsOnly text d
text_spells d text e h =
    let spelled : SpellsLines (lines_of text) d = rw e (respelled word_lines IsDescription (lines_of h.0) d h.1) in
    record { spelled = spelled; only = λ other k. spelled_once text other d k spelled }
