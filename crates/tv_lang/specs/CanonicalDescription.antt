-- What the canonical text of a description spells.
use Rattle.std.specs.Prelude.{◌≡◌, ℕ, List}
use Rattle.tv_model.specs.declared.desc.Desc.{Desc}
use Rattle.tv_lang.specs.Faults.{SpellsLines}
use Rattle.tv_words.specs.Lines.{lines_of}

-- the lines of some text, of however many bytes, spell the description
abbrev pub CanBeSpelled : Desc → Type 0
CanBeSpelled d = (text : List ℕ) × SpellsLines (lines_of text) d

-- the text's lines spell the description, and no other
pub record SpellsOnly (text : List ℕ) (d : Desc) : Type 0 where
  pub spelled : SpellsLines (lines_of text) d
  pub only : (other : Desc) → SpellsLines (lines_of text) other → other ≡ d
