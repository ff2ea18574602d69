-- What one place of a screen shows.
use Rattle.std.specs.Prelude.{Bool, if◌then◌else◌, ◌==◌, unwrap_or, ◌≡◌, ℕ, false, Some}
use Rattle.unicode_width.specs.Width.{char_width}

-- the character takes one column
abbrev pub IsNarrow : ℕ → Type 0
IsNarrow ch = char_width false ch ≡ Some 1

-- the same as a test
abbrev pub is_narrow : ℕ → Bool
is_narrow ch = unwrap_or (char_width false ch) 0 == 1

-- a character and its attribute, the value of a cell
pub record Glyph : Type 0 where
  pub ch : ℕ
  pub attr : ℕ

-- a glyph from its parts
abbrev pub glyph : ℕ → ℕ → Glyph
glyph ch attr = record { ch = ch; attr = attr }

-- the character where it takes one column, else a space
abbrev pub shown_char : ℕ → ℕ
shown_char ch = if is_narrow ch then ch else 32

abbrev pub shown : ℕ → ℕ → Glyph
shown ch attr = glyph (shown_char ch) attr

-- a space in black on black, as a new screen has it
abbrev pub blank : Glyph
blank = glyph 32 0

-- the same character in a shadow
abbrev pub shaded : Glyph → Glyph
shaded under = glyph under.ch 8
