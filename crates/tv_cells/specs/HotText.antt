-- Texts with at most one letter marked, as `~A~mount`.
use Rattle.std.specs.Prelude.{◌≡◌, ◌≢◌, ℕ, ◌+◌, ◌<◌, List, ◌∷◌, ◌++◌, length, take, drop, slice_index_or}
use Rattle.std.specs.Prelude.{Option, Some, None, IfSome, IsTrue, All, chars}
use Rattle.std.specs.Char.{is_ascii_alphanumeric, to_ascii_uppercase}
use Rattle.tv_cells.specs.Glyph.{IsNarrow}
use Rattle.tv_cells.specs.declared.hot_text.Parts.{Parts}
use Rattle.tv_cells.specs.declared.hot_text.Parts.TheVariants.{Plain, Marked}
use Rattle.tv_cells.specs.declared.hot_text.HotTextFault.{HotTextFault}
use Rattle.tv_cells.specs.declared.hot_text.HotTextFault.TheVariants.{BadWidth, BadMark, TooLong}

-- a text without its mark, and the place of the marked letter
pub record Hot : Type 0 where
  pub text : List ℕ
  pub place : Option ℕ

-- the character at a place
abbrev pub char_at : List ℕ → ℕ → ℕ
char_at text place = slice_index_or text place 0

-- how it is written, with the marked letter between two `~`, which is 126
abbrev pub spelled_at : List ℕ → Option ℕ → List ℕ
spelled_at text None = text
spelled_at text (Some place) = take place text ++ 126 ∷ char_at text place ∷ 126 ∷ drop (place + 1) text

abbrev pub spelled_hot_text : Hot → List ℕ
spelled_hot_text hot = spelled_at hot.text hot.place

-- the marked letter in upper case
abbrev pub letter_at : List ℕ → Option ℕ → Option ℕ
letter_at text None = None
letter_at text (Some place) = Some (to_ascii_uppercase (char_at text place))

abbrev pub letter_of : Hot → Option ℕ
letter_of hot = letter_at hot.text hot.place

-- there is no other `~`, and what is marked is a letter or a digit
pub record IsHot (hot : Hot) : Type 0 where
  pub narrow : All IsNarrow hot.text
  pub free : All (λ ch. ch ≢ 126) hot.text
  pub letter : IfSome hot.place (λ place.
      (place < length hot.text) × IsTrue (is_ascii_alphanumeric (char_at hot.text place)))

-- when a text is refused, the first that holds
abbrev pub RefusesHotText : List ℕ → HotTextFault → Type 0
RefusesHotText text (BadWidth place) =
    (place < length text) × All IsNarrow (take place text) × (IsNarrow (char_at text place) → ⊥)
RefusesHotText text BadMark = All IsNarrow text × ((hot : Hot) → IsHot hot → spelled_hot_text hot ≡ text → ⊥)
RefusesHotText text TooLong =
    All IsNarrow text × (hot : Hot) × IsHot hot × (spelled_hot_text hot ≡ text) × (120 < length hot.text)

-- ---- how a text is taken apart

-- a text whose marked letter stands between two others, and one without a mark
abbrev pub hot_of : List ℕ → ℕ → List ℕ → Hot
hot_of before letter after = record { text = before ++ letter ∷ after; place = Some (length before) }

abbrev pub unmarked : List ℕ → Hot
unmarked text = record { text = text; place = None }

-- two `~` round a letter or a digit, and no other
pub record IsAround (text before : List ℕ) (letter : ℕ) (after : List ℕ) : Type 0 where
  pub whole : text ≡ before ++ 126 ∷ letter ∷ 126 ∷ after
  pub sound : IsTrue (is_ascii_alphanumeric letter)
  pub free_before : All (λ ch. ch ≢ 126) before
  pub free_after : All (λ ch. ch ≢ 126) after

-- it has a `~`, and not just two round a letter or a digit
pub record IsUnmarkable (text : List ℕ) : Type 0 where
  pub not_plain : All (λ ch. ch ≢ 126) text → ⊥
  pub not_marked : (before : List ℕ) (letter : ℕ) (after : List ℕ) → IsAround text before letter after → ⊥

-- the parts of a text
abbrev pub IsApart : List ℕ → Parts → Type 0
IsApart text Plain = All (λ ch. ch ≢ 126) text
IsApart text (Marked before letter after) = IsAround text (chars before.now) letter (chars after.now)
