-- The picture language: what a picture allows, apart from how it is written.
use Rattle.std.specs.Prelude.{◌≡◌, ℕ, ◌≤◌, ◌<◌, ◌⊎◌, ◌++◌, List, [], ◌∷◌, length, All}
use Rattle.std.specs.Char.{IsScalar}
use Rattle.std.specs.List.{concat}
use Rattle.tv_cells.specs.Glyph.{IsNarrow}
use Rattle.tv_picture.specs.declared.code.Mark.{Mark}
use Rattle.tv_picture.specs.declared.code.Mark.TheVariants.{Digit, Letter, Capital, Any, NotLower, Literal}
use Rattle.tv_picture.specs.declared.code.Mark.TheVariants.{Quoted}
use Rattle.tv_picture.specs.declared.picture.Status.{Status}
use Rattle.tv_picture.specs.declared.picture.Status.TheVariants.{Complete, Viable, Error}

-- a picture read: nothing, one character, one part after the other, either part, a part in brackets, in
-- braces, repeated
pub data Pattern : Type 0 where
  empty : Pattern
  one : Mark → Pattern
  sequence : Pattern → Pattern → Pattern
  either : Pattern → Pattern → Pattern
  optional : Pattern → Pattern
  group : Pattern → Pattern
  many : Pattern → Pattern
  times : ℕ → Pattern → Pattern

-- `A` to `Z`
abbrev pub IsCapital : ℕ → Type 0
IsCapital c = (65 ≤ c) × (c ≤ 90)

-- `a` to `z`
abbrev pub IsLower : ℕ → Type 0
IsLower c = (97 ≤ c) × (c ≤ 122)

-- `0` to `9`
abbrev pub IsDigit : ℕ → Type 0
IsDigit c = (48 ≤ c) × (c ≤ 57)

-- the characters that a mark stands for
abbrev pub Allows : Mark → ℕ → Type 0
Allows Digit c = IsDigit c
Allows Letter c = IsCapital c ⊎ IsLower c
Allows Capital c = IsCapital c
Allows Any c = IsScalar c
Allows NotLower c = IsScalar c × ¬ (IsLower c)
Allows (Literal d) c = c ≡ d
Allows (Quoted d) c = c ≡ d

-- the text is in the language of the pattern
abbrev pub IsMember : Pattern → List ℕ → Type 0
IsMember empty text = text ≡ []
IsMember (one mark) text = (c : ℕ) × Allows mark c × (text ≡ c ∷ [])
IsMember (sequence a b) text = (u : List ℕ) × (v : List ℕ) × IsMember a u × IsMember b v × (text ≡ u ++ v)
IsMember (either a b) text = IsMember a text ⊎ IsMember b text
IsMember (optional a) text = (text ≡ []) ⊎ IsMember a text
IsMember (group a) text = IsMember a text
IsMember (many a) text = (pieces : List (List ℕ)) × All (IsMember a) pieces × (text ≡ concat pieces)
IsMember (times n a) text =
    (pieces : List (List ℕ)) × (length pieces ≡ n) × All (IsMember a) pieces × (text ≡ concat pieces)

-- the text is a prefix of a member: what is viable or complete
abbrev pub Begins : Pattern → List ℕ → Type 0
Begins p text = (more : List ℕ) × IsMember p (text ++ more)

-- a prefix of a member, and not itself one
abbrev pub IsViable : Pattern → List ℕ → Type 0
IsViable p text = Begins p text × ¬ (IsMember p text)

-- what a text is to a pattern
abbrev pub IsStatus : Pattern → List ℕ → Status → Type 0
IsStatus p text Complete = IsMember p text
IsStatus p text Viable = IsViable p text
IsStatus p text Error = ¬ (Begins p text)

-- the only character after which the viable text is viable or complete, where there is room for it
pub record IsNextLiteral (p : Pattern) (text : List ℕ) (c : ℕ) : Type 0 where
  pub viable : IsViable p text
  pub room : length text < 120
  pub fits : Begins p (text ++ c ∷ [])
  pub only : (d : ℕ) → Begins p (text ++ d ∷ []) → d ≡ c

-- a member whose characters all take one column
abbrev pub IsNarrowMember : Pattern → List ℕ → Type 0
IsNarrowMember p text = IsMember p text × All IsNarrow text

-- the least length of such a member, or 121 where none has 120 characters or fewer
pub record IsShortest (p : Pattern) (n : ℕ) : Type 0 where
  pub bound : n ≤ 121
  pub least : (text : List ℕ) → IsNarrowMember p text → n ≤ length text
  pub reached : n ≤ 120 → (text : List ℕ) × IsNarrowMember p text × (length text ≡ n)
