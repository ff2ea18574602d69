-- How pictures are written.
use Rattle.std.specs.Prelude.{◌≡◌, ℕ, ◌+◌, ◌/◌, ◌%◌, ◌≤◌, ◌++◌, List, [], ◌∷◌, length, max, if◌then◌else◌}
use Rattle.std.specs.Prelude.{nat_lt, Contains, codes, take}
use Rattle.tv_picture.specs.declared.code.Mark.{Mark}
use Rattle.tv_picture.specs.declared.code.Mark.TheVariants.{Digit, Letter, Capital, Any, NotLower, Literal}
use Rattle.tv_picture.specs.declared.code.Mark.TheVariants.{Quoted}
use Rattle.tv_picture.specs.Pattern.{Pattern, empty, one, sequence, either, optional, group, many, times}
use Rattle.tv_picture.specs.Pattern.{IsDigit}
use Rattle.tv_picture.specs.declared.fault.PictureFault.{PictureFault}
use Rattle.tv_picture.specs.declared.fault.PictureFault.TheVariants.{NoMemory, Syntax}

-- how one character of a text is written in a picture
abbrev pub mark_text : Mark → List ℕ
mark_text Digit = codes "#"
mark_text Letter = codes "?"
mark_text Capital = codes "&"
mark_text Any = codes "@"
mark_text NotLower = codes "!"
mark_text (Literal c) = c ∷ []
mark_text (Quoted c) = codes ";" ++ c ∷ []

-- a count up to 999 in decimal, without leading zeros
abbrev pub count_text : ℕ → List ℕ
count_text n =
    if nat_lt n 10 then (48 + n) ∷ []
    else (if nat_lt n 100 then (48 + n / 10) ∷ (48 + n % 10) ∷ []
    else (48 + n / 100) ∷ (48 + n / 10 % 10) ∷ (48 + n % 10) ∷ [])

-- the picture as it is written
abbrev pub spelled : Pattern → List ℕ
spelled empty = []
spelled (one mark) = mark_text mark
spelled (sequence a b) = spelled a ++ spelled b
spelled (either a b) = spelled a ++ codes "," ++ spelled b
spelled (optional a) = codes "[" ++ spelled a ++ codes "]"
spelled (group a) = codes "{" ++ spelled a ++ codes "}"
spelled (many a) = codes "*" ++ spelled a
spelled (times n a) = codes "*" ++ count_text n ++ spelled a

-- a character that stands for itself
abbrev pub IsPlain : ℕ → Type 0
IsPlain c = ¬ (Contains (codes "#?&@!;*[]{},") c)

-- how loosely a pattern binds: a base 0, a repetition 1, a sequence 2, alternatives 3
abbrev pub rank : Pattern → ℕ
rank empty = 2
rank (one mark) = 0
rank (sequence a b) = 2
rank (either a b) = 3
rank (optional a) = 0
rank (group a) = 0
rank (many a) = 1
rank (times n a) = 1

-- what a repetition repeats: a base, but no plain digit
abbrev pub IsBase : Pattern → Type 0
IsBase (one (Literal c)) = ¬ (IsDigit c)
IsBase a = rank a ≡ 0

-- how deep brackets nest
abbrev pub depth : Pattern → ℕ
depth empty = 0
depth (one mark) = 0
depth (sequence a b) = max (depth a) (depth b)
depth (either a b) = max (depth a) (depth b)
depth (optional a) = depth a + 1
depth (group a) = depth a + 1
depth (many a) = depth a
depth (times n a) = depth a

-- a literal is none of the characters with a meaning of their own
abbrev pub IsMark : Mark → Type 0
IsMark (Literal c) = IsPlain c
IsMark _ = Unit {0}

-- each part stands where the grammar has it
abbrev pub IsGrammatical : Pattern → Type 0
IsGrammatical empty = Unit {0}
IsGrammatical (one mark) = IsMark mark
IsGrammatical (sequence a b) = IsGrammatical a × IsGrammatical b × (rank a ≡ 2) × (rank b ≤ 1)
IsGrammatical (either a b) = IsGrammatical a × IsGrammatical b × (2 ≤ rank a) × (rank b ≡ 2)
IsGrammatical (optional a) = IsGrammatical a × (2 ≤ rank a)
IsGrammatical (group a) = IsGrammatical a × (2 ≤ rank a)
IsGrammatical (many a) = IsGrammatical a × IsBase a
IsGrammatical (times n a) = IsGrammatical a × IsBase a × (1 ≤ n) × (n ≤ 120)

-- alternatives of sequences, whose brackets nest at most 8 deep
abbrev pub IsPicture : Pattern → Type 0
IsPicture p = IsGrammatical p × (2 ≤ rank p) × (depth p ≤ 8)

-- some picture begins with the text
abbrev pub BeginsPicture : List ℕ → Type 0
BeginsPicture text = (p : Pattern) × (more : List ℕ) × IsPicture p × (spelled p ≡ text ++ more)

-- a picture begins with so many characters of the text and with no more, and the text is no picture
pub record IsFirstFaultyPlace (text : List ℕ) (place : ℕ) : Type 0 where
  pub within : place ≤ length text
  pub begins : BeginsPicture (take place text)
  pub longest : (k : ℕ) → k ≤ length text → BeginsPicture (take k text) → k ≤ place
  pub refused : (p : Pattern) → IsPicture p → spelled p ≡ text → ⊥

-- why a text is refused: no memory, or where it stops being the beginning of a picture
abbrev pub RefusesPicture : List ℕ → PictureFault → Type 0
RefusesPicture text NoMemory = Unit {0}
RefusesPicture text (Syntax place) = IsFirstFaultyPlace text place
