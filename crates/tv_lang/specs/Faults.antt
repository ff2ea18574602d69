-- The descriptions that texts spell, and why a text is refused.
use Rattle.std.specs.Prelude.{◌≡◌, ◌≢◌, ℕ, ◌≤◌, ◌<◌, ℤ, pos, List, [], ◌∷◌, ◌++◌, length, Result, Ok, Err, codes}
use Rattle.std.specs.List.{AllByRecursion}
use Rattle.tv_model.specs.declared.desc.Desc.{Desc}
use Rattle.tv_lang.specs.declared.description.LangFault.{LangFault}
use Rattle.tv_lang.specs.declared.description.LangFault.TheVariants.{NoMemory, Syntax, TooLong, Version}
use Rattle.tv_words.specs.declared.word.Word.TheVariants.{Bare}
use Rattle.tv_words.specs.Lines.{lines_of}
use Rattle.tv_words.specs.Words.{SpellsWords}
use Rattle.tv_declarations.specs.Spelling.{word_lines, IsDescription}
use Rattle.tv_words.specs.Fields.{number_word, IsNumber}
use Rattle.tv_words.specs.Texts.{SpellsBy, BeginsBy, IsFirstFaultyLine}

-- the lines spell the description
abbrev pub SpellsLines : List (List ℕ) → Desc → Type 0
SpellsLines lines d = SpellsBy word_lines IsDescription lines d

-- the text, one of no more bytes than a description may have, spells the description
pub record Spells (text : List ℕ) (d : Desc) : Type 0 where
  pub short : length text ≤ 262144
  pub lines : SpellsLines (lines_of text) d

-- the lines begin a text that spells a description
abbrev pub BeginsDescription : List (List ℕ) → Type 0
BeginsDescription lines = BeginsBy word_lines IsDescription lines

-- the first declaration is a whole line `tvd` with another number than 1 and 2
pub record IsOtherVersion (lines : List (List ℕ)) : Type 0 where
  pub before : List (List ℕ)
  pub line : List ℕ
  pub after : List (List ℕ)
  pub number : ℤ
  pub parts : lines ≡ before ++ line ∷ after
  pub skipped : AllByRecursion (λ l. SpellsWords l []) before
  pub words : SpellsWords line (Bare (codes "tvd") ∷ number_word number ∷ [])
  pub fits : IsNumber number
  pub other : (number ≢ pos 1) × (number ≢ pos 2)

-- what each refusal says of the text: it has too many bytes, or it hasn't, and its lines are refused
abbrev pub RefusesToParse : List ℕ → LangFault → Type 0
RefusesToParse text NoMemory = Unit {0}
RefusesToParse text (Syntax line) =
    (length text ≤ 262144) × IsFirstFaultyLine word_lines IsDescription (lines_of text) line
    × ¬ IsOtherVersion (lines_of text)
RefusesToParse text TooLong = 262144 < length text
RefusesToParse text Version = (length text ≤ 262144) × IsOtherVersion (lines_of text)

-- the description was read, unless memory ran out
abbrev pub GivesDescription : Result Desc LangFault → Desc → Type 0
GivesDescription (Ok found) d = found ≡ d
GivesDescription (Err NoMemory) d = Unit {0}
GivesDescription (Err (Syntax line)) d = ⊥
GivesDescription (Err TooLong) d = ⊥
GivesDescription (Err Version) d = ⊥
