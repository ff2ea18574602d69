-- The scripts that texts spell, and why a text is refused.
use Rattle.std.specs.Prelude.{◌≡◌, ◌≤◌, ◌<◌, ◌⊎◌, ℕ, ℤ, List, length, map, take, IsTrue, Result, Ok, Err}
use Rattle.std.specs.List.{AllByRecursion}
use Rattle.tv_machine.specs.declared.script.Item.{Item}
use Rattle.tv_script.specs.Line.{Line}
use Rattle.tv_script.specs.declared.script_text.ScriptFault.{ScriptFault}
use Rattle.tv_script.specs.declared.script_text.ScriptFault.TheVariants.{NoMemory, Syntax, OffScreen, TooLong}
use Rattle.tv_script.specs.Lines.{IsLine, is_on_screen, items_of, words_of_line}
use Rattle.tv_words.specs.declared.word.Word.{Word}
use Rattle.tv_words.specs.Lines.{lines_of}
use Rattle.tv_words.specs.Texts.{BeginsBy, IsFirstFaultyLine, SpellsBy}

-- the words of each line
abbrev pub script_words : List Line → List (List Word)
script_words script = map words_of_line script

-- a script of lines that can be spelled
abbrev pub IsScript : List Line → Type 0
IsScript script = AllByRecursion IsLine script

-- a script whose points are on the screen
abbrev pub IsOnScreen : (width height : ℤ) → List Line → Type 0
IsOnScreen width height script =
    IsScript script × AllByRecursion (λ l. IsTrue (is_on_screen width height l)) script

-- a script whose points are on the screen, and which has no more items than a script may have
abbrev pub IsFitting : (width height : ℤ) → List Line → Type 0
IsFitting width height script = IsOnScreen width height script × (length (items_of script) ≤ 100000)

-- the text, one of no more bytes than a script may have, spells a fitting script of these items
pub record SpellsAScript (width height : ℤ) (text : List ℕ) (items : List Item) : Type 0 where
  pub short : length text ≤ 1048576
  pub lines : List Line
  pub spelled : SpellsBy script_words (IsFitting width height) (lines_of text) lines
  pub are : items ≡ items_of lines

-- the first so many lines of the text begin a script, one that is as wanted
abbrev pub BeginsScript : (List Line → Type 0) → ℕ → List ℕ → Type 0
BeginsScript Wanted n text = BeginsBy script_words Wanted (take n (lines_of text))

-- the first line with which the text begins no fitting script
abbrev pub IsFirstFaulty : (width height : ℤ) → List ℕ → ℕ → Type 0
IsFirstFaulty width height text line =
    IsFirstFaultyLine script_words (IsFitting width height) (lines_of text) line

-- What each refusal says of the text. Of its first faulty line it says what is the matter with it, and of
-- several things
-- the first in this order: with it the text begins no script; the line's point is off the screen; the script
-- has too many items.
abbrev pub RefusesScript : (width height : ℤ) → List ℕ → ScriptFault → Type 0
RefusesScript width height text NoMemory = Unit {0}
RefusesScript width height text (Syntax line) =
    (length text ≤ 1048576) × IsFirstFaulty width height text line × ¬ BeginsScript IsScript line text
RefusesScript width height text (OffScreen line) =
    (length text ≤ 1048576) × IsFirstFaulty width height text line × BeginsScript IsScript line text
    × ¬ BeginsScript (IsOnScreen width height) line text
RefusesScript width height text TooLong =
    (1048576 < length text)
    ⊎ ((line : ℕ) × IsFirstFaulty width height text line × BeginsScript (IsOnScreen width height) line text)

-- the script was read, unless memory ran out
abbrev pub GivesScript : Result (List Item) ScriptFault → List Item → Type 0
GivesScript (Ok found) script = found ≡ script
GivesScript (Err NoMemory) script = Unit {0}
GivesScript (Err fault) script = ⊥
