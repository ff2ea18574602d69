-- What a judgement says of a text, in the words of the language of scripts.
use Rattle.std.specs.Prelude.{◌≡◌, ◌<◌, ◌⊎◌, ℕ, ℤ, ◌+◌, List, length, take, Result, Ok, Err}
use Rattle.tv_machine.specs.declared.script.Item.{Item}
use Rattle.tv_script.specs.Line.{Line}
use Rattle.tv_script.specs.declared.script_text.ScriptFault.{ScriptFault}
use Rattle.tv_script.specs.declared.script_text.ScriptFault.TheVariants as scripts
use Rattle.tv_script.specs.Judging.{judged_as, judged_part}
use Rattle.tv_script.specs.Lines.{items_of}
use Rattle.tv_script.specs.Scripts.{IsFirstFaulty, IsFitting, RefusesScript, SpellsAScript, script_words}
use Rattle.tv_words.specs.Lines.{lines_of}
use Rattle.tv_words.specs.Texts.{SpellsBy}

-- the lines are those of a script with these items
pub record HasItems (width height : ℤ) (lines : List (List ℕ)) (items : List Item) : Type 0 where
  pub script : List Line
  pub spelled : SpellsBy script_words (IsFitting width height) lines script
  pub are : items ≡ items_of script

-- the text is refused, and the lines before its first faulty one have these items
pub record IsLeft (width height : ℤ) (text : List ℕ) (items : List Item) (fault : ScriptFault) : Type 0 where
  pub refused : RefusesScript width height text fault
  pub before : ℕ
  pub faulty : IsFirstFaulty width height text (before + 1)
  pub performed : HasItems width height (take before (lines_of text)) items

-- it has more bytes than a script may have, and no line before that is faulty
pub record IsTooLong (width height : ℤ) (text : List ℕ) (items : List Item) : Type 0 where
  pub long : 1048576 < length text
  pub performed : HasItems width height (lines_of (judged_part text)) items

-- the text spells the script that is performed, or why it doesn't, with the items of the lines before
abbrev pub SaysOf : (width height : ℤ) → (text : List ℕ) → List Item → Result (Unit {0}) ScriptFault → Type 0
SaysOf width height text items (Ok _) = SpellsAScript width height text items
SaysOf width height text items (Err scripts.NoMemory) = ⊥
SaysOf width height text items (Err scripts.TooLong) =
    IsTooLong width height text items ⊎ IsLeft width height (judged_part text) items scripts.TooLong
SaysOf width height text items (Err fault) = IsLeft width height (judged_part text) items fault

-- so it is of every text
abbrev pub JudgementsAreRight : Type 0
JudgementsAreRight =
    (width height : ℤ) (text : List ℕ)
    → SaysOf width height text (judged_as width height text).items (judged_as width height text).answer
