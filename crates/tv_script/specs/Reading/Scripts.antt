-- Reading a script, line by line.
use Rattle.std.specs.Prelude.{◌≡◌, ℕ, ℤ, List, [], ◌∷◌, ◌++◌, length, nat_le, Option, Some, None}
use Rattle.std.specs.Prelude.{Result, Ok, Err, if◌then◌else◌}
use Rattle.tv_machine.specs.declared.script.Item.{Item}
use Rattle.tv_script.specs.Line.{Line}
use Rattle.tv_script.specs.declared.script_text.ScriptFault.{ScriptFault}
use Rattle.tv_script.specs.declared.script_text.ScriptFault.TheVariants.{NoMemory, Syntax, OffScreen, TooLong}
use Rattle.tv_script.specs.Lines.{is_on_screen, items_of_line}
use Rattle.tv_script.specs.Reading.Lines.{script_line_in}
use Rattle.tv_words.specs.declared.word.Word.{Word}
use Rattle.tv_words.specs.Reading.LineWords.{line_words}

-- what reading a line comes to: the items with its own, or why it is faulty
abbrev pub ScriptOutcome : Type 0
ScriptOutcome = Result (List Item) ScriptFault

-- no more items than a script may have
abbrev pub bounded : List Item → ScriptOutcome
bounded items = if nat_le (length items) 100000 then Ok items else Err TooLong

-- the line with the number n after these items
abbrev pub with_script_line : (width height : ℤ) → ℕ → List Item → Line → ScriptOutcome
with_script_line width height n items l =
    if is_on_screen width height l then bounded (items ++ items_of_line l) else Err (OffScreen n)

-- the same where the words may be no line
abbrev pub with_found : (width height : ℤ) → ℕ → List Item → Option Line → ScriptOutcome
with_found width height n items None = Err (Syntax n)
with_found width height n items (Some l) = with_script_line width height n items l

-- the same of a line's words, where it has any
abbrev pub with_words : (width height : ℤ) → ℕ → List Item → Option (List Word) → ScriptOutcome
with_words width height n items None = Err (Syntax n)
with_words width height n items (Some []) = Ok items
with_words width height n items (Some (w ∷ ws)) = with_found width height n items (script_line_in (w ∷ ws))

-- the same of a line of bytes
abbrev pub with_bytes : (width height : ℤ) → ℕ → List Item → List ℕ → ScriptOutcome
with_bytes width height n items l = with_words width height n items (line_words l)

-- the same by what the line is read as: faulty, without words, or a line
abbrev pub with_read : (width height : ℤ) → ℕ → List Item → Option (Option Line) → ScriptOutcome
with_read width height n items None = Err (Syntax n)
with_read width height n items (Some None) = Ok items
with_read width height n items (Some (Some l)) = with_script_line width height n items l

-- the fault is the one that was answered; memory may run out at any time
abbrev pub IsAnswered : {T : Type 0} → ScriptFault → Result T ScriptFault → Type 0
IsAnswered NoMemory answer = Unit {0}
IsAnswered fault answer = answer ≡ Err fault
