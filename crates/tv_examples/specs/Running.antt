-- How an example is run: from the text of a description and its script to the text of its output.
use Prim.Native.String.{String}
use Rattle.std.specs.Prelude.{◌≡◌, [], ℕ, List, ◌∷◌, ◌++◌, Option, Some, None, Result, Ok, Err, option_map}
use Rattle.std.specs.Prelude.{flat_map, codes}
use Rattle.std.specs.List.{range_with_len}
use Rattle.std.specs.Char.{encode_utf8}
use Rattle.std.specs.Fmt.{digits}
use Rattle.std.specs.Str.{chars, is_utf8}
use Rattle.tv_examples.specs.Widths.{widths}
use Rattle.tv_cells.specs.Glyph.{Glyph}
use Rattle.tv_model.specs.declared.fault.Fault.{Fault}
use Rattle.tv_model.specs.Faults.{faults_of}
use Rattle.tv_model.specs.Log.LogText.{line_of, bytes_of, log_text}
use Rattle.tv_words.specs.Canonical.{ended_line}
use Rattle.tv_lang.specs.Reading.Descriptions as readings
use Rattle.tv_lang.specs.Reading.Descriptions.{DescriptionOutcome, description_outcome}
use Rattle.tv_script.specs.declared.script_text.ScriptFault.{ScriptFault}
use Rattle.tv_script.specs.Judging.{Judgement, judged_as}
use Rattle.tv_machine.specs.declared.script.Item.{Item}
use Rattle.tv_model.specs.declared.desc.Desc.{Desc}
use Rattle.tv_machine.specs.Run.{Session, commanded, started}
use Rattle.tv_machine.specs.Output.{output, after, screen_cell, hex_byte}

-- one name to unfold where a text is computed
unfoldable pub written : Unit {0}
unfolding line_of ended_line digits encode_utf8 chars is_utf8 widths
written = tt

-- lines, each with its line end
abbrev pub text : List String → List ℕ
text lines = flat_map (λ line. bytes_of (codes line) ++ 10 ∷ []) lines

-- the items of a text that is judged to be a script
abbrev pub items_by : List Item → Result (Unit {0}) ScriptFault → Option (List Item)
items_by items (Ok _) = Some items
items_by items (Err fault) = None

abbrev pub script_in : Judgement → Option (List Item)
script_in judged = items_by judged.items judged.answer

-- the script of a text for the screen of a description, if it is one
abbrev pub read_script : Desc → List ℕ → Option (List Item)
read_script d script = script_in (judged_as d.width d.height script)

-- the session after a script that was read, if one was
abbrev pub after_script : Desc → Option (List Item) → Option Session
after_script d script = option_map (after (started d)) script

-- what a script writes that was read, if one was
abbrev pub script_output : Desc → Option (List Item) → Option (List ℕ)
script_output d script = option_map (output (started d)) script

-- what a script writes for the description that was read, if one was
abbrev pub run_read : DescriptionOutcome → List ℕ → Option (List ℕ)
run_read (readings.Value d) script = script_output d (read_script d script)
run_read (readings.Fault line) script = None
run_read readings.Other script = None

-- what a script writes for the description of a text
abbrev pub run_text : List ℕ → List ℕ → Option (List ℕ)
run_text description script = run_read (description_outcome description) script

-- the lines of a script write these lines for the description of these lines
abbrev pub Writes : List String → List String → List String → Type 0
Writes description script lines = run_text (text description) (text script) ≡ Some (text lines)

-- ---- the screen after a script

-- the session after a script for the description that was read, if one was
abbrev pub after_read : DescriptionOutcome → List ℕ → Option Session
after_read (readings.Value d) script = after_script d (read_script d script)
after_read (readings.Fault line) script = None
after_read readings.Other script = None

-- so many cells of a row from a column on, each by its text
abbrev pub cells_of : (Glyph → List ℕ) → ℕ → ℕ → ℕ → Session → List ℕ
cells_of cell row first count s =
    flat_map (λ column. cell (screen_cell s column row)) (range_with_len first count)

-- so many cells of a row from a column on have these characters after the script
abbrev pub ShowsCharacters : List String → List String → (row first count : ℕ) → String → Type 0
ShowsCharacters description script row first count shown =
    option_map (cells_of (λ cell. encode_utf8 cell.ch) row first count)
    (after_read (description_outcome (text description)) (text script))
    ≡ Some (codes shown)

-- and these attributes, two digits each
abbrev pub ShowsColours : List String → List String → (row first count : ℕ) → String → Type 0
ShowsColours description script row first count shown =
    option_map (cells_of (λ cell. hex_byte cell.attr) row first count)
    (after_read (description_outcome (text description)) (text script))
    ≡ Some (codes shown)

-- ---- commands that the program gives

-- what a command that the program gives after the script logs, if the description was read
abbrev pub command_text : List String → List String → ℕ → Option (List ℕ)
command_text description script number =
    option_map (λ s. log_text s.desc (commanded s (record { 0 = number })).state.log)
    (after_read (description_outcome (text description)) (text script))

-- a command that the program gives after the script logs these lines
abbrev pub Logs : List String → List String → ℕ → List String → Type 0
Logs description script number lines = command_text description script number ≡ Some (text lines)

-- ---- faults

-- the faults of the description that was read, if one was
abbrev pub faults_read : DescriptionOutcome → Option (List Fault)
faults_read (readings.Value d) = Some (faults_of d)
faults_read (readings.Fault line) = None
faults_read readings.Other = None

-- a description has just these faults
abbrev pub HasJustFaults : List String → List Fault → Type 0
HasJustFaults description found = faults_read (description_outcome (text description)) ≡ Some found
