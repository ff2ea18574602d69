-- The lines of a log, as a run prints them, by their words.
use Rattle.std.specs.Prelude.{ℕ, List, [], ◌∷◌, Bool, false, ◌&&◌, ◌||◌, ◌==◌, Option, Some, None, is_some, codes}
use Rattle.std.specs.Prelude.{if◌then◌else◌}
use Rattle.std.specs.List.{list_all}
use Rattle.tv_event.specs.Commands.{cm_cancel, cm_no, cm_ok, cm_yes}
use Rattle.tv_event.specs.declared.event.Command.{Command}
use Rattle.tv_model.specs.Log.LogText.{end_word}
use Rattle.tv_words.specs.declared.word.Word.{Word}
use Rattle.tv_words.specs.Fields.{is_bare_word, name_in, text_in}
use Rattle.tv_words.specs.Reading.Numbers.{number_in}

-- ---- ends

-- the word is that of the end command with this number
abbrev pub is_end_word : Word → ℕ → Bool
is_end_word word number = is_bare_word word (end_word number)

-- the command that a word names, if a dialog can end by it
abbrev pub end_command : Word → Option Command
end_command word =
    if is_end_word word cm_ok then Some (record { 0 = cm_ok })
    else if is_end_word word cm_cancel then Some (record { 0 = cm_cancel })
    else if is_end_word word cm_yes then Some (record { 0 = cm_yes })
    else if is_end_word word cm_no then Some (record { 0 = cm_no })
    else None

-- the command at the end of an `end` line
abbrev pub command_in : List Word → Option Command
command_in (word ∷ []) = end_command word
command_in _ = None

-- ---- values

-- the word is a number
abbrev pub is_number : Word → Bool
is_number word = is_some (number_in word)

-- a text, an item, or `-` for no marks
abbrev pub is_one_value : Word → Bool
is_one_value word = is_some (text_in word) || (is_bare_word word (codes "-") || is_number word)

-- the words that a value may have in a log, whatever its field is
abbrev pub is_value : List Word → Bool
is_value [] = false
is_value (word ∷ []) = is_one_value word
is_value (word ∷ words) = list_all is_number (word ∷ words)

-- ---- what answers nothing

-- the word is a name
abbrev pub is_name_word : Word → Bool
is_name_word word = is_some (name_in word)

-- what happened to a window, a dialog or a control
abbrev pub is_happening : Word → Bool
is_happening word =
    is_bare_word word (codes "open")
    || (is_bare_word word (codes "focus")
    || (is_bare_word word (codes "press")
    || (is_bare_word word (codes "invalid") || is_bare_word word (codes "close"))))

-- a screen was shown
abbrev pub is_screen : Word → Bool
is_screen word = is_bare_word word (codes "shot") || is_bare_word word (codes "colors")

-- a line that says what happened, and answers nothing
abbrev pub is_passed : List Word → Bool
is_passed (word ∷ []) = is_bare_word word (codes "quit")
is_passed (word ∷ of ∷ []) =
    (is_happening word && is_name_word of) || (is_bare_word word (codes "command") && is_number of)
is_passed (word ∷ columns ∷ rows ∷ []) = is_screen word && (is_number columns && is_number rows)
is_passed (word ∷ name ∷ x ∷ y ∷ []) =
    is_bare_word word (codes "moved") && (is_name_word name && (is_number x && is_number y))
is_passed _ = false

-- a row of a screen, which begins with a colon
abbrev pub is_row : List ℕ → Bool
is_row [] = false
is_row (c ∷ cs) = c == 58
