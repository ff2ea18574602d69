-- The words of commands and marked texts.
use Rattle.std.specs.Prelude.{◌≡◌, ℕ, ◌+◌, ◌<◌, List, [], ◌∷◌, ◌++◌, length, take, drop, slice_index, Bool}
use Rattle.std.specs.Prelude.{false, Option, Some, None, ◌==◌, IfSome, IsTrue, codes, if◌then◌else◌}
use Rattle.std.specs.List.{list_any}
use Rattle.std.specs.Char.{is_ascii_alphanumeric}
use Rattle.tv_model.specs.declared.command.CommandSpec.{CommandSpec}
use Rattle.tv_model.specs.declared.command.CommandSpec.TheVariants as commands
use Rattle.tv_model.specs.declared.command.Ends.{Ends}
use Rattle.tv_model.specs.declared.kind.MarkedText.{MarkedText}
use Rattle.tv_words.specs.declared.word.Word.{Word}
use Rattle.tv_words.specs.declared.word.Word.TheVariants.{Bare, Quoted}
use Rattle.tv_words.specs.Fields.{number_word, IsNumber}

-- the text of a command's word, where it is no number
abbrev pub command_name : CommandSpec → List ℕ
command_name commands.Quit = codes "quit"
command_name commands.Menu = codes "menu"
command_name commands.Close = codes "close"
command_name commands.Next = codes "next"
command_name commands.Ok = codes "ok"
command_name commands.Cancel = codes "cancel"
command_name commands.Yes = codes "yes"
command_name commands.No = codes "no"
command_name (commands.Number n) = []

-- the word of a command
abbrev pub command_word : CommandSpec → Word
command_word (commands.Number n) = number_word n
command_word command = Bare (command_name command)

-- a command, whose number may be any
abbrev pub IsCommand : CommandSpec → Type 0
IsCommand (commands.Number n) = IsNumber n
IsCommand _ = Unit {0}

-- the keyword, where it is wanted
abbrev pub word_if : Bool → List ℕ → List Word
word_if wanted keyword = if wanted then Bare keyword ∷ [] else []

-- the end commands, in this order
abbrev pub ends_words : Ends → List Word
ends_words e =
    word_if e.ok (command_name commands.Ok)
    ++ (word_if e.cancel (command_name commands.Cancel)
    ++ (word_if e.yes (command_name commands.Yes) ++ word_if e.no (command_name commands.No)))

-- the character `~`
abbrev pub is_tilde : ℕ → Bool
is_tilde c = c == 126

-- a text with `~` at both sides of the marked letter
abbrev pub with_mark : Option ℕ → List ℕ → List ℕ
with_mark None text = text
with_mark (Some place) text = take place text ++ (126 ∷ slice_index text place ∷ 126 ∷ drop (place + 1) text)

-- the word of a text that may be marked
abbrev pub marked_word : MarkedText → Word
marked_word m = Quoted (with_mark m.mark m.text)

-- no `~` in the text, and the mark is at a letter or digit of it
abbrev pub IsMarked : MarkedText → Type 0
IsMarked m =
    (list_any is_tilde m.text ≡ false)
    × IfSome m.mark (λ place.
    (place < length m.text) × IsTrue (is_ascii_alphanumeric (slice_index m.text place)))
