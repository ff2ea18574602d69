-- Reading the commands that words name.
use Rattle.std.specs.Prelude.{ℕ, ℤ, List, [], ◌∷◌, Bool, false, Option, Some, None, codes, find}
use Rattle.std.specs.Prelude.{if◌then◌else◌}
use Rattle.tv_model.specs.declared.command.CommandSpec.{CommandSpec}
use Rattle.tv_model.specs.declared.command.CommandSpec.TheVariants as commands
use Rattle.tv_model.specs.declared.command.Ends.{Ends}
use Rattle.tv_words.specs.declared.word.Word.{Word}
use Rattle.tv_words.specs.Fields.{is_bare_word}
use Rattle.tv_words.specs.Reading.Numbers.{number_in}
use Rattle.tv_declarations.specs.Spelling.Terms.{command_name}

-- the commands that have a word
abbrev pub named_commands : List CommandSpec
named_commands =
    commands.Quit ∷ commands.Menu ∷ commands.Close ∷ commands.Next ∷ commands.Ok ∷ commands.Cancel
    ∷ commands.Yes ∷ commands.No ∷ []

-- the first of the commands that the word names
abbrev pub command_named : List CommandSpec → Word → Option CommandSpec
command_named cs w = find (λ c. is_bare_word w (command_name c)) cs

-- the command whose word it is
abbrev pub named_command : Word → Option CommandSpec
named_command w = command_named named_commands w

-- a command of this number, or else of this word
abbrev pub numbered_command : Option ℤ → Word → Option CommandSpec
numbered_command (Some n) w = Some (commands.Number n)
numbered_command None w = named_command w

-- the command that a word names
abbrev pub command_in : Word → Option CommandSpec
command_in w = numbered_command (number_in w) w

-- the keyword comes first
abbrev pub is_next : List ℕ → List Word → Bool
is_next keyword [] = false
is_next keyword (w ∷ ws) = is_bare_word w keyword

-- the words after it, where it does
abbrev pub after_next : List ℕ → List Word → List Word
after_next keyword [] = []
after_next keyword (w ∷ ws) = if is_bare_word w keyword then ws else w ∷ ws

-- the value, where no words are left
abbrev pub at_end : {A : Type 0} → List Word → A → Option A
at_end [] value = Some value
at_end (w ∷ ws) value = None

-- the end commands that are listed, each at most once and in their order
abbrev pub ends_in : List Word → Option Ends
ends_in ws =
    let after_ok = after_next (command_name commands.Ok) ws in
    let after_cancel = after_next (command_name commands.Cancel) after_ok in
    let after_yes = after_next (command_name commands.Yes) after_cancel in
    at_end (after_next (command_name commands.No) after_yes)
    (record {
      ok = is_next (command_name commands.Ok) ws;
      cancel = is_next (command_name commands.Cancel) after_ok;
      yes = is_next (command_name commands.Yes) after_cancel;
      no = is_next (command_name commands.No) after_yes;
    })

-- whether the button is the default, and whether it grabs the focus
abbrev pub button_options_in : List Word → Option (Bool × Bool)
button_options_in ws =
    let after_default = after_next (codes "default") ws in at_end (after_next (codes "grab") after_default)
    (is_next (codes "default") ws, is_next (codes "grab") after_default)
