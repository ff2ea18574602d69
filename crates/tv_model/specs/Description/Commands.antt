-- Commands by their numbers, and the commands of dialogs and buttons.
use Rattle.std.specs.Prelude.{ℕ, Bool, false, ◌&&◌, ◌||◌, Option, ◌==◌, true}
use Rattle.std.specs.Ordering.{int_eq}
use Rattle.tv_event.specs.Commands.{cm_cancel, cm_close, cm_menu, cm_next, cm_no, cm_ok, cm_quit, cm_yes}
use Rattle.tv_model.specs.declared.kind.Kind.{Kind}
use Rattle.tv_model.specs.declared.kind.Kind.TheVariants as kinds
use Rattle.tv_model.specs.Kinds.{behaviour}
use Rattle.tv_model.specs.declared.command.Ends.{Ends}
use Rattle.tv_model.specs.declared.command.CommandSpec.{CommandSpec}
use Rattle.tv_model.specs.declared.command.CommandSpec.TheVariants as commands
use Rattle.tv_model.specs.Description.Numbers.{natural}

-- the number of a command
abbrev pub command_number : CommandSpec → ℕ
command_number commands.Quit = cm_quit
command_number commands.Menu = cm_menu
command_number commands.Close = cm_close
command_number commands.Next = cm_next
command_number commands.Ok = cm_ok
command_number commands.Cancel = cm_cancel
command_number commands.Yes = cm_yes
command_number commands.No = cm_no
command_number (commands.Number n) = natural n

-- a window has no ends
abbrev pub no_ends : Ends
no_ends = record { ok = false; cancel = false; yes = false; no = false }

-- whether the command is one of `ok`, `yes` and `no` that the dialog declares
abbrev pub is_declared : Ends → ℕ → Bool
is_declared ends number =
    ((number == cm_ok) && ends.ok) || (((number == cm_yes) && ends.yes) || ((number == cm_no) && ends.no))

-- the command is among the dialog's ends
abbrev pub is_end : Ends → ℕ → Bool
is_end ends number = ((number == cm_cancel) && ends.cancel) || is_declared ends number

-- the command that a button gives
abbrev pub command_of : Kind → Option CommandSpec
command_of kind = (behaviour kind).command

-- the same word, or the same number
abbrev pub is_same_command : CommandSpec → CommandSpec → Bool
is_same_command commands.Quit commands.Quit = true
is_same_command commands.Menu commands.Menu = true
is_same_command commands.Close commands.Close = true
is_same_command commands.Next commands.Next = true
is_same_command commands.Ok commands.Ok = true
is_same_command commands.Cancel commands.Cancel = true
is_same_command commands.Yes commands.Yes = true
is_same_command commands.No commands.No = true
is_same_command (commands.Number n) (commands.Number other) = int_eq n other
is_same_command _ _ = false

-- a button of the command
abbrev pub is_button_of : CommandSpec → Kind → Bool
is_button_of command (kinds.Button button) = is_same_command button.command command
is_button_of command _ = false
