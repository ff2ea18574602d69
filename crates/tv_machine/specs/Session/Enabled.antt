-- The commands that are enabled.
use Rattle.std.specs.Prelude.{ℕ, Bool, true, List, Option, Some, None, slice_get}
use Rattle.tv_model.specs.declared.desc.Desc.{Desc}
use Rattle.tv_model.specs.declared.desc.Dialog.{Dialog}
use Rattle.tv_machine.specs.State.{State, OpenDialog, LeafState}
use Rattle.tv_machine.specs.Dialog.Rules.{is_command_enabled}

-- by the rules of a dialog, if there is one
abbrev pub enabled_by : List LeafState → ℕ → Option Dialog → Bool
enabled_by leaves number None = true
enabled_by leaves number (Some dialog) = is_command_enabled dialog leaves number

-- by the rules of the open dialog; with none open all commands are enabled
abbrev pub enabled_in : Desc → Option OpenDialog → ℕ → Bool
enabled_in d None number = true
enabled_in d (Some o) number = enabled_by o.leaves number (slice_get d.dialogs o.place)

-- whether a command is enabled now
abbrev pub is_enabled_now : Desc → State → ℕ → Bool
is_enabled_now d s number = enabled_in d s.dialog number
