-- The record with which each dialog of a run opens next, and the values of the open one.
use Rattle.std.specs.Prelude.{[], ℕ, Option, Some, None, option_map, slice_get}
use Rattle.tv_model.specs.Log.Record.{Entries}
use Rattle.tv_model.specs.declared.desc.Desc.{Desc}
use Rattle.tv_machine.specs.Session.Commands.{saved_at}
use Rattle.tv_machine.specs.Dialog.Ending.{fields_of}
use Rattle.tv_machine.specs.State.{OpenDialog, State}
use Rattle.tv_dialogs.specs.Kept.{first_values}

-- what the dialog at a place opens with next, if there is one
abbrev pub next_record : Desc → State → ℕ → Option Entries
next_record d s place =
    option_map (λ dialog. first_values dialog (saved_at s place)) (slice_get d.dialogs place)

-- the values that the fields of the open dialog have now, if one is open
abbrev pub current_of : Option OpenDialog → Entries
current_of None = []
current_of (Some o) = fields_of o.leaves
