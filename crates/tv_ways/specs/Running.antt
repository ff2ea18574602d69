-- Runs of a description, and what is read off them.
use Rattle.std.specs.Prelude.{◌≡◌, ℕ, Bool, true, false, ◌&&◌, List, Some, is_some, slice_get, ◌==◌}
use Rattle.tv_event.specs.declared.event.Command.{Command}
use Rattle.tv_event.specs.declared.event.Event.{Event}
use Rattle.tv_model.specs.declared.desc.Desc.{Desc}
use Rattle.tv_model.specs.declared.desc.Dialog.{Dialog}
use Rattle.tv_model.specs.declared.log.LogLine.{LogLine}
use Rattle.tv_model.specs.declared.log.LogLine.TheVariants as lines
use Rattle.tv_model.specs.declared.node.Id.{Id}
use Rattle.tv_model.specs.Description.Nodes.{node_of}
use Rattle.tv_machine.specs.Run.{Session}
use Rattle.tv_machine.specs.State.{State}
use Rattle.tv_laws.specs.Runs.{state_after}
use Rattle.tv_reach.specs.Goals.{IsFocusedAt, IsShownAt}

-- the run after these events
abbrev pub ran : Desc → List Event → Session
ran d events = record { desc = d; state = state_after d events }

-- the line of the dialog's end by the command
abbrev pub is_end_line : Id → Command → LogLine → Bool
is_end_line i c (lines.End other by) = (other.0 == i.0) && (by.0 == c.0)
is_end_line i c _ = false

-- no dialog has the view but the one at the place
abbrev pub IsOnlyIn : Desc → ℕ → Id → Type 0
IsOnlyIn d place i =
    (at : ℕ) (dialog : Dialog) → slice_get d.dialogs at ≡ Some dialog → is_some (node_of dialog.views i) ≡ true
    → at ≡ place

-- the dialog at the place is open, and its control of the id has the focus and is visible
abbrev pub IsReadAt : Desc → ℕ → Id → State → Type 0
IsReadAt d place i s = IsFocusedAt d place i s × IsShownAt d place i s
