-- What gives an open dialog the command by which it ends.
use Rattle.std.specs.Prelude.{◌≡◌, ◌⊎◌, ℕ, true, false, Some, None, option_map}
use Rattle.tv_event.specs.Commands.{cm_cancel}
use Rattle.tv_event.specs.declared.event.Event.{Event}
use Rattle.tv_event.specs.declared.event.Event.TheVariants as events
use Rattle.tv_model.specs.declared.desc.Dialog.{Dialog}
use Rattle.tv_model.specs.Description.Commands.{command_number, command_of}
use Rattle.tv_model.specs.Description.Nodes.{is_button, is_default}
use Rattle.tv_machine.specs.Leaves.{PlacedNode}
use Rattle.tv_machine.specs.Dialog.Ending.{first_invalid}
use Rattle.tv_machine.specs.Dialog.Modal.{Modal, leaf_at}
use Rattle.tv_machine.specs.Dialog.Rules.{is_enabled, is_free, is_visible}
use Rattle.tv_machine.specs.Dialog.Step.{dialog_step}
use Rattle.tv_laws.specs.Ends.{IsOpen}

-- the declared default button may be hidden, while a control has the focus that is free and no button
pub record IsByDefault (d : Dialog) (m : Modal) (leaf : PlacedNode) : Type 0 where
  pub default : is_default leaf.node ≡ true
  pub focus : PlacedNode
  pub there : leaf_at d focus.node.id ≡ Some focus
  pub free : is_free d m.leaves focus ≡ true
  pub field : is_button focus.node.kind ≡ false

-- an enabled button gives the command, which is visible or the default; and every input has a text of its domain
pub record IsGiven (d : Dialog) (m : Modal) (number : ℕ) : Type 0 where
  pub leaf : PlacedNode
  pub there : leaf_at d leaf.node.id ≡ Some leaf
  pub gives : option_map command_number (command_of leaf.node.kind) ≡ Some number
  pub enabled : is_enabled d m.leaves leaf.node ≡ true
  pub shown : (is_visible d m.leaves leaf ≡ true) ⊎ IsByDefault d m leaf
  pub valid : first_invalid d m ≡ None

-- the event is no command that is handed in
abbrev pub IsInput : Event → Type 0
IsInput (events.Command c) = ⊥
IsInput _ = Unit {0}

-- a dialog that an event ends but by `cancel` is given that command by a button
abbrev pub EndsAreGiven : Dialog → Type 0
EndsAreGiven d =
    (m : Modal) (e : Event) (number : ℕ) → IsOpen d m → IsInput e → (dialog_step d e m).ended ≡ Some number
    → (number ≡ cm_cancel) ⊎ IsGiven d m number
