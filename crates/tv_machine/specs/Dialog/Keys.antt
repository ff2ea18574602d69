-- Keys while a dialog is open.
use Rattle.std.specs.Prelude.{ℕ, Option, Some, None, find, if◌then◌else◌}
use Rattle.std.specs.Option.{option_or}
use Rattle.tv_event.specs.Commands.{cm_cancel}
use Rattle.tv_event.specs.declared.event.Key.{Key}
use Rattle.tv_event.specs.declared.event.Key.TheVariants as keys
use Rattle.tv_model.specs.declared.desc.Dialog.{Dialog}
use Rattle.tv_model.specs.Description.Marks.{upper}
use Rattle.tv_model.specs.Description.Nodes.{is_button, is_default}
use Rattle.tv_machine.specs.Leaves.{PlacedNode, leaf_list}
use Rattle.tv_model.specs.Controls.Behaviour.{Answer, Passed, Becomes, Presses}
use Rattle.tv_machine.specs.Controls.Tables.{key_answer}
use Rattle.tv_machine.specs.Dialog.Rules.{is_enabled}
use Rattle.tv_machine.specs.Dialog.Focus.{stops_of, next_free, previous_free, request}
use Rattle.tv_machine.specs.Dialog.Ending.{command, press}
use Rattle.tv_machine.specs.Dialog.Shortcuts.{marking_leaf, act_on}
use Rattle.tv_machine.specs.Dialog.Modal.{Modal, content_at, content_put, leaf_at}

-- ---- Enter

-- a button, or nothing
abbrev pub if_button : Option PlacedNode → Option PlacedNode
if_button None = None
if_button (Some leaf) = if is_button leaf.node.kind then Some leaf else None

-- the declared default button, hidden or not
abbrev pub declared_default : Dialog → Option PlacedNode
declared_default d = find (λ leaf. is_default leaf.node) (leaf_list d.views)

-- what Enter presses: the focus if it is a button, else the declared default button
abbrev pub enter_target : Dialog → Modal → Option PlacedNode
enter_target d m = option_or (if_button (leaf_at d m.focus)) (declared_default d)

-- it is pressed if it is enabled
abbrev pub press_enabled : Dialog → Option PlacedNode → Modal → Modal
press_enabled d None m = m
press_enabled d (Some leaf) m = if is_enabled d m.leaves leaf.node then press d leaf m else m

-- ---- the focused control

-- a character that the focused control didn't consume calls its marker, in either case; other keys do nothing
abbrev pub passed_on : Dialog → Key → Modal → Modal
passed_on d (keys.Char ch) m = act_on d (upper ch) (marking_leaf d m.leaves (upper ch)) m
passed_on d _ m = m

-- what the focused control answers to a key
abbrev pub answered : Dialog → Key → PlacedNode → Answer → Modal → Modal
answered d k leaf Passed m = passed_on d k m
answered d k leaf (Becomes content) m = content_put d leaf.node.id content m
answered d k leaf Presses m = press d leaf m

-- a key goes to the focused control
abbrev pub keyed : Dialog → Key → Option PlacedNode → Modal → Modal
keyed d k None m = passed_on d k m
keyed d k (Some leaf) m = answered d k leaf (key_answer leaf.node.kind k (content_at m leaf.node.id)) m

-- to the control that has the focus
abbrev pub focus_keyed : Dialog → Key → Modal → Modal
focus_keyed d k m = keyed d k (leaf_at d m.focus) m

-- ---- keys

-- a letter with Alt acts on its marker, whatever has the focus
abbrev pub alt_keyed : Dialog → ℕ → Option PlacedNode → Modal → Modal
alt_keyed d letter None m = focus_keyed d (keys.Alt letter) m
alt_keyed d letter (Some marker) m = act_on d letter (Some marker) m

-- a key while nothing holds the mouse
abbrev pub key : Dialog → Key → Modal → Modal
key d keys.Tab m = request d (next_free (stops_of d m.leaves) m.focus) m
key d keys.ShiftTab m = request d (previous_free (stops_of d m.leaves) m.focus) m
key d keys.Esc m = command d cm_cancel m
key d keys.Enter m = press_enabled d (enter_target d m) m
key d (keys.Alt letter) m = alt_keyed d letter (marking_leaf d m.leaves letter) m
key d k m = focus_keyed d k m
