-- How a dialog opens: with the values of its saved record or those declared, on its first free control.
use Rattle.std.specs.Prelude.{[], List, map, Option, Some, None, unwrap_or}
use Rattle.std.specs.Option.{option_or}
use Rattle.tv_model.specs.declared.node.Id.{Id}
use Rattle.tv_model.specs.declared.node.Node.{Node}
use Rattle.tv_model.specs.declared.record.Value.{Value}
use Rattle.tv_model.specs.declared.desc.Dialog.{Dialog}
use Rattle.tv_model.specs.Log.Record.{Entries, value_of}
use Rattle.tv_machine.specs.Controls.Declared.{declared_value, opened_private}
use Rattle.tv_machine.specs.State.{LeafState}
use Rattle.tv_machine.specs.Leaves.{leaf_list}
use Rattle.tv_machine.specs.Dialog.Focus.{stops_of, first_free, focus_moved}
use Rattle.tv_machine.specs.Dialog.Modal.{Modal}

-- the value that a record has for a leaf
abbrev pub recorded : Option Entries → Id → Option Value
recorded None i = None
recorded (Some entries) i = value_of entries i.0

-- a leaf with a value, or without one, as its dialog opens
abbrev pub opened_with : Node → Option Value → LeafState
opened_with node value = record { id = node.id; value = value; private = opened_private node.kind value }

-- a leaf as its dialog opens: a field has the value of the saved record, else the declared one
abbrev pub opened_leaf : Option Entries → Node → LeafState
opened_leaf saved node = opened_with node (option_or (recorded saved node.id) (declared_value node.kind))

-- the leaves of a dialog as it opens
abbrev pub opened_leaves : Dialog → Option Entries → List LeafState
opened_leaves d saved = map (λ leaf. opened_leaf saved leaf.node) (leaf_list d.views)

-- the first free control. A sound dialog has one
abbrev pub first_focus : Dialog → List LeafState → Id
first_focus d leaves = unwrap_or (first_free (stops_of d leaves)) d.node.id

-- a dialog before it has a focus; the dialog's own id stands for none
abbrev pub unfocused : Dialog → Option Entries → List Id → Modal
unfocused d saved overwriting = record {
  leaves = opened_leaves d saved;
  focus = d.node.id;
  held = None;
  overwriting = overwriting;
  log = [];
  ended = None;
}

-- a dialog opens: its first free control receives the focus, which is logged
abbrev pub opened_dialog : Dialog → Option Entries → List Id → Modal
opened_dialog d saved overwriting =
    focus_moved d (first_focus d (opened_leaves d saved)) (unfocused d saved overwriting)
