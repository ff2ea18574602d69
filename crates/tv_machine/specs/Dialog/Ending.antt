-- Commands while a dialog is open, and how it ends.
use Rattle.std.specs.Prelude.{ℕ, Bool, ◌||◌, List, ◌∷◌, ◌++◌, map, filter_map, find, Option, Some, None}
use Rattle.std.specs.Prelude.{option_map, ◌==◌, if◌then◌else◌}
use Rattle.tv_event.specs.Commands.{cm_cancel, cm_close, is_own_command}
use Rattle.tv_model.specs.declared.node.Id.{Id}
use Rattle.tv_model.specs.declared.kind.Kind.{Kind}
use Rattle.tv_model.specs.declared.command.CommandSpec.{CommandSpec}
use Rattle.tv_model.specs.declared.desc.Dialog.{Dialog}
use Rattle.tv_model.specs.declared.record.Entry.{Entry}
use Rattle.tv_model.specs.declared.log.LogLine.{LogLine}
use Rattle.tv_model.specs.declared.log.LogLine.TheVariants as lines
use Rattle.tv_model.specs.Log.Record.{Entries}
use Rattle.tv_model.specs.Description.Commands.{command_number, command_of, is_declared}
use Rattle.tv_model.specs.Description.Heads.{dialog_head}
use Rattle.tv_machine.specs.State.{LeafState}
use Rattle.tv_machine.specs.Leaves.{PlacedNode, leaf_list}
use Rattle.tv_machine.specs.Dialog.Focus.{is_invalid, is_free_at, focus_moved}
use Rattle.tv_machine.specs.Dialog.Modal.{Modal, with_line, content_at}

-- ---- fields

-- the value of a leaf, if it is a field
abbrev pub entry_of : LeafState → Option Entry
entry_of leaf = option_map (λ value. record { id = leaf.id; value = value }) leaf.value

-- the values of the fields among leaves, in description order
abbrev pub fields_of : List LeafState → Entries
fields_of leaves = filter_map entry_of leaves

-- the line of a field
abbrev pub field_line : Entry → LogLine
field_line entry = lines.Field entry.id entry.value

-- ---- the end

-- an input whose text lies outside its domain
abbrev pub is_invalid_leaf : Modal → PlacedNode → Bool
is_invalid_leaf m leaf = is_invalid leaf.node.kind (content_at m leaf.node.id)

-- the first such input, hidden or not
abbrev pub first_invalid : Dialog → Modal → Option Id
first_invalid d m = option_map (λ leaf. leaf.node.id) (find (is_invalid_leaf m) (leaf_list d.views))

-- the dialog ends: the command and the fields are logged
abbrev pub ended : Dialog → ℕ → Modal → Modal
ended d number m = record m {
  ended = Some number;
  log = m.log ++ lines.End d.node.id (record { 0 = number }) ∷ map field_line (fields_of m.leaves);
}

-- the focus goes to an input that refuses the end, without asking the one that has it; nothing where that is
-- itself or isn't free
abbrev pub shown_invalid : Dialog → Id → Modal → Modal
shown_invalid d i m = if i.0 == m.focus.0 then m else if is_free_at d m.leaves i then focus_moved d i m else m

-- an end that an input may refuse
abbrev pub end_by : Dialog → ℕ → Option Id → Modal → Modal
end_by d number None m = ended d number m
end_by d number (Some i) m = shown_invalid d i (with_line (lines.Invalid i) m)

-- ---- commands

-- a command: `close` is taken as `cancel`, which ends the dialog; another declared end does where every input
-- has a text of
-- its domain; the description's own are logged; the rest do nothing
abbrev pub command : Dialog → ℕ → Modal → Modal
command d number m =
    if (number == cm_close) || (number == cm_cancel) then ended d cm_cancel m
    else if is_declared (dialog_head d).ends number then end_by d number (first_invalid d m) m
    else if is_own_command number then with_line (lines.Command number) m
    else m

-- a press is logged, and then its command is handled; without one nothing happens
abbrev pub pressed_by : Dialog → Id → Option CommandSpec → Modal → Modal
pressed_by d i None m = m
pressed_by d i (Some c) m = command d (command_number c) (with_line (lines.Press i) m)

-- the command that a control gives where it is pressed: a button its own
abbrev pub pressed_kind : Dialog → Id → Kind → Modal → Modal
pressed_kind d i kind m = pressed_by d i (command_of kind) m

-- a button is pressed: the press is logged, and then its command is handled
abbrev pub press : Dialog → PlacedNode → Modal → Modal
press d leaf m = pressed_kind d leaf.node.id leaf.node.kind m
