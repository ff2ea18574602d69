-- What the other calls of a view answer, and make of its leaf.
use Rattle.std.specs.Prelude.{◌⊎◌, ◌<◌, ℕ, Bool, true, false, not, ◌&&◌, List, length, Option, Some, None}
use Rattle.std.specs.Prelude.{IsSome, slice_index_or, ◌+◌, ◌==◌, if◌then◌else◌}
use Rattle.tv_valid.specs.Domain.{IsViableText}
use Rattle.tv_model.specs.declared.node.Id.{Id}
use Rattle.tv_model.specs.declared.kind.Kind.{Kind}
use Rattle.tv_model.specs.declared.command.CommandSpec.{CommandSpec}
use Rattle.tv_model.specs.Kinds.{behaviour}
use Rattle.tv_model.specs.Controls.Shortcut.{Shortcut, ItemMarks, has_marks, ClusterKind}
use Rattle.tv_machine.specs.Safe as Safe
use Rattle.tv_model.specs.declared.record.Value.{Value}
use Rattle.tv_model.specs.Description.Nodes.{is_control}
use Rattle.tv_model.specs.Description.Commands.{command_number, command_of}
use Rattle.tv_model.specs.Log.Record.{Entries, value_of, with_value}
use Rattle.tv_model.specs.Controls.Contents.{is_item_place}
use Rattle.tv_model.specs.Kinds.InputLine.{Edit, entered, left, edit_of, edit_content}
use Rattle.tv_view.specs.Meaning.{Leaf}
use Rattle.tv_machine.specs.Controls.Declared.{opened_private}
use Rattle.tv_model.specs.Kinds.Cluster as clusters
use Rattle.tv_machine.specs.Dialog.Focus.{is_invalid}
use Rattle.tv_machine.specs.Dialog.Rules.{is_among}
use Rattle.tv_view.specs.declared.env.Rules.{Rules}
use Rattle.tv_view.specs.Fields.{content_of, with_content}

-- ---- flags

-- a flag that is set or isn't
abbrev pub flag_if : Bool → ℕ → ℕ
flag_if b flag = if b then flag else 0

-- sfVisible, sfSelected with sfFocused, sfDisabled
abbrev pub state_bits : Leaf → ℕ
state_bits leaf =
    flag_if leaf.is_shown 0x01 + (flag_if leaf.is_focused 0x60 + flag_if (not leaf.is_enabled) 0x100)

-- ofSelectable with ofFirstClick for controls, ofPreProcess with ofPostProcess for what marks letters,
-- ofValidate
abbrev pub option_bits : Kind → ℕ
option_bits kind =
    flag_if (is_control kind) 0x05
    + (flag_if (has_marks (behaviour kind).shortcut) 0x30 + flag_if (behaviour kind).validates 0x400)

-- ---- the focus

-- the control of the id is the one that receives the focus
abbrev pub takes_focus : Id → Leaf → Bool
takes_focus id leaf = is_control leaf.node.kind && (leaf.node.id.0 == id.0)

-- what the coming or going of the focus makes of a leaf by its kind: of an input an edit, of other leaves
-- nothing
abbrev pub leaf_refocused : (Edit → Edit) → Kind → Leaf → Leaf
leaf_refocused edit kind leaf =
    if (behaviour kind).is_edited then with_content (edit_content (edit (edit_of (content_of leaf)))) leaf
    else leaf

-- an input that receives the focus has its text selected
abbrev pub given_focus : Leaf → Leaf
given_focus leaf = record (leaf_refocused entered leaf.node.kind leaf) { is_focused = true }

-- one that loses it has nothing selected
abbrev pub without_focus : Leaf → Leaf
without_focus leaf = record (leaf_refocused left leaf.node.kind leaf) { is_focused = false }

-- the control that has the focus already stays as it is, and every other leaf loses it
unfoldable pub focused_to : Id → Leaf → Leaf
focused_to id leaf =
    if not (takes_focus id leaf) then without_focus leaf
    else if leaf.is_focused then leaf else given_focus leaf

-- ---- pressing an item

-- a cluster of so many items with the item pressed, if it has it
abbrev pub cluster_pressed : ClusterKind → ℕ → ℕ → Leaf → Leaf
cluster_pressed kind count item leaf =
    if is_item_place count item
    then with_content (clusters.cluster_item_pressed kind item (content_of leaf)) leaf
    else leaf

-- only clusters have items to press
abbrev pub shortcut_pressed : Shortcut → ℕ → Leaf → Leaf
shortcut_pressed (ItemMarks kind name items) item leaf = cluster_pressed kind (length items) item leaf
shortcut_pressed _ item leaf = leaf

-- by kind
abbrev pub kind_pressed : Kind → ℕ → Leaf → Leaf
kind_pressed kind item leaf = shortcut_pressed (behaviour kind).shortcut item leaf

-- the cluster of the id has the item selected and pressed; nothing for another id or an item that it lacks
unfoldable pub item_pressed : Id → ℕ → Leaf → Leaf
item_pressed id item leaf = if leaf.node.id.0 == id.0 then kind_pressed leaf.node.kind item leaf else leaf

-- ---- values

-- the id of an input whose text lies outside its domain
unfoldable pub invalid_id : Leaf → Option Id
invalid_id leaf = if is_invalid leaf.node.kind (content_of leaf) then Some leaf.node.id else None

-- the record with the value of a field
abbrev pub with_field : Option Value → Id → Entries → Entries
with_field None id entries = entries
with_field (Some value) id entries = with_value entries id value

-- the same for a leaf
unfoldable pub gathered : Leaf → Entries → Entries
gathered leaf entries = with_field leaf.value leaf.node.id entries

-- whether a record has the field of an id, or room for it; what is no field needs none
abbrev pub HasRoomFor : Option Value → Id → Entries → Type 0
HasRoomFor None id entries = Unit {0}
HasRoomFor (Some value) id entries = IsSome (value_of entries id.0) ⊎ (length entries < 64)

-- the same for a leaf
unfoldable pub HasRoom : Leaf → Entries → Type 0
HasRoom leaf entries = HasRoomFor leaf.value leaf.node.id entries

-- a value of the record that a field of the kind may have; what is no field needs none
abbrev pub IsValueIf : Bool → Kind → Option Value → Type 0
IsValueIf false kind value = Unit {0}
IsValueIf true kind None = ⊥
IsValueIf true kind (Some value) = Safe.IsValueOf IsViableText kind value

-- a value that a field of the kind may have: a viable text, marks of its items, an item that there is
abbrev pub IsFieldValue : Kind → Option Value → Type 0
IsFieldValue kind value = IsValueIf (Safe.is_field kind) kind value

-- the record fits: a field finds a value that it may have
unfoldable pub Fits : Entries → Leaf → Type 0
Fits entries leaf = IsFieldValue leaf.node.kind (value_of entries leaf.node.id.0)

-- a leaf with a value and the first private state that goes with it
abbrev pub leaf_opened_with : Option Value → Leaf → Leaf
leaf_opened_with (Some value) leaf = record leaf {
  value = Some value;
  private = opened_private leaf.node.kind (Some value);
}
leaf_opened_with None leaf = leaf

-- whether there is a value, as fields have one
abbrev pub has_field_value : Option Value → Bool
has_field_value None = false
has_field_value (Some value) = true

-- the leaf as its dialog opens with the record: no focus, nothing held, and a field has its value and its
-- first private state.
-- Whether typing overwrites stays
unfoldable pub set_from : Entries → Leaf → Leaf
set_from entries leaf =
    record (if has_field_value leaf.value then leaf_opened_with (value_of entries leaf.node.id.0) leaf
    else leaf) {
      is_focused = false;
      held = None;
    }

-- ---- rules

-- enabled while its command is, and always without one
abbrev pub is_enabled_among : List Bool → Option CommandSpec → Bool
is_enabled_among commands None = true
is_enabled_among commands (Some command) = slice_index_or commands (command_number command) false

-- a button is enabled while its command is, all else always
abbrev pub is_kind_enabled_among : List Bool → Kind → Bool
is_kind_enabled_among commands kind = is_enabled_among commands (command_of kind)

-- what the rules make of a leaf
unfoldable pub applied : Rules → Leaf → Leaf
applied rules leaf = record leaf {
  is_shown = is_among rules.shown.now leaf.node.id;
  is_enabled = is_kind_enabled_among rules.commands.now leaf.node.kind;
}
