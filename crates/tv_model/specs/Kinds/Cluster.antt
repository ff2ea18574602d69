-- Check boxes and radio buttons: what their keys, the mouse and letters make of them, and what they show.
-- Items count from 1.
use Rattle.std.specs.Prelude.{[], ℕ, Bool, true, false, ◌&&◌, List, ◌∷◌, ◌++◌, length, map, All, Option}
use Rattle.std.specs.Prelude.{Some, None, IsTrue, slice_get, ℤ, pos, ◌≤◌, ◌<◌, ◌+◌, ◌-◌, ◌/◌, ◌%◌, ◌^◌, ◌==◌}
use Rattle.std.specs.Prelude.{bit_or, codes, nat_le, if◌then◌else◌}
use Rattle.std.specs.Int.RustNames.{bit_xor}
use Rattle.tv_cells.specs.Glyph.{Glyph, glyph, shown}
use Rattle.tv_event.specs.declared.event.Key.{Key}
use Rattle.tv_event.specs.declared.event.Key.TheVariants as keys
use Rattle.tv_palette.specs.declared.role.Role.{Role}
use Rattle.tv_palette.specs.declared.role.Role.TheVariants as roles
use Rattle.tv_palette.specs.declared.role.ClusterRole.{ClusterRole}
use Rattle.tv_palette.specs.declared.role.ClusterRole.TheVariants as cluster
use Rattle.tv_model.specs.declared.kind.CheckBoxes.{CheckBoxes}
use Rattle.tv_model.specs.declared.kind.MarkedText.{MarkedText}
use Rattle.tv_model.specs.declared.kind.RadioButtons.{RadioButtons}
use Rattle.tv_model.specs.declared.record.Value.{Value}
use Rattle.tv_model.specs.declared.record.Value.TheVariants as values
use Rattle.tv_model.specs.Controls.Behaviour.{Behaviour, plain, Facts, plain_facts, Answer, Holds}
use Rattle.tv_model.specs.Controls.Behaviour as answers
use Rattle.tv_model.specs.Controls.Contents.{Content, item_of, is_item_place, IsItem}
use Rattle.tv_model.specs.Controls.Look.{Look, is_mark_from}
use Rattle.tv_model.specs.Controls.Private.{Private, Selecting}
use Rattle.tv_model.specs.Controls.Shortcut.{ClusterKind, Boxes, Radios, ItemMarks, item_marking}
use Rattle.tv_model.specs.Description.Numbers.{natural}
use Rattle.tv_model.specs.Screen.Faces.{FaceOf, text_row}

-- ---- what they hold

-- what is marked, and the selected item
pub record Cluster : Type 0 where
  pub value : Value
  pub selected : ℕ

-- the marks of these items: bit 0 is the first item
abbrev pub marks_of : List ℤ → ℕ
marks_of [] = 0
marks_of (item ∷ items) = bit_or (2 ^ (natural item - 1)) (marks_of items)

-- whether an item, from 1, is marked: bit 0 of marks is the first item
abbrev pub is_marked : Option Value → ℕ → Bool
is_marked None item = false
is_marked (Some (values.Text text)) item = false
is_marked (Some (values.Marks marks)) item = (marks / 2 ^ (item - 1)) % 2 == 1
is_marked (Some (values.Item marked)) item = marked == item

-- check boxes keep an item that there is
abbrev pub IsSelecting : ℕ → Private → Type 0
IsSelecting count (Selecting item) = IsTrue (is_item_place count item)
IsSelecting count _ = ⊥

-- what is marked; nothing without a value
abbrev pub held_marks : Option Value → Value
held_marks None = values.Marks 0
held_marks (Some value) = value

-- the item that check boxes have selected
abbrev pub selecting_of : Private → ℕ
selecting_of (Selecting item) = item
selecting_of _ = 1

-- the selected item: of radio buttons it is the marked one
abbrev pub selected_of : ClusterKind → Content → ℕ
selected_of Boxes c = selecting_of c.private
selected_of Radios c = item_of c.value

-- what a cluster holds
abbrev pub cluster_of : ClusterKind → Content → Cluster
cluster_of kind c = record { value = held_marks c.value; selected = selected_of kind c }

-- a cluster that holds this
abbrev pub with_cluster : ClusterKind → Cluster → Content → Content
with_cluster Boxes held c = record c { value = Some held.value; private = Selecting held.selected }
with_cluster Radios held c = record c { value = Some held.value }

-- ---- keys

-- the item before and after, cyclically
abbrev pub item_before : ℕ → ℕ → ℕ
item_before count item = if nat_le item 1 then count else item - 1

-- the item after it, cyclically
abbrev pub item_after : ℕ → ℕ → ℕ
item_after count item = if nat_le count item then 1 else item + 1

-- the mark of an item is flipped: bit 0 is the first item
abbrev pub flipped : Value → ℕ → Value
flipped (values.Marks marks) item = values.Marks (bit_xor marks (2 ^ (item - 1)))
flipped value item = value

-- an item is selected: radio buttons mark it
abbrev pub selected : ClusterKind → ℕ → Cluster → Cluster
selected Boxes item c = record c { selected = item }
selected Radios item c = record { value = values.Item item; selected = item }

-- an item is selected and pressed: check boxes flip its mark
abbrev pub pressed : ClusterKind → ℕ → Cluster → Cluster
pressed Boxes item c = record { value = flipped c.value item; selected = item }
pressed Radios item c = selected Radios item c

-- what a key does
pub data ClusterKey : Type 0 where
  -- it isn't one of the cluster's
  Passed : ClusterKey
  Selects : (item : ℕ) → ClusterKey
  Presses : (item : ℕ) → ClusterKey

-- the press that a letter asks for, if an item marks it
abbrev pub of_letter : Option ℕ → ClusterKey
of_letter None = Passed
of_letter (Some item) = Presses item

-- Up and Down select and wrap, Space presses, and so does the letter of an own item
abbrev pub cluster_key : List MarkedText → ℕ → ℕ → Key → ClusterKey
cluster_key items count at keys.Up = Selects (item_before count at)
cluster_key items count at keys.Down = Selects (item_after count at)
cluster_key items count at (keys.Char ch) = if ch == 32 then Presses at else of_letter (item_marking items ch)
cluster_key items count at _ = Passed

-- the cluster after a key
abbrev pub keyed_cluster : ClusterKind → ClusterKey → Cluster → Cluster
keyed_cluster kind Passed c = c
keyed_cluster kind (Selects item) c = selected kind item c
keyed_cluster kind (Presses item) c = pressed kind item c

-- whether a key may change a mark: all but the selecting ones of check boxes
abbrev pub may_change : ClusterKind → ClusterKey → Bool
may_change kind Passed = false
may_change Boxes (Selects item) = false
may_change Radios (Selects item) = true
may_change kind (Presses item) = true

-- what a cluster makes of one of its keys
abbrev pub cluster_answer : ClusterKind → ClusterKey → Content → Answer
cluster_answer kind Passed c = answers.Passed
cluster_answer kind key c = answers.Becomes (with_cluster kind (keyed_cluster kind key (cluster_of kind c)) c)

-- a key of a cluster's table
abbrev pub cluster_keyed : ClusterKind → List MarkedText → Key → Content → Answer
cluster_keyed kind items k c = cluster_answer kind (cluster_key items (length items) (selected_of kind c) k) c

-- ---- the mouse

-- the item of a cluster's row, from 1
abbrev pub item_of_row : ℕ → ℕ
item_of_row row = row + 1

-- the item is selected and pressed
abbrev pub cluster_item_pressed : ClusterKind → ℕ → Content → Content
cluster_item_pressed kind item c = with_cluster kind (pressed kind item (cluster_of kind c)) c

-- an up on a row of a cluster presses its item, if it is the one that was under the down
abbrev pub cluster_released : ClusterKind → ℕ → ℕ → Content → Answer
cluster_released kind item row c =
    if item_of_row row == item then answers.Becomes (cluster_item_pressed kind item c) else answers.Passed

-- ---- what they show

-- the four columns before an item
abbrev pub box_before : ClusterKind → Bool → List ℕ
box_before Boxes true = codes "[X] "
box_before Boxes false = codes "[ ] "
box_before Radios true = codes "(*) "
box_before Radios false = codes "( ) "

-- the role of a cell: that of the marked letter before that of the selected row
abbrev pub cluster_role : Bool → Bool → ClusterRole
cluster_role is_at_letter is_selected =
    if is_at_letter then cluster.Letter else if is_selected then cluster.Selected else cluster.Normal

-- a row with an item and whether it is marked; a row past the last item is empty
abbrev pub cluster_row : (Role → ℕ) → ClusterKind → (is_selected is_marked : Bool) → Option MarkedText → ℕ
    → Glyph
cluster_row colour kind is_selected is_marked None x = glyph 32 (colour (roles.Cluster cluster.Normal))
cluster_row colour kind is_selected is_marked (Some text) x =
    shown (text_row (box_before kind is_marked ++ text.text) x)
    (colour (roles.Cluster (cluster_role (is_mark_from 4 text.mark x) is_selected)))

-- an item a row
abbrev pub cluster_face : (Role → ℕ) → ClusterKind → Look → List MarkedText → Content → FaceOf
cluster_face colour kind look items c x y =
    cluster_row colour kind (look.is_focused && (selected_of kind c == y + 1)) (is_marked c.value (y + 1))
    (slice_get items y) x

-- ---- the whole

-- what check boxes and radio buttons have in common
abbrev pub cluster_behaviour : ClusterKind → List ℕ → List MarkedText → Value → Behaviour
cluster_behaviour kind name items start = record plain {
  name = Some name;
  rows = pos (length items);
  least_width = pos 5;
  texts = map (λ item. item.text) items;
  shortcut = ItemMarks kind name items;
  is_control = true;
  value = Some start;
  key = cluster_keyed kind items;
  down = Holds;
  remembered = item_of_row;
  up = cluster_released kind;
  faces = λ colour owner look width c. cluster_face colour kind look items c ∷ [];
}

abbrev pub boxes_behaviour : CheckBoxes → Behaviour
boxes_behaviour boxes =
    record (cluster_behaviour Boxes boxes.name boxes.items (values.Marks (marks_of boxes.start))) {
      opened = λ value. Selecting 1;
    }

abbrev pub radios_behaviour : RadioButtons → Behaviour
radios_behaviour radios =
    cluster_behaviour Radios radios.name radios.items (values.Item (natural radios.start))

abbrev pub boxes_facts : CheckBoxes → Facts
boxes_facts boxes = record plain_facts {
  HasLawfulCount = (1 ≤ length boxes.items) × (length boxes.items ≤ 16);
  HasLawfulStart = All (λ item. IsItem item (length boxes.items)) boxes.start;
  AreMarks = λ marks. marks < 2 ^ length boxes.items;
  IsPrivate = IsSelecting (length boxes.items);
}

abbrev pub radios_facts : RadioButtons → Facts
radios_facts radios = record plain_facts {
  HasLawfulCount = (1 ≤ length radios.items) × (length radios.items ≤ 16);
  HasLawfulStart = IsItem radios.start (length radios.items);
  IsItem = λ item. IsTrue (is_item_place (length radios.items) item);
}
