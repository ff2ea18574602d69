-- What a view means: its leaves, one after the other.
use Rattle.std.specs.Prelude.{[], ℕ, Bool, true, false, List, ◌∷◌, map, Option, Some, None, if◌then◌else◌}
use Rattle.std.specs.List.{list_any}
use Rattle.tv_cells.specs.declared.rect.Rect.{Rect}
use Rattle.tv_model.specs.declared.node.Node.{Node}
use Rattle.tv_model.specs.declared.record.Value.{Value}
use Rattle.tv_model.specs.Description.Rectangles.{place_of_node}
use Rattle.tv_model.specs.Controls.Private.{Private}
use Rattle.tv_machine.specs.Controls.Declared.{declared_leaf}

-- ---- leaves

-- a control, a label or a static text, and how it stands
pub record Leaf : Type 0 where
  pub node : Node
  -- a field has a value, another leaf has none
  pub value : Option Value
  pub private : Private
  -- whether typing overwrites; of use to an input alone
  pub overwrites : Bool
  -- whether the last focus move went to it
  pub is_focused : Bool
  -- the item that it remembers while it holds the mouse, 0 where it has none
  pub held : Option ℕ
  -- what the last rules made of it
  pub is_shown : Bool
  pub is_enabled : Bool

-- a leaf before any event
abbrev pub fresh : Node → Leaf
fresh node = record {
  node = node;
  value = (declared_leaf node).value;
  private = (declared_leaf node).private;
  overwrites = false;
  is_focused = false;
  held = None;
  is_shown = true;
  is_enabled = true;
}

-- its rectangle, seen from the corner of what it stands in
abbrev pub bounds_of : Leaf → Rect
bounds_of leaf = place_of_node leaf.node

-- ---- leaves in their places

-- a leaf, the groups around it from the outermost in, each seen from the one around it, and whether the
-- current members lead to it
pub record Placed : Type 0 where
  pub leaf : Leaf
  pub around : List Rect
  pub is_current : Bool

-- a leaf by itself is the current one of its place
abbrev pub alone : Leaf → Placed
alone leaf = record { leaf = leaf; around = []; is_current = true }

-- the same leaf in one more group, which lies around all the others
abbrev pub inside : Rect → Placed → Placed
inside bounds x = record x { around = bounds ∷ x.around }

-- the same leaf where no current member leads to it
abbrev pub uncurrent : Placed → Placed
uncurrent x = record x { is_current = false }

-- the leaves of a member, which keep their marks where it is the current one
abbrev pub kept : Bool → List Placed → List Placed
kept b xs = if b then xs else map uncurrent xs

-- whether the current members lead to a leaf
abbrev pub has_current : List Placed → Bool
has_current xs = list_any (λ x. x.is_current) xs

-- whether an item is remembered
abbrev pub has_item : Option ℕ → Bool
has_item None = false
has_item (Some item) = true

-- whether the leaf holds the mouse
abbrev pub holds_mouse : Leaf → Bool
holds_mouse leaf = has_item leaf.held

-- ---- the outline of a group: its panes too, in description order

-- what stands in a group: a leaf, or the bounds of a pane
pub data Part : Type 0 where
  LeafAt : (leaf : Leaf) → Part
  PaneAt : (bounds : Rect) → Part

-- how many panes are around it
pub record Outlined : Type 0 where
  pub depth : ℕ
  pub part : Part
