-- How the views of a dialog stand, where the machine's dialog stands so.
use Rattle.std.specs.Prelude.{◌≡◌, ℕ, Bool, true, false, IsTrue, List, ◌∷◌, map, reverse, All, Option, Some}
use Rattle.std.specs.Prelude.{None, is_some, ◌==◌, if◌then◌else◌}
use Rattle.tv_cells.specs.declared.rect.Rect.{Rect}
use Rattle.tv_model.specs.declared.node.Id.{Id}
use Rattle.tv_model.specs.declared.kind.Kind.{Kind}
use Rattle.tv_model.specs.Kinds.{behaviour}
use Rattle.tv_machine.specs.Safe.{is_field}
use Rattle.tv_model.specs.declared.record.Value.TheVariants as values
use Rattle.tv_model.specs.declared.desc.Dialog.{Dialog}
use Rattle.tv_model.specs.Description.Rectangles.{place_of_node}
use Rattle.tv_view.specs.Meaning.{Leaf, Placed}
use Rattle.tv_machine.specs.State.{LeafState, Held}
use Rattle.tv_model.specs.Controls.Private.{Plain, Editing}
use Rattle.tv_model.specs.Controls.Contents.{Content}
use Rattle.tv_machine.specs.Leaves.{PlacedNode, leaf_list}
use Rattle.tv_machine.specs.Dialog.Rules.{is_enabled, is_visible}
use Rattle.tv_machine.specs.Dialog.Modal.{Modal, content_at}
use Rattle.tv_group.specs.Outline.{body_bounds}

-- ---- leaves

-- what the leaf of an id remembers, if it holds the mouse
abbrev pub held_at : Option Held → Id → Option ℕ
held_at None i = None
held_at (Some held) i = if held.id.0 == i.0 then Some held.item else None

-- a leaf: what it holds, the focus and the hold are the machine's; whether it is shown and enabled is what
-- the rules made of
-- the marks of these leaves
abbrev pub leaf_as : Dialog → List LeafState → Modal → PlacedNode → Leaf
leaf_as d ruled m leaf = record {
  node = leaf.node;
  value = (content_at m leaf.node.id).value;
  private = (content_at m leaf.node.id).private;
  overwrites = (content_at m leaf.node.id).overwrites;
  is_focused = leaf.node.id.0 == m.focus.0;
  held = held_at m.held leaf.node.id;
  is_shown = is_visible d ruled leaf;
  is_enabled = is_enabled d ruled leaf.node;
}

-- the groups around it: the body, and the panes from the outermost in
abbrev pub around_of : Dialog → PlacedNode → List Rect
around_of d leaf = body_bounds d.node ∷ map place_of_node (reverse leaf.panes)

-- the same in its place, where current members lead to the focus
abbrev pub placed_as : Dialog → List LeafState → Modal → PlacedNode → Placed
placed_as d ruled m leaf = record {
  leaf = leaf_as d ruled m leaf;
  around = around_of d leaf;
  is_current = leaf.node.id.0 == m.focus.0;
}

-- the leaves in description order, where the rules were last applied to these marks
abbrev pub tree_as : Dialog → List LeafState → Modal → List Placed
tree_as d ruled m = map (placed_as d ruled m) (leaf_list d.views)

-- the same where they were applied to its own
abbrev pub tree_of : Dialog → Modal → List Placed
tree_of d m = tree_as d m.leaves m

-- ---- what stays so

-- an input has a text, and without the focus its cursor stands at the start and nothing is selected
pub record IsSteadyInput (is_focused : Bool) (c : Content) : Type 0 where
  pub text : List ℕ
  pub cursor : ℕ
  pub is_whole : Bool
  pub value : c.value ≡ Some (values.Text text)
  pub private : c.private ≡ Editing cursor is_whole
  pub rested : is_focused ≡ false → c.private ≡ Editing 0 false

-- what is no field holds nothing
pub record HoldsNothing (c : Content) : Type 0 where
  pub value : c.value ≡ None
  pub private : c.private ≡ Plain

-- what a leaf holds, by whether it is edited and whether it is a field: every field has a value
abbrev pub IsSteadyAs : (is_edited is_field : Bool) → Bool → Content → Type 0
IsSteadyAs true is_field is_focused c = IsSteadyInput is_focused c
IsSteadyAs false true is_focused c = IsTrue (is_some c.value)
IsSteadyAs false false is_focused c = HoldsNothing c

-- the same by its kind
abbrev pub IsSteadyContent : Bool → Kind → Content → Type 0
IsSteadyContent is_focused kind c = IsSteadyAs (behaviour kind).is_edited (is_field kind) is_focused c

-- the same for a leaf of the machine's dialog
abbrev pub IsSteadyLeaf : Modal → PlacedNode → Type 0
IsSteadyLeaf m leaf = IsSteadyContent (leaf.node.id.0 == m.focus.0) leaf.node.kind (content_at m leaf.node.id)

-- the machine's dialog has the leaves of the description, in order, and each holds what its kind does
pub record IsSteady (d : Dialog) (m : Modal) : Type 0 where
  pub leaves : map (λ leaf. leaf.id) m.leaves ≡ map (λ leaf. leaf.node.id) (leaf_list d.views)
  pub contents : All (IsSteadyLeaf m) (leaf_list d.views)
