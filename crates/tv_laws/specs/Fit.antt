-- What every event keeps of an open dialog at work.
use Rattle.std.specs.Prelude.{◌≡◌, ◌⊎◌, Bool, true, false, map, filter, Some, IsTrue, All, ◌==◌}
use Rattle.tv_model.specs.declared.kind.Kind.{Kind}
use Rattle.tv_model.specs.Kinds.{facts}
use Rattle.tv_model.specs.declared.desc.Dialog.{Dialog}
use Rattle.tv_model.specs.Description.Nodes.{is_button}
use Rattle.tv_machine.specs.State.{Held}
use Rattle.tv_model.specs.Controls.Private.{Private}
use Rattle.tv_machine.specs.Leaves.{PlacedNode, leaf_list}
use Rattle.tv_model.specs.Controls.Contents.{Content}
use Rattle.tv_machine.specs.Dialog.Rules.{is_among, is_visible, is_enabled}
use Rattle.tv_machine.specs.Dialog.Modal.{Modal, content_at, leaf_at}
use Rattle.tv_machine.specs.Dialog.Focus.{is_free_at}
use Rattle.tv_machine.specs.Safe.{IsSafeContent, IsPrivateOf}

-- ---- leaves

-- an input that hasn't the focus has its cursor at the start and nothing selected
abbrev pub IsAtRest : Kind → Private → Type 0
IsAtRest kind private = (facts kind).IsAtRest private

-- what a leaf of the kind holds: a value of its kind, and beside it what its kind keeps
pub record IsFitContent (has_focus : Bool) (kind : Kind) (c : Content) : Type 0 where
  pub safe : IsSafeContent kind c
  pub private : IsPrivateOf kind c.private
  pub rests : has_focus ≡ false → IsAtRest kind c.private

-- what a leaf of the dialog holds
abbrev pub IsFitLeaf : Modal → PlacedNode → Type 0
IsFitLeaf m leaf = IsFitContent (leaf.node.id.0 == m.focus.0) leaf.node.kind (content_at m leaf.node.id)

-- ---- the dialog

-- its leaves are there, in description order, and hold what they may; and so are the inputs in which typing
-- overwrites
pub record IsStanding (d : Dialog) (m : Modal) : Type 0 where
  pub leaves : map (λ leaf. leaf.id) m.leaves ≡ map (λ leaf. leaf.node.id) (leaf_list d.views)
  pub contents : All (IsFitLeaf m) (leaf_list d.views)
  pub ordered : m.overwriting ≡ filter (is_among m.overwriting) (map (λ view. view.id) d.views)

-- the leaf that holds the mouse is visible, and a button enabled; it has the focus, or is a button, so that
-- no mark changes
-- but its own
pub record IsFitHold (d : Dialog) (m : Modal) (held : Held) : Type 0 where
  pub leaf : PlacedNode
  pub there : leaf_at d held.id ≡ Some leaf
  pub visible : is_visible d m.leaves leaf ≡ true
  pub enabled : is_enabled d m.leaves leaf.node ≡ true
  pub near : (held.id ≡ m.focus) ⊎ IsTrue (is_button leaf.node.kind)

-- and the focus is free
pub record IsFitModal (d : Dialog) (m : Modal) : Type 0 where
  pub standing : IsStanding d m
  pub focus : is_free_at d m.leaves m.focus ≡ true
  pub held : (held : Held) → m.held ≡ Some held → IsFitHold d m held
