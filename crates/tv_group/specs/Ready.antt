-- What is said of a dialog and an event while the event is handled.
use Rattle.std.specs.Prelude.{◌≡◌, Bool, true, false, IsTrue, Some, is_some}
use Rattle.tv_cells.specs.Rectangle.{LiesWithin}
use Rattle.tv_cells.specs.declared.rect.Point.{Point}
use Rattle.tv_event.specs.declared.event.Key.{Key}
use Rattle.tv_event.specs.declared.event.Key.TheVariants as keys
use Rattle.tv_model.specs.declared.node.Id.{Id}
use Rattle.tv_model.specs.declared.desc.Dialog.{Dialog}
use Rattle.tv_machine.specs.State.{Held}
use Rattle.tv_machine.specs.Dialog.Modal.{Modal, leaf_at}
use Rattle.tv_view.specs.declared.reaction.Reaction.{Reaction}
use Rattle.tv_view.specs.declared.reaction.Reaction.TheVariants as reactions

-- no answer says that a mark may have changed
abbrev pub KeepsMarks : Reaction → Type 0
KeepsMarks r = (i : Id) → r ≡ reactions.Changed i → ⊥

-- what holds the mouse is a leaf of the dialog
abbrev pub HoldsLeaf : Dialog → Modal → Type 0
HoldsLeaf d m = (held : Held) → m.held ≡ Some held → IsTrue (is_some (leaf_at d held.id))

-- the keys that a dialog doesn't hand to its views
abbrev pub is_own : Key → Bool
is_own keys.Tab = true
is_own keys.ShiftTab = true
is_own keys.Enter = true
is_own keys.Esc = true
is_own _ = false

-- the point lies so near that every coordinate on the way to a leaf is the plain difference
pub record IsPointOf (p : Point) : Type 0 where
  pub x : LiesWithin 20000 p.x
  pub y : LiesWithin 20000 p.y

-- nothing but leaves and the hold differs
pub record IsLike (m n : Modal) : Type 0 where
  pub focus : n.focus ≡ m.focus
  pub log : n.log ≡ m.log
  pub ended : n.ended ≡ m.ended
