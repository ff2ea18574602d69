-- What an event may make of the marks of an open dialog, by which rules hold, and of its texts.
use Rattle.std.specs.Prelude.{[], ◌≡◌, ◌⊎◌, ℕ, Bool, false, true, List, Option, Some, None, All, ◌==◌}
use Rattle.tv_event.specs.declared.event.Event.{Event}
use Rattle.tv_model.specs.declared.node.Id.{Id}
use Rattle.tv_model.specs.declared.node.Node.{Node}
use Rattle.tv_model.specs.declared.desc.Dialog.{Dialog}
use Rattle.tv_model.specs.Controls.Contents.{text_of}
use Rattle.tv_model.specs.Description.Names.{meant}
use Rattle.tv_machine.specs.State.{LeafState}
use Rattle.tv_machine.specs.Leaves.{PlacedNode, leaf_list}
use Rattle.tv_machine.specs.Dialog.Alike.{HoldSame}
use Rattle.tv_machine.specs.Dialog.Modal.{Modal, leaf_at}
use Rattle.tv_machine.specs.Dialog.Rules.{content_held, holds, is_visible}
use Rattle.tv_machine.specs.Dialog.Step.{dialog_step}
use Rattle.tv_laws.specs.Ends.{IsOpen}

-- ---- what changes

-- the text of the leaf of an id, or none
abbrev pub text_in : List LeafState → Id → List ℕ
text_in leaves i = text_of (content_held leaves [] i).value

-- whether it is the view of the id
abbrev pub is_view : Id → Option Node → Bool
is_view i None = false
is_view i (Some node) = node.id.0 == i.0

-- every rule holds as before, and every leaf has the text that it had
pub record StaySame (d : Dialog) (before after : List LeafState) : Type 0 where
  pub marks : HoldSame d before after
  pub texts : (i : Id) → text_in before i ≡ text_in after i

-- every rule that asks for a mark of another view holds as before
abbrev pub OthersHoldSame : Dialog → Id → List LeafState → List LeafState → Type 0
OthersHoldSame d i before after =
    All (λ rule. is_view i (meant d.views rule.cluster) ≡ false → holds d before rule ≡ holds d after rule)
    d.rules

-- the marks and the text of a leaf may change, which was visible before, and no others
pub record IsMove (d : Dialog) (before after : List LeafState) : Type 0 where
  pub leaf : PlacedNode
  pub there : leaf_at d leaf.node.id ≡ Some leaf
  pub visible : is_visible d before leaf ≡ true
  pub marks : OthersHoldSame d leaf.node.id before after
  pub texts : (i : Id) → (i.0 == leaf.node.id.0) ≡ false → text_in before i ≡ text_in after i

-- marks and texts stay, or those of one leaf change
abbrev pub MovesOne : Dialog → List LeafState → List LeafState → Type 0
MovesOne d before after = StaySame d before after ⊎ IsMove d before after

-- ---- events

-- so it is with every event, a command that is handed in too
abbrev pub EventsMoveOne : Dialog → Type 0
EventsMoveOne d = (m : Modal) (e : Event) → IsOpen d m → MovesOne d m.leaves (dialog_step d e m).leaves

-- the text of a leaf that isn't visible stays as it was, whatever the event
abbrev pub HiddenTextsStay : Dialog → Type 0
HiddenTextsStay d =
    (m : Modal) (e : Event) → IsOpen d m
    → All (λ leaf.
    is_visible d m.leaves leaf ≡ false
    → text_in m.leaves leaf.node.id ≡ text_in (dialog_step d e m).leaves leaf.node.id) (leaf_list d.views)
