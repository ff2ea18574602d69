-- What a closed list of masks says of every run.
use Rattle.std.specs.Prelude.{◌≡◌, ℕ, List, Some, slice_get, All}
use Rattle.tv_event.specs.declared.event.Event.{Event}
use Rattle.tv_model.specs.declared.desc.Desc.{Desc}
use Rattle.tv_model.specs.declared.desc.Dialog.{Dialog}
use Rattle.tv_model.specs.Controls.Contents.{text_of}
use Rattle.tv_model.specs.Log.Record.{Entries}
use Rattle.tv_machine.specs.Controls.Declared.{declared_value}
use Rattle.tv_machine.specs.State.{LeafState, OpenDialog, State}
use Rattle.tv_machine.specs.Leaves.{PlacedNode, leaf_list}
use Rattle.tv_machine.specs.Dialog.Opening.{opened_leaves}
use Rattle.tv_machine.specs.Session.Commands.{saved_at}
use Rattle.tv_laws.specs.Runs.{state_after}
use Rattle.tv_reach.specs.declared.mask.Mask.{Mask}
use Rattle.tv_reach.specs.Marks.{text_in}
use Rattle.tv_reach.specs.Masks.{IsClosed, LiesWithin, MayShow}

-- by none of the masks the leaf may be shown
abbrev pub IsNeverShown : Dialog → List Mask → PlacedNode → Type 0
IsNeverShown d masks leaf = All (λ mask. MayShow d leaf mask → ⊥) masks

-- leaves that are never shown have the texts that are declared
abbrev pub HiddenStay : Dialog → List Mask → List LeafState → Type 0
HiddenStay d masks leaves =
    All (λ leaf. IsNeverShown d masks leaf → text_in leaves leaf.node.id ≡ text_of (declared_value leaf.node.kind))
    (leaf_list d.views)

-- the rules that hold with these leaves lie within a mask, and what is never shown is as declared
pub record StaysWithin (d : Dialog) (masks : List Mask) (leaves : List LeafState) : Type 0 where
  pub rules : LiesWithin d masks leaves
  pub hidden : HiddenStay d masks leaves

-- so it is in the dialog at the place while it is open, and as it would open with its saved record
pub record IsWithin (place : ℕ) (d : Dialog) (masks : List Mask) (s : State) : Type 0 where
  pub «open» : (o : OpenDialog) → s.dialog ≡ Some o → o.place ≡ place → StaysWithin d masks o.leaves
  pub saved : (entries : Entries) → saved_at s place ≡ Some entries
      → StaysWithin d masks (opened_leaves d (Some entries))

-- with a closed list of masks so it is after any events
abbrev pub RunsWithin : Desc → Type 0
RunsWithin d =
    (place : ℕ) (dialog : Dialog) (masks : List Mask) (events : List Event)
    → slice_get d.dialogs place ≡ Some dialog → IsClosed dialog masks
    → IsWithin place dialog masks (state_after d events)
