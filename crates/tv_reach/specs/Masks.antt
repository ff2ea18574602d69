-- Masks: which rules of a dialog may hold, whatever happens.
use Rattle.std.specs.Prelude.{◌≡◌, ◌<◌, ◌⊎◌, ℕ, Bool, false, true, List, None, Some, length, slice_get, All, Any, ◌==◌}
use Rattle.std.specs.Int.{IsBitSet}
use Rattle.tv_event.specs.declared.event.Event.{Event}
use Rattle.tv_model.specs.declared.desc.Dialog.{Dialog}
use Rattle.tv_model.specs.declared.desc.Rule.{Rule}
use Rattle.tv_model.specs.declared.kind.Kind.{Kind}
use Rattle.tv_model.specs.declared.kind.Kind.TheVariants as kinds
use Rattle.tv_model.specs.Description.Names.{meant}
use Rattle.tv_model.specs.Description.Numbers.{natural}
use Rattle.tv_machine.specs.State.{LeafState}
use Rattle.tv_machine.specs.Leaves.{PlacedNode, leaf_list}
use Rattle.tv_machine.specs.Dialog.Modal.{Modal}
use Rattle.tv_machine.specs.Dialog.Opening.{opened_leaves}
use Rattle.tv_machine.specs.Dialog.Rules.{enables, holds, shows}
use Rattle.tv_machine.specs.Dialog.Step.{dialog_step}
use Rattle.tv_laws.specs.Ends.{IsOpen}
use Rattle.tv_laws.specs.Steps.{RespectsHold}
use Rattle.tv_reach.specs.declared.mask.Mask.{Mask}
use Rattle.tv_reach.specs.Marks.{is_view}

-- ---- one mask

-- the mask has the rule at the place
abbrev pub HasRule : Mask → ℕ → Type 0
HasRule mask place = IsBitSet mask.bits place

-- the mask has every rule of the dialog that passes the test
abbrev pub HasRules : Dialog → (Rule → Bool) → Mask → Type 0
HasRules d test mask =
    (place : ℕ) (rule : Rule) → slice_get d.rules place ≡ Some rule → test rule ≡ true → HasRule mask place

-- every rule that holds with these leaves is in the mask
abbrev pub Covers : Dialog → List LeafState → Mask → Type 0
Covers d leaves mask = HasRules d (holds d leaves) mask

-- by the mask the leaf may be shown: it has each rule that shows the leaf or a pane around it
abbrev pub MayShow : Dialog → PlacedNode → Mask → Type 0
MayShow d leaf mask = HasRules d (λ rule. shows d.views leaf rule.effect) mask

-- by the mask the command may be enabled: it has each rule that enables it
abbrev pub MayEnable : Dialog → ℕ → Mask → Type 0
MayEnable d number mask = HasRules d (λ rule. enables number rule.effect) mask

-- each mask has rules of the dialog, and nothing else
abbrev pub AreMasksOf : List Rule → List Mask → Type 0
AreMasksOf rules masks = All (λ mask. (place : ℕ) → HasRule mask place → place < length rules) masks

-- ---- closed lists

-- the rules that hold with these leaves lie within one of the masks
abbrev pub LiesWithin : Dialog → List Mask → List LeafState → Type 0
LiesWithin d masks leaves = Any (Covers d leaves) masks

-- the rule asks for a mark of the leaf
abbrev pub is_own : Dialog → PlacedNode → Rule → Bool
is_own d leaf rule = is_view leaf.node.id (meant d.views rule.cluster)

-- whether the rule may hold while the item is chosen: of radio buttons those that ask for it, of check boxes
-- all
abbrev pub may_hold : Kind → ℕ → Rule → Bool
may_hold (kinds.RadioButtons radios) item rule = natural rule.item == item
may_hold kind item rule = true

-- the rule at the place may hold once the item of the leaf is chosen: it is the leaf's own and may hold with the
-- item, or it is another's and in the mask
abbrev pub MayHoldThen : Dialog → PlacedNode → ℕ → Mask → ℕ → Rule → Type 0
MayHoldThen d leaf item mask place rule =
    ((is_own d leaf rule ≡ true) × (may_hold leaf.node.kind item rule ≡ true))
    ⊎ ((is_own d leaf rule ≡ false) × HasRule mask place)

-- the other mask has every rule that may hold then
abbrev pub LeadsTo : Dialog → PlacedNode → ℕ → Mask → Mask → Type 0
LeadsTo d leaf item mask other =
    (place : ℕ) (rule : Rule) → slice_get d.rules place ≡ Some rule → MayHoldThen d leaf item mask place rule
    → HasRule other place

-- by the mask the leaf may be shown only if each choice of an item leads to one of the masks
abbrev pub IsFollowed : Dialog → List Mask → Mask → PlacedNode → Type 0
IsFollowed d masks mask leaf = MayShow d leaf mask → (item : ℕ) → Any (LeadsTo d leaf item mask) masks

-- one of the masks has every rule that holds as the dialog is declared; and where a mask shows a leaf, each
-- choice of an item leads to one of them
pub record IsClosed (d : Dialog) (masks : List Mask) : Type 0 where
  pub starts : LiesWithin d masks (opened_leaves d None)
  pub leads : All (λ mask. All (IsFollowed d masks mask) (leaf_list d.views)) masks

-- ---- events

-- what lies within a closed list stays there, whatever the event
abbrev pub ClosedHolds : Dialog → Type 0
ClosedHolds d =
    (masks : List Mask) (m : Modal) (e : Event) → IsClosed d masks → IsOpen d m → RespectsHold m.held e
    → LiesWithin d masks m.leaves → LiesWithin d masks (dialog_step d e m).leaves
