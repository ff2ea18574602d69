-- What a closed list of masks shows to be reached by no events, and why.
use Rattle.std.specs.Prelude.{◌≡◌, ◌≢◌, ◌<◌, ◌⊎◌, ℕ, Bool, false, true, pos, List, Option, Some, None, slice_get}
use Rattle.std.specs.Prelude.{option_map, All, Any}
use Rattle.std.specs.List.{AllPairs}
use Rattle.tv_event.specs.Commands.{cm_cancel}
use Rattle.tv_model.specs.declared.command.CommandSpec.{CommandSpec}
use Rattle.tv_model.specs.declared.node.Id.{Id}
use Rattle.tv_model.specs.declared.kind.Kind.{Kind}
use Rattle.tv_model.specs.declared.desc.Desc.{Desc}
use Rattle.tv_model.specs.declared.desc.Dialog.{Dialog}
use Rattle.tv_model.specs.Controls.Private.{Plain}
use Rattle.tv_model.specs.Description.Commands.{command_number, command_of}
use Rattle.tv_model.specs.Description.Heads.{dialog_head, is_named}
use Rattle.tv_model.specs.Description.Nodes.{is_button, is_control, is_default}
use Rattle.tv_model.specs.Faults.Starts.{is_option_number}
use Rattle.tv_machine.specs.Controls.Declared.{declared_value}
use Rattle.tv_machine.specs.Leaves.{PlacedNode, leaf_list}
use Rattle.tv_machine.specs.Dialog.Focus.{is_invalid}
use Rattle.tv_reach.specs.declared.answer.Reason.{Reason}
use Rattle.tv_reach.specs.declared.answer.Reason.TheVariants as reasons
use Rattle.tv_reach.specs.declared.goal.Goal.{Goal}
use Rattle.tv_reach.specs.declared.goal.Goal.TheVariants as goals
use Rattle.tv_reach.specs.declared.mask.Mask.{Mask}
use Rattle.tv_reach.specs.Goals.{IsNeverReached}
use Rattle.tv_reach.specs.Masks.{IsClosed, MayEnable, MayShow}
use Rattle.tv_reach.specs.Runs.{IsNeverShown}

-- ---- opening

-- the description starts with the dialog
abbrev pub starts_with : Option (List ℕ) → Dialog → Bool
starts_with None dialog = false
starts_with (Some name) dialog = is_named name dialog

-- the command opens the dialog
abbrev pub opens_by : Dialog → CommandSpec → Bool
opens_by dialog command = is_option_number (pos (command_number command)) (dialog_head dialog).opens

-- neither the start opens the dialog nor a status item nor a menu item
pub record IsNeverOpened (d : Desc) (dialog : Dialog) : Type 0 where
  pub start : starts_with d.start dialog ≡ false
  pub status : All (λ item. opens_by dialog item.command ≡ false) d.status
  pub menus : All (λ menu. All (λ item. opens_by dialog item.command ≡ false) menu.items) d.menus

-- ---- focus

-- by the mask a leaf may be enabled: one without a command always is
abbrev pub MayEnableBy : Dialog → Option CommandSpec → Mask → Type 0
MayEnableBy d None mask = Unit {0}
MayEnableBy d (Some command) mask = MayEnable d (command_number command) mask

-- by the mask it may be shown and enabled
abbrev pub MayBeFree : Dialog → PlacedNode → Mask → Type 0
MayBeFree d leaf mask = MayShow d leaf mask × MayEnableBy d (command_of leaf.node.kind) mask

-- by none of the masks the leaf may be shown and enabled, or it is no control
abbrev pub IsNeverFree : Dialog → List Mask → PlacedNode → Type 0
IsNeverFree d masks leaf = (is_control leaf.node.kind ≡ false) ⊎ All (λ mask. MayBeFree d leaf mask → ⊥) masks

-- ---- ends

-- a button gives the command
abbrev pub GivesEnd : ℕ → PlacedNode → Type 0
GivesEnd number leaf = option_map command_number (command_of leaf.node.kind) ≡ Some number

-- by the mask the leaf may be shown, and it is a control but no button
abbrev pub IsFieldIn : Dialog → Mask → PlacedNode → Type 0
IsFieldIn d mask leaf =
    (is_control leaf.node.kind ≡ true) × (is_button leaf.node.kind ≡ false) × MayShow d leaf mask

-- by the mask such a leaf may be shown, so that Enter presses the default
abbrev pub MayShowField : Dialog → Mask → Type 0
MayShowField d mask = Any (IsFieldIn d mask) (leaf_list d.views)

-- by the mask a button of the command may be pressed: it is enabled, and shown or pressed by Enter as the
-- default
pub record MayPress (d : Dialog) (number : ℕ) (mask : Mask) (leaf : PlacedNode) : Type 0 where
  pub gives : GivesEnd number leaf
  pub enabled : MayEnable d number mask
  pub pressed : MayShow d leaf mask ⊎ ((is_default leaf.node ≡ true) × MayShowField d mask)

-- a status item gives the command
abbrev pub HasStatus : Desc → ℕ → Type 0
HasStatus d number = Any (λ item. command_number item.command ≡ number) d.status

-- by the mask the command may be given: by a button, or by a status item where it is enabled
abbrev pub MayGive : Desc → Dialog → ℕ → Mask → Type 0
MayGive d dialog number mask =
    Any (MayPress dialog number mask) (leaf_list dialog.views) ⊎ (HasStatus d number × MayEnable dialog number mask)

-- there is neither a button of the command nor a status item
pub record HasNoGiver (d : Desc) (dialog : Dialog) (number : ℕ) : Type 0 where
  pub buttons : All (λ leaf. GivesEnd number leaf → ⊥) (leaf_list dialog.views)
  pub status : HasStatus d number → ⊥

-- by none of the masks the command may be given
abbrev pub IsNeverGiven : Desc → Dialog → List Mask → ℕ → Type 0
IsNeverGiven d dialog masks number = All (λ mask. MayGive d dialog number mask → ⊥) masks

-- an input's declared text lies outside its domain
abbrev pub starts_invalid : Kind → Bool
starts_invalid kind =
    is_invalid kind (record { value = declared_value kind; private = Plain; overwrites = false })

-- an input of the id starts with a text outside its domain, and is never shown
pub record Blocks (d : Dialog) (masks : List Mask) (i : Id) (leaf : PlacedNode) : Type 0 where
  pub id : leaf.node.id ≡ i
  pub invalid : starts_invalid leaf.node.kind ≡ true
  pub hidden : IsNeverShown d masks leaf

-- ---- reasons

-- why no events reach the goal in a dialog, by these masks. Against an end a reason holds only where those before
-- it don't: what gives the command is never shown only where something gives it, and an input blocks an end only
-- where the command may be given
abbrev pub IsReasonIn : Desc → Dialog → List Mask → Goal → Reason → Type 0
IsReasonIn d dialog masks (goals.Ends c) reasons.NoGiver = (c.0 ≢ cm_cancel) × HasNoGiver d dialog c.0
IsReasonIn d dialog masks (goals.Ends c) reasons.NotGiven =
    (c.0 ≢ cm_cancel) × IsNeverGiven d dialog masks c.0 × (HasNoGiver d dialog c.0 → ⊥)
IsReasonIn d dialog masks (goals.Ends c) (reasons.Blocked i) =
    (c.0 ≢ cm_cancel) × Any (Blocks dialog masks i) (leaf_list dialog.views)
    × (IsNeverGiven d dialog masks c.0 → ⊥)
IsReasonIn d dialog masks (goals.Focuses i) reasons.NotFree =
    All (λ leaf. leaf.node.id ≡ i → IsNeverFree dialog masks leaf) (leaf_list dialog.views)
IsReasonIn d dialog masks (goals.Shows i) reasons.NotShown =
    All (λ leaf. leaf.node.id ≡ i → IsNeverShown dialog masks leaf) (leaf_list dialog.views)
IsReasonIn d dialog masks goal why = ⊥

-- the same, or nothing opens the dialog, which is told before any other reason
abbrev pub IsReason : Desc → Dialog → List Mask → Goal → Reason → Type 0
IsReason d dialog masks goal reasons.NotOpened = IsNeverOpened d dialog
IsReason d dialog masks goal why = (IsNeverOpened d dialog → ⊥) × IsReasonIn d dialog masks goal why

-- by these masks there is no reason against the goal
abbrev pub LacksReason : Desc → Dialog → List Mask → Goal → Type 0
LacksReason d dialog masks goal = (why : Reason) → IsReason d dialog masks goal why → ⊥

-- each dialog has a later line than those before it
abbrev pub DialogsRise : Desc → Type 0
DialogsRise d = AllPairs (λ dialog later. dialog.node.id.0 < later.node.id.0) d.dialogs

-- with a closed list of masks, what there is a reason against is reached by no events
abbrev pub NeverReached : Desc → Type 0
NeverReached d =
    (place : ℕ) (dialog : Dialog) (masks : List Mask) (goal : Goal) (why : Reason)
    → slice_get d.dialogs place ≡ Some dialog → IsClosed dialog masks → IsReason d dialog masks goal why
    → IsNeverReached d place goal
