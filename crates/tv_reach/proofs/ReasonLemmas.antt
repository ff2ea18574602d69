-- Where no reason is found against an end there is none.
use Rattle.std.proofs.Common.{◌≡◌, List, All, Option, Some, None, IfSome, Result, Ok, Err, IfOk, sym, subst}
use Rattle.std.specs.declared.alloc.AllocError.{AllocError}
use Rattle.tv_event.specs.declared.event.Command.{Command}
use Rattle.tv_model.specs.declared.desc.Desc.{Desc}
use Rattle.tv_model.specs.declared.desc.Dialog.{Dialog}
use Rattle.tv_machine.specs.Leaves.{leaf_list}
use Rattle.tv_reach.specs.declared.answer.Reason.{Reason}
use Rattle.tv_reach.specs.declared.answer.Reason.TheVariants as reasons
use Rattle.tv_reach.specs.declared.goal.Goal.{Goal}
use Rattle.tv_reach.specs.declared.goal.Goal.TheVariants as goals
use Rattle.tv_reach.specs.declared.mask.Mask.{Mask}
use Rattle.tv_reach.specs.Never.{Blocks, HasNoGiver, IsNeverGiven, IsNeverOpened, IsReason, IsReasonIn, LacksReason}
use Rattle.tv_reach.proofs.MaskLemmas.{at-any}

-- in a dialog that something opens a reason is one
pub in_opened : (d : Desc) (dialog : Dialog) (masks : List Mask) (goal : Goal) (why : Reason) → (IsNeverOpened d dialog → ⊥)
    → IsReasonIn d dialog masks goal why → IsReason d dialog masks goal why
in_opened d dialog masks goals.Opens reasons.NotOpened opened why = absurd why
in_opened d dialog masks (goals.Ends c) reasons.NotOpened opened why = absurd why
in_opened d dialog masks (goals.Focuses i) reasons.NotOpened opened why = absurd why
in_opened d dialog masks (goals.Shows i) reasons.NotOpened opened why = absurd why
in_opened d dialog masks goal reasons.NoGiver opened why = (opened, why)
in_opened d dialog masks goal reasons.NotGiven opened why = (opened, why)
in_opened d dialog masks goal (reasons.Blocked i) opened why = (opened, why)
in_opened d dialog masks goal reasons.NotFree opened why = (opened, why)
in_opened d dialog masks goal reasons.NotShown opened why = (opened, why)

pub found_opened : (d : Desc) (dialog : Dialog) (masks : List Mask) (goal : Goal) (found : Result (Option Reason) AllocError) → (IsNeverOpened d dialog → ⊥)
    → IfOk found (λ reason. IfSome reason (λ why. IsReasonIn d dialog masks goal why)) → IfOk found (λ reason. IfSome reason (λ why. IsReason d dialog masks goal why))
found_opened d dialog masks goal (Err failed) opened is = tt
found_opened d dialog masks goal (Ok None) opened is = tt
found_opened d dialog masks goal (Ok (Some why)) opened is = in_opened d dialog masks goal why opened is

module _ (d : Desc) (dialog : Dialog) (masks : List Mask) (opened : IsNeverOpened d dialog → ⊥) where
  pub ends_lack : (c : Command) → (HasNoGiver d dialog c.0 → ⊥) → (IsNeverGiven d dialog masks c.0 → ⊥)
      → All (λ leaf. Blocks dialog masks leaf.node.id leaf → ⊥) (leaf_list dialog.views) → LacksReason d dialog masks (goals.Ends c)
  ends_lack c giver given blocks reasons.NotOpened why = opened why
  ends_lack c giver given blocks reasons.NoGiver why = giver why.1.1
  ends_lack c giver given blocks reasons.NotGiven why = given why.1.1
  ends_lack c giver given blocks (reasons.Blocked i) why =
      at-any (λ leaf. Blocks dialog masks leaf.node.id leaf → ⊥) (Blocks dialog masks i) (leaf_list dialog.views) blocks why.1.1
      (λ leaf none here. none (subst (λ j. Blocks dialog masks j leaf) (sym here.id) here))
  ends_lack c giver given blocks reasons.NotFree why = why.1
  ends_lack c giver given blocks reasons.NotShown why = why.1
