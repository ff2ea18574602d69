-- What an answer promises to the question whether events reach a goal.
use Rattle.std.specs.Prelude.{◌≡◌, ℕ, List, Some, slice_get}
use Rattle.tv_model.specs.declared.desc.Desc.{Desc}
use Rattle.tv_model.specs.declared.desc.Dialog.{Dialog}
use Rattle.tv_reach.specs.declared.answer.Answer.{Answer}
use Rattle.tv_reach.specs.declared.answer.Answer.TheVariants as answers
use Rattle.tv_reach.specs.declared.answer.Reason.{Reason}
use Rattle.tv_reach.specs.declared.goal.Goal.{Goal}
use Rattle.tv_reach.specs.declared.mask.Mask.{Mask}
use Rattle.tv_reach.specs.Goals.{IsNeverReached, Reaches}
use Rattle.tv_reach.specs.Masks.{IsClosed}
use Rattle.tv_reach.specs.Never.{IsReason}

-- a closed list of masks shows why no events reach the goal
abbrev pub IsNever : Desc → Dialog → Goal → Reason → Type 0
IsNever d dialog goal why = (masks : List Mask) × IsClosed dialog masks × IsReason d dialog masks goal why

-- no events reach the goal in the dialog at the place, for this reason
pub record IsNeverFor (d : Desc) (place : ℕ) (goal : Goal) (why : Reason) : Type 0 where
  pub dialog : Dialog
  pub there : slice_get d.dialogs place ≡ Some dialog
  pub never : IsNever d dialog goal why
  pub unreached : IsNeverReached d place goal

-- a way reaches the goal; what is told to be never reached is reached by no events, for the reason that is told
abbrev pub IsAnswer : Desc → ℕ → Goal → Answer → Type 0
IsAnswer d place goal (answers.Way events) = Reaches d place goal events
IsAnswer d place goal (answers.Never why) = IsNeverFor d place goal why
IsAnswer d place goal answers.Unknown = Unit {0}
