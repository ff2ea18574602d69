-- What is asked of a description: which of its ends and controls users reach.
use Rattle.std.specs.Prelude.{[], ◌≡◌, ℕ, Bool, List, ◌∷◌, ◌++◌, Some, filter, if◌then◌else◌, map, slice_get}
use Rattle.std.specs.List.{AllZip}
use Rattle.tv_event.specs.declared.event.Event.{Event}
use Rattle.tv_event.specs.Commands.{cm_cancel, cm_no, cm_ok, cm_yes}
use Rattle.tv_model.specs.declared.command.Ends.{Ends}
use Rattle.tv_model.specs.declared.desc.Desc.{Desc}
use Rattle.tv_model.specs.declared.desc.Dialog.{Dialog}
use Rattle.tv_model.specs.declared.node.Node.{Node}
use Rattle.tv_model.specs.Description.Heads.{dialog_head}
use Rattle.tv_model.specs.Description.Nodes.{is_control}
use Rattle.tv_reach.specs.declared.answer.Answer.{Answer}
use Rattle.tv_reach.specs.declared.answer.Answer.TheVariants as answers
use Rattle.tv_reach.specs.declared.goal.Goal.{Goal}
use Rattle.tv_reach.specs.declared.goal.Goal.TheVariants as goals
use Rattle.tv_reach.specs.Answers.{IsAnswer}
use Rattle.tv_reach.specs.Goals.{Reaches}
use Rattle.tv_ways.specs.declared.asking.DialogWays.{DialogWays}
use Rattle.tv_ways.specs.declared.asking.Way.{Way}
use Rattle.tv_ways.specs.Wording.{AreSayable}

-- ---- goals

-- the end by the command, if it is declared
abbrev pub end_if : Bool → ℕ → List Goal
end_if is_declared number = if is_declared then goals.Ends (record { 0 = number }) ∷ [] else []

abbrev pub end_goals : Ends → List Goal
end_goals ends = end_if ends.ok cm_ok ++ end_if ends.cancel cm_cancel ++ end_if ends.yes cm_yes ++ end_if ends.no cm_no

-- the focus of each control
abbrev pub focus_goals : List Node → List Goal
focus_goals views = map (λ view. goals.Focuses view.id) (filter (λ view. is_control view.kind) views)

-- the ends of a dialog, and then its controls
abbrev pub goals_of : Dialog → List Goal
goals_of dialog = end_goals (dialog_head dialog).ends ++ focus_goals dialog.views

-- ---- answers

-- events that reach the goal, and that a script can say
abbrev pub IsFoundWay : Desc → ℕ → Goal → List Event → Type 0
IsFoundWay d place goal events = Reaches d place goal events × AreSayable d events

-- the events of a way are ones that a script can say
abbrev pub HasSayableWay : Desc → Answer → Type 0
HasSayableWay d (answers.Way events) = AreSayable d events
HasSayableWay d _ = Unit {0}

-- the goal with an answer that is right
abbrev pub IsWay : Desc → ℕ → Goal → Way → Type 0
IsWay d place goal way = (way.goal ≡ goal) × IsAnswer d place goal way.answer × HasSayableWay d way.answer

-- all goals of the dialog at the place, with such answers
abbrev pub AreWays : Desc → ℕ → Dialog → List Way → Type 0
AreWays d place dialog ways = AllZip (IsWay d place) (goals_of dialog) ways

-- those of a dialog of the description
pub record AreWaysOf (d : Desc) (dialog : Dialog) (found : DialogWays) : Type 0 where
  pub id : found.dialog ≡ dialog.node.id
  pub place : ℕ
  pub there : slice_get d.dialogs place ≡ Some dialog
  pub ways : AreWays d place dialog found.ways.items

-- those of all dialogs, in their order
abbrev pub AreAllWays : Desc → List DialogWays → Type 0
AreAllWays d all = AllZip (AreWaysOf d) d.dialogs all
