-- The words of answers: a line for each goal of each dialog.
use Rattle.std.specs.Prelude.{[], ℕ, List, ◌∷◌, ◌++◌, codes, flat_map}
use Rattle.tv_model.specs.declared.desc.Desc.{Desc}
use Rattle.tv_model.specs.Log.LogText.{end_word, name_text}
use Rattle.tv_reach.specs.declared.answer.Answer.{Answer}
use Rattle.tv_reach.specs.declared.answer.Answer.TheVariants as answers
use Rattle.tv_reach.specs.declared.answer.Reason.{Reason}
use Rattle.tv_reach.specs.declared.answer.Reason.TheVariants as reasons
use Rattle.tv_reach.specs.declared.goal.Goal.{Goal}
use Rattle.tv_reach.specs.declared.goal.Goal.TheVariants as goals
use Rattle.tv_ways.specs.declared.asking.DialogWays.{DialogWays}
use Rattle.tv_ways.specs.declared.asking.Way.{Way}
use Rattle.tv_ways.specs.Wording.{way_words}

abbrev pub goal_words : Desc → Goal → List ℕ
goal_words d goals.Opens = codes "open"
goal_words d (goals.Ends command) = codes "end " ++ end_word command.0
goal_words d (goals.Focuses i) = codes "focus " ++ name_text d i
goal_words d (goals.Shows i) = codes "show " ++ name_text d i

abbrev pub reason_words : Desc → Reason → List ℕ
reason_words d reasons.NotOpened = codes "nothing opens the dialog"
reason_words d reasons.NoGiver = codes "nothing gives it"
reason_words d reasons.NotGiven = codes "what gives it is never shown and enabled"
reason_words d (reasons.Blocked i) =
    name_text d i ++ codes " is never shown and starts outside its domain"
reason_words d reasons.NotFree = codes "it is never shown and enabled"
reason_words d reasons.NotShown = codes "it is never shown"

abbrev pub answer_words : Desc → Answer → List ℕ
answer_words d (answers.Way events) = way_words events
answer_words d (answers.Never why) = codes "never (" ++ reason_words d why ++ codes ")"
answer_words d answers.Unknown = codes "unknown (more than 4096 cases)"

-- a goal and its answer
abbrev pub way_text : Desc → Way → List ℕ
way_text d way = goal_words d way.goal ++ codes ": " ++ answer_words d way.answer

abbrev pub way_line : Desc → Way → List ℕ
way_line d way = way_text d way ++ (10 ∷ [])

-- the lines of a dialog
abbrev pub dialog_lines : Desc → DialogWays → List ℕ
dialog_lines d found =
    codes "dialog " ++ name_text d found.dialog ++ (10 ∷ []) ++ flat_map (way_line d) found.ways.items

-- the lines of a description
abbrev pub ways_text : Desc → List DialogWays → List ℕ
ways_text d all = flat_map (dialog_lines d) all
