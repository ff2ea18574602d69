use Rattle.std.proofs.Common.{◌≡◌, ◌++◌, take}
use Rattle.tv_model.specs.Description.Heads.{dialog_head}
use Rattle.tv_ways.specs.Asking.{end_goals, focus_goals}
use Rattle.tv_ways.proofs.asking.goals_of.Given as goal

abbrev pub invariant-loop-view : goal.invariant-loop-view
invariant-loop-view l = l.goals ≡ end_goals (dialog_head l.dialog).ends ++ focus_goals (take l.view-index l.dialog.views)
