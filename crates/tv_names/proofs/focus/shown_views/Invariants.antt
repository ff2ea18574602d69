use Rattle.std.proofs.Common.{◌≡◌, take}
use Rattle.std.specs.HashSet.{contains}
use Rattle.std.specs.List.{list_any}
use Rattle.tv_model.specs.declared.node.Id.{Id}
use Rattle.tv_names.specs.Focus.{is_same_id, reach_shows}
use Rattle.tv_names.proofs.focus.shown_views.Given as goal

abbrev pub invariant-loop-reach : goal.invariant-loop-reach
invariant-loop-reach l = (i : Id) → contains is_same_id l.shown i ≡ list_any (reach_shows i) (take l.reach-index l.reaches)
