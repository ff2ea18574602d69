use Rattle.std.proofs.Common.{◌≡◌, ◌==◌, drop}
use Rattle.std.specs.Prelude.{slice_index_or}
use Rattle.std.specs.List.{list_all}
use Rattle.tv_model.specs.declared.node.Node.{Node}
use Rattle.tv_model.specs.Description.Sharing.{marked_times}
use Rattle.tv_names.proofs.sharing.mark_once.Given as goal

abbrev pub invariant-loop-place : goal.invariant-loop-place
invariant-loop-place l = (view : Node) → list_all (λ place. marked_times l.letter (slice_index_or l.views place view) == 1) (drop l.place-index l.places) ≡ list_all (λ place. marked_times l.letter (slice_index_or l.views place view) == 1) l.places
