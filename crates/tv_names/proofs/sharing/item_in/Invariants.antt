use Rattle.std.proofs.Common.{◌≡◌, drop, take}
use Rattle.std.specs.Prelude.{slice_index_or}
use Rattle.tv_model.specs.declared.node.Node.{Node}
use Rattle.tv_names.specs.Sharing.{item_showing}
use Rattle.tv_names.proofs.sharing.item_in.Given as goal

abbrev pub invariant-loop-rule : goal.invariant-loop-rule
invariant-loop-rule l = (view : Node) → item_showing (drop l.rule-index l.rules) l.cluster (take l.place l.views) (slice_index_or l.views l.place view) ≡ item_showing l.rules l.cluster (take l.place l.views) (slice_index_or l.views l.place view)
