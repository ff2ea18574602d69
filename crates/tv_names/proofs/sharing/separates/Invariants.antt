use Rattle.std.proofs.Common.{◌≡◌, drop}
use Rattle.std.specs.HashSet as set
use Rattle.std.specs.Ordering.{int_eq}
use Rattle.tv_model.specs.declared.node.Node.{Node}
use Rattle.tv_model.specs.Description.Sharing.{are_apart}
use Rattle.tv_names.specs.Sharing.{are_apart_from, items_at, lent_group}
use Rattle.tv_names.proofs.sharing.separates.Given as goal

abbrev pub invariant-loop-place : goal.invariant-loop-place
invariant-loop-place l = (view : Node) → are_apart (items_at l.views (lent_group l.group) view l.places) ≡ are_apart_from (set.contains int_eq l.items) (items_at l.views (lent_group l.group) view (drop l.place-index l.places))
