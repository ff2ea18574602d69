-- What is told of all is told of what is left.
use Rattle.std.proofs.Common.{◌≡◌, drop, flat_map}
use Rattle.tv_boxes.specs.Unfit.{first, unfit_kind}
use Rattle.tv_boxes.proofs.unfit.unfit_kinds.Given as goal

abbrev pub invariant-loop-view : goal.invariant-loop-view
invariant-loop-view l =
    first (flat_map (λ view. unfit_kind view.kind) (drop l.view-index l.views)) ≡ first (flat_map (λ view. unfit_kind view.kind) l.views)
