-- What is told of all is told of what is left.
use Rattle.std.proofs.Common.{◌≡◌, drop, flat_map}
use Rattle.tv_boxes.specs.declared.unfit.Part.TheVariants as parts
use Rattle.tv_boxes.specs.Unfit.{first, unfit_marked}
use Rattle.tv_boxes.proofs.unfit.unfit_labels.Given as goal

abbrev pub invariant-loop-item : goal.invariant-loop-item
invariant-loop-item l =
    first (flat_map (unfit_marked parts.Item) (drop l.item-index l.items)) ≡ first (flat_map (unfit_marked parts.Item) l.items)
