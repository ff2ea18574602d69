-- What is told of all is told of what is left.
use Rattle.std.proofs.Common.{◌≡◌, drop, flat_map}
use Rattle.tv_boxes.specs.Unfit.{first, unfit_views}
use Rattle.tv_boxes.proofs.unfit.unfit_dialogs.Given as goal

abbrev pub invariant-loop-dialog : goal.invariant-loop-dialog
invariant-loop-dialog l =
    first (flat_map (λ dialog. unfit_views dialog.views) (drop l.dialog-index l.dialogs)) ≡ first (flat_map (λ dialog. unfit_views dialog.views) l.dialogs)
