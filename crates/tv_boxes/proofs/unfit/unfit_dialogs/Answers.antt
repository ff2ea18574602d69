use Rattle.std.proofs.Common.{◌≡◌, false, true, is_some, rules}
use Rattle.tv_model.specs.declared.desc.Dialog.{Dialog}
use Rattle.tv_boxes.specs.Unfit.{first, unfit_views}
use Rattle.tv_boxes.proofs.UnfitLemmas.{next_item, this_item}
use Rattle.tv_boxes.proofs.unfit.unfit_dialogs.Goals as goal

pub loop-dialog-preserved : goal.loop-dialog-preserved
loop-dialog-preserved c =
    let nothing : is_some (first (unfit_views c.dialog-item.result.views)) ≡ false = search rules in
    next_item (λ (dialog : Dialog). unfit_views dialog.views) c.args.dialogs.now c.loop-dialog.dialog-index c.dialog-item.result
    c.loop-dialog-test.true c.dialog-item.is nothing c.loop-dialog.invariant

pub returns-then-is_some : goal.returns-then-is_some
returns-then-is_some c =
    let something : is_some (first (unfit_views c.dialog-item.result.views)) ≡ true = search rules in
    rw c.unfit_dialog-found.ensures
    (this_item (λ (dialog : Dialog). unfit_views dialog.views) c.args.dialogs.now c.loop-dialog.dialog-index c.dialog-item.result
    c.loop-dialog-test.true c.dialog-item.is something c.loop-dialog.invariant)
