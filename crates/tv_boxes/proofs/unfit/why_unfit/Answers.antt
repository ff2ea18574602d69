use Rattle.std.proofs.Common.{sym}
use Rattle.tv_boxes.proofs.UnfitLemmas.{first_or_three}
use Rattle.tv_boxes.proofs.unfit.why_unfit.Goals as goal

pub returns : goal.returns
returns c =
    rw (c.or-2.ensures, c.or.ensures, c.unfit_text.ensures, c.unfit_dialogs.ensures, c.unfit_outside.ensures, c.as_slice.ensures, c.as_slice-2.ensures)
    (sym (first_or_three _ _ _))
