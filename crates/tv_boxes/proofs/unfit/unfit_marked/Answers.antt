use Rattle.tv_boxes.proofs.UnfitLemmas.{told_if}
use Rattle.tv_boxes.proofs.unfit.unfit_marked.Goals as goal

pub returns : goal.returns
returns c =
    rw (c.or.ensures, c.then_some.ensures, c.has_tilde.ensures, c.unfit_text.ensures, c.as_slice-text.ensures) (told_if _ _ _)
