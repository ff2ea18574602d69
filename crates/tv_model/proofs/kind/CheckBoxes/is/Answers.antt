use Rattle.std.proofs.Common.{rules}
use Rattle.std.proofs.lemmas.Bool.Decides.{Decides-int_eq}
use Rattle.std.proofs.lemmas.Slice.Eq.{slice_eq-Decides}
use Rattle.tv_model.proofs.kind.CheckBoxes.is.Goals as goal

pub returns-then-is_by : goal.returns-then-is_by
returns-then-is_by c =
    let start = slice_eq-Decides Decides-int_eq c.as_slice.result.now c.as_slice-then-is_by.result.now c.eq.result c.eq.ensures in
    search (rules, start.0, start.1)
