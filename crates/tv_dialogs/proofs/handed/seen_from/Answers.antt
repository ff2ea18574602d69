use Rattle.std.proofs.Common.{arith}
use Rattle.std.proofs.lemmas.Int.{ints}
use Rattle.tv_cells.proofs.RectangleLemmas.{point_is}
use Rattle.tv_dialogs.proofs.handed.seen_from.Goals as goal

pub returns : goal.returns
returns c = point_is _ _ _ _ (omega (arith, ints)) (omega (arith, ints))
