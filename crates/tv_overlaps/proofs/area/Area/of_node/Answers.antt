use Rattle.std.proofs.Common.{arith}
use Rattle.std.proofs.lemmas.Int.{ints}
use Rattle.tv_overlaps.proofs.AreaLemmas.{rect_is}
use Rattle.tv_overlaps.proofs.area.Area.of_node.Goals as goal

pub returns : goal.returns
returns c = rect_is _ _ _ _ _ _ _ _ (omega (arith, ints)) (omega (arith, ints)) (omega (arith, ints)) (omega (arith, ints))
