use Rattle.std.proofs.Common.{arith}
use Rattle.std.proofs.lemmas.Int.{ints}
use Rattle.tv_cells.proofs.RectangleLemmas.{point_is, rect_is, in_cut_is}
use Rattle.tv_cells.proofs.rect.Rect.intersect.Goals as goal

pub returns-clause-corners : goal.returns-clause-corners
returns-clause-corners c = rect_is _ _ _ _ (point_is _ _ _ _ (omega (arith, ints)) (omega (arith, ints))) (point_is _ _ _ _ (omega (arith, ints)) (omega (arith, ints)))

pub returns-clause-points : goal.returns-clause-points
returns-clause-points c = in_cut_is _ c.args.self.now c.args.other (returns-clause-corners c)
