use Rattle.tv_cells.proofs.RectangleLemmas.{in_shifted_is, rect_is}
use Rattle.tv_cells.proofs.rect.Rect.shift.Goals as goal

pub returns-clause-points : goal.returns-clause-points
returns-clause-points c = in_shifted_is _ c.args.self.now c.args.by (rect_is _ _ _ _ c.shift.ensures c.shift-2.ensures)
