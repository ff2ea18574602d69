use Rattle.tv_cells.proofs.RectangleLemmas.{empty_is}
use Rattle.tv_cells.proofs.rect.Rect.is_empty.Goals as goal

pub returns-else-width-eq0 : goal.returns-else-width-eq0
returns-else-width-eq0 c = empty_is c.args.self.now c.width.result c.height.result c.if-width-eq0.false c.width.ensures c.height.ensures
