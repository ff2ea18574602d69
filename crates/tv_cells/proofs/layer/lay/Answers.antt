use Rattle.tv_cells.proofs.LayerLemmas.{shows_painted}
use Rattle.tv_cells.proofs.layer.lay.Goals as goal

pub returns-clause-shows : goal.returns-clause-shows
returns-clause-shows g c = λ layers shows. shows_painted c.args.canvas c.args.width c.args.height (g.F.Face.face c.args.face.now) layers c.args.screen.now c.paint.new.screen shows c.paint.ensures
