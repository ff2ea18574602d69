use Rattle.tv_cells.proofs.LayerLemmas.{shows_shaded}
use Rattle.tv_cells.proofs.layer.lay_shadow.Goals as goal

pub returns-clause-shows : goal.returns-clause-shows
returns-clause-shows c = λ layers shows. shows_shaded c.args.canvas c.args.rect layers c.args.screen.now c.cast_shadow.new.screen shows c.cast_shadow.ensures
