use Rattle.tv_cells.specs.Picture.{cell_at}
use Rattle.tv_terminal.specs.Strips.{cells_from}
use Rattle.tv_terminal.proofs.StripLemmas.{strips-together}
use Rattle.tv_terminal.proofs.svg.strips_are_rows.Goals as goal

pub returns : goal.returns
returns c = λ row. strips-together (cells_from (cell_at c.args._screen.now) row 0 c.args._screen.now.width)
