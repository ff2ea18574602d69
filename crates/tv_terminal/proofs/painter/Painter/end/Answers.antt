use Rattle.tv_terminal.proofs.PaintLemmas.{told-end}
use Rattle.tv_terminal.proofs.painter.Painter.end.Goals as goal

pub returns-clause-told : goal.returns-clause-told
returns-clause-told g c = told-end
