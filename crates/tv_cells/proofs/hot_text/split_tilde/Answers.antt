use Rattle.tv_cells.proofs.TildeLemmas.{split_none, split_some}
use Rattle.tv_cells.proofs.hot_text.split_tilde.Goals as goal

pub returns-clause-some : goal.returns-clause-some
returns-clause-some c = split_some c.args.text.now c.utf8.text c.split_once.result c.split_once.ensures.cases

pub returns-clause-none : goal.returns-clause-none
returns-clause-none c = split_none c.args.text.now c.utf8.text c.split_once.result c.split_once.ensures.cases
