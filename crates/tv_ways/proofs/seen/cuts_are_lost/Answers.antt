use Rattle.tv_ways.proofs.CutLemmas.{kind_tells}
use Rattle.tv_ways.proofs.seen.cuts_are_lost.Goals as goal

pub returns : goal.returns
returns c = kind_tells c.args._kind.now
