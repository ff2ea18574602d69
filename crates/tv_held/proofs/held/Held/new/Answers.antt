use Rattle.tv_held.proofs.HeldLemmas.{begins}
use Rattle.tv_held.proofs.held.Held.new.Goals as goal

pub returns : goal.returns
returns c = begins c.args.text.now c.open.result c.new.result c.new.ensures c.open.ensures.opened c.open.ensures.fault
