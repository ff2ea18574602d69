use Rattle.tv_ways.proofs.IdleLemmas.{are_idle}
use Rattle.tv_ways.proofs.idle.idle_commands_do_nothing.Goals as goal

pub returns : goal.returns
returns c = are_idle c.args._desc.now c.requires
