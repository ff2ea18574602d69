use Rattle.std.proofs.Common.{true, false}
use Rattle.std.proofs.lemmas.List.{get_or-replicate}
use Rattle.tv_event.proofs.commands.CommandSet.all.Goals as goal

pub returns : goal.returns
returns c = λ number less. get_or-replicate 256 number true false less
