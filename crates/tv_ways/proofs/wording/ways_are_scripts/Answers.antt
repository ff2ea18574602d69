use Rattle.tv_ways.proofs.ScriptLemmas.{ways}
use Rattle.tv_ways.proofs.wording.ways_are_scripts.Goals as goal

pub returns : goal.returns
returns c = ways
