use Rattle.tv_example_viewer.proofs.viewer.lay.Goals as goal
use Rattle.tv_live.proofs.ProgramLemmas.{goes-laid}

pub returns-else-eq : goal.returns-else-eq
returns-else-eq c = record { goes = goes-laid _ _ c.lay.result c.lay.ensures.laid c.lay.ensures.stays }
