use Rattle.tv_example_gauge.proofs.CopyingProgram.act.Goals as goal
use Rattle.tv_live.proofs.ProgramLemmas.{goes-laid}

-- the run in which the sheet was laid, or the one that there was
pub returns-then-self-lt30 : goal.returns-then-self-lt30
returns-then-self-lt30 c = record {
  goes = goes-laid _ _ c.lay.result c.lay.ensures.laid c.lay.ensures.stays;
}

pub returns-else-laid : goal.returns-else-laid
returns-else-laid c = record {
  goes = goes-laid _ _ c.lay.result c.lay.ensures.laid c.lay.ensures.stays;
}
