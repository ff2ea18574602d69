use Rattle.tv_dialogs.proofs.CornerLemmas.{lawful-corner}
use Rattle.tv_dialogs.proofs.ValueLemmas.{lawful-limited}
use Rattle.tv_program_tests.proofs.refusals.frames.refusal.Goals as goal

pub new-requires-clause-limited : goal.new-requires-clause-limited
new-requires-clause-limited c = lawful-limited c.args.declared.now c.requires

pub new-requires-clause-corner : goal.new-requires-clause-corner
new-requires-clause-corner c = lawful-corner c.args.declared.now c.requires
