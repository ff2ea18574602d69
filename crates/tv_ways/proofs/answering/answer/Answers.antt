use Rattle.tv_ways.proofs.SpelledLemmas.{spelled_rise, spelled_sound}
use Rattle.tv_ways.proofs.answering.answer.Goals as goal

pub never_at-requires-clause-sound : goal.never_at-requires-clause-sound
never_at-requires-clause-sound c = spelled_sound c.args.text.now c.args.desc.now c.requires

pub never_at-requires-clause-rise : goal.never_at-requires-clause-rise
never_at-requires-clause-rise c = spelled_rise c.args.text.now c.args.desc.now c.requires
