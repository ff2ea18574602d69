use Rattle.tv_program.specs.Playing.{IsMismade, Makes}
use Rattle.tv_program.proofs.RunAnswerLemmas.{run_comes_again}
use Rattle.tv_program.proofs.run_answers.run_is_answered.Goals as goal

pub returns : goal.returns
returns g c = run_comes_again (IsMismade (Makes g.F.Fn c.args._make.now) g.V.View.meaning) c.args._desc.now c.requires.spelled c.requires.sound
