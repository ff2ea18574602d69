use Rattle.std.proofs.Common.{◌≡◌, map, take}
use Rattle.tv_answers.specs.ReadLogs.{no_answer}
use Rattle.tv_answers.proofs.answers.Answers.new.Given as goal

abbrev pub invariant-loop : goal.invariant-loop
invariant-loop l = l.dialogs ≡ map (λ dialog. no_answer) (take l.index l.items)
