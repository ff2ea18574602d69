use Rattle.std.proofs.Common.{◌≡◌, length}
use Rattle.tv_terminal.specs.declared.numbers.Numbers.TheVariants.{One}
use Rattle.tv_terminal.specs.Sequences.{numbers_from}
use Rattle.tv_terminal.proofs.reading.numbers_from.Given as goal

abbrev pub invariant-loop-rest : goal.invariant-loop-rest
invariant-loop-rest l = numbers_from l.kind l.numbers l.rest ≡ numbers_from l.kind (One 0) l.bytes

abbrev pub decreases-loop-rest : goal.decreases-loop-rest
decreases-loop-rest l = length l.rest
