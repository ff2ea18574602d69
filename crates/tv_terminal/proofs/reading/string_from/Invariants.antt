use Rattle.std.proofs.Common.{◌≡◌, length}
use Rattle.tv_terminal.specs.Sequences.{string_from}
use Rattle.tv_terminal.proofs.reading.string_from.Given as goal

abbrev pub invariant-loop-rest : goal.invariant-loop-rest
invariant-loop-rest l = string_from l.rest ≡ string_from l.bytes

abbrev pub decreases-loop-rest : goal.decreases-loop-rest
decreases-loop-rest l = length l.rest
