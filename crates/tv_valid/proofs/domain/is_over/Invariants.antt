use Rattle.std.specs.Prelude.{All, Contains, take}
use Rattle.tv_valid.proofs.domain.is_over.Given as goal

abbrev pub invariant-loop-ch : goal.invariant-loop-ch
invariant-loop-ch l = All (Contains l.set) (take l.ch-index l.text)
