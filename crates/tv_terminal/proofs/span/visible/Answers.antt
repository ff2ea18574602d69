use Rattle.std.proofs.Common.{arith}
use Rattle.std.proofs.lemmas.Int.{ints, clamps}
use Rattle.tv_terminal.proofs.span.visible.Goals as goal

pub returns-then-first-last-clause-places : goal.returns-then-first-last-clause-places
returns-then-first-last-clause-places c = λ p near. (
  λ h. (omega (arith, ints, clamps), omega (arith, ints, clamps)),
  λ h. (omega (arith, ints, clamps), omega (arith, ints, clamps)),
)
