use Rattle.std.proofs.Common.{arith}
use Rattle.std.proofs.lemmas.Int.{ints, clamps}
use Rattle.tv_cells.proofs.line.visible.Goals as goal

pub returns-then-first-last-clause-places : goal.returns-then-first-last-clause-places
returns-then-first-last-clause-places c = λ p near. (
  λ h. (omega (arith, ints, clamps), omega (arith, ints, clamps), omega (arith, ints, clamps), omega (arith, ints, clamps)),
  λ h. (omega (arith, ints, clamps), omega (arith, ints, clamps)),
)

pub returns-else-first-last-clause-places : goal.returns-else-first-last-clause-places
returns-else-first-last-clause-places c = λ p near. (λ h. absurd (omega arith), λ h. absurd (omega (arith, ints, clamps)))
