use Rattle.std.proofs.Common.{◌≡◌, ◌∷◌, drop}
use Rattle.tv_declarations.specs.Spelling.Nodes.{is_rising}
use Rattle.tv_declarations.proofs.items.is_rising_from.Given as goal

abbrev pub invariant-loop-number : goal.invariant-loop-number
invariant-loop-number l = is_rising (l.last ∷ drop l.number-index l.rest) ≡ is_rising (l.first ∷ l.rest)
