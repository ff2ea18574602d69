use Rattle.std.proofs.Common.{◌≡◌, ◌+◌, ◌<◌, ℕ, List, ◌++◌, length, take, get_or}
use Rattle.std.specs.Prelude.{All, pos, ◌<ℤ◌}
use Rattle.tv_cells.specs.Glyph.{IsNarrow}
use Rattle.tv_picture.specs.Pattern.{Begins, IsNextLiteral}
use Rattle.tv_picture.specs.Spelling.{spelled}
use Rattle.tv_valid.specs.Domain.{FitsIn}
use Rattle.tv_valid.proofs.domain.filled.Given as goal

abbrev pub invariant-loop : goal.invariant-loop
invariant-loop l =
    (more : List ℕ) ×
    (l.text ≡ l.fn.text ++ more) ×
    (length more ≡ l.counter) ×
    ((k : ℕ) (c : ℕ) → k < length more → IsNextLiteral l.picture (l.fn.text ++ take k more) (get_or more k c) × (pos (length l.fn.text + k) <ℤ l.max)) ×
    (All IsNarrow (spelled l.picture) → FitsIn l.max l.fn.text → Begins l.picture l.fn.text → FitsIn l.max l.text × Begins l.picture l.text)
