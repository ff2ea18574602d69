-- Columns and rows.
use Rattle.std.specs.Prelude.{ℕ, List, length, fold, max, min}

-- the number, or 255 where it is more: past every limit of a description
abbrev pub size : ℕ → ℕ
size count = min count 255

-- the columns of the longest text
abbrev pub longest : List (List ℕ) → ℕ
longest texts = fold (λ columns text. max columns (size (length text))) 0 texts
