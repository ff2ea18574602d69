-- Printable ASCII characters take one column.
use Rattle.std.proofs.Common.{ℕ, ◌<◌, ◌≤◌, arith}
use Rattle.std.proofs.lemmas.Bool.Decides.{nat_tests}
use Rattle.unicode_width.specs.Width.{char_width}
use Rattle.tv_cells.specs.Glyph.{IsNarrow}

pub ascii_narrow : (c : ℕ) → 32 ≤ c → c < 127 → IsNarrow c
unfolding char_width
ascii_narrow c low high = grind (arith, nat_tests)
