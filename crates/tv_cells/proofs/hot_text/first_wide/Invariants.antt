use Rattle.std.proofs.Common.{◌≡◌, length, take, All}
use Rattle.std.specs.Str.{chars}
use Rattle.tv_cells.specs.Glyph.{IsNarrow}
use Rattle.tv_cells.proofs.hot_text.first_wide.Given as goal

abbrev pub invariant-loop-ch : goal.invariant-loop-ch
invariant-loop-ch l = (l.place ≡ length l.yielded) × All IsNarrow (take l.place (chars l.text))
