use Rattle.std.proofs.Common.{◌≡◌, ℕ, List, length}
use Rattle.tv_picture.specs.Pattern.{Pattern, optional}
use Rattle.tv_picture.specs.Table.{HasEachRow}
use Rattle.tv_picture.proofs.Rows.{IsRows, IsKept}
use Rattle.tv_picture.proofs.table.Table.set_optional.Given as goal

abbrev pub invariant-loop-place : goal.invariant-loop-place
invariant-loop-place l = (length l.self.rows ≡ 121) × IsKept l.fn.self l.self l.place × ((a : Pattern) (text : List ℕ) → length text ≡ l.len → HasEachRow a text l.fn.self → IsRows (optional a) text l.self 0 l.place)
