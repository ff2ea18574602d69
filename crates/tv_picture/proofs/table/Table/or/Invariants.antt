use Rattle.std.proofs.Common.{◌≡◌, ℕ, List, length}
use Rattle.tv_picture.specs.Pattern.{Pattern, either}
use Rattle.tv_picture.specs.Table.{HasEachRow}
use Rattle.tv_picture.proofs.Rows.{IsRows, IsKept}
use Rattle.tv_picture.proofs.table.Table.or.Given as goal

abbrev pub invariant-loop-place : goal.invariant-loop-place
invariant-loop-place l = (length l.self.rows ≡ 121) × IsKept l.fn.self l.self l.place × ((a b : Pattern) (text : List ℕ) → length text ≡ l.len → HasEachRow a text l.fn.self → HasEachRow b text l.other → IsRows (either a b) text l.self 0 l.place)
