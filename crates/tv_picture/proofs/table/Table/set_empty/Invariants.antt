use Rattle.std.proofs.Common.{◌≡◌, ℕ, List, length}
use Rattle.tv_picture.specs.Pattern.{empty}
use Rattle.tv_picture.proofs.Rows.{IsRows}
use Rattle.tv_picture.proofs.table.Table.set_empty.Given as goal

abbrev pub invariant-loop-place : goal.invariant-loop-place
invariant-loop-place l = (length l.self.rows ≡ 121) × ((text : List ℕ) → length text ≡ l.len → IsRows empty text l.self 0 l.place)
