use Rattle.std.proofs.Common.{◌≡◌, ℕ, List, length}
use Rattle.tv_picture.specs.Pattern.{Pattern}
use Rattle.tv_picture.specs.Table.{IsTableRow, HasEachRow}
use Rattle.tv_picture.proofs.Repeated.{IsGrown}
use Rattle.tv_picture.proofs.table.Table.many_after.Given as goal

abbrev pub invariant-loop-place : goal.invariant-loop-place
invariant-loop-place l = (a b : Pattern) (text : List ℕ) → length text ≡ l.len → IsTableRow a text 0 l.fn.first → HasEachRow b text l.self → IsGrown a b text l.fn.first l.place l.row
