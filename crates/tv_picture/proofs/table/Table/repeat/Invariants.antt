use Rattle.std.proofs.Common.{◌≡◌, ◌+◌, ◌-◌, ℕ, List, length}
use Rattle.tv_picture.specs.Pattern.{Pattern, many}
use Rattle.tv_picture.specs.Table.{HasEachRow}
use Rattle.tv_picture.proofs.Rows.{IsRows, IsKeptTo}
use Rattle.tv_picture.proofs.table.Table.repeat.Given as goal

abbrev pub invariant-loop-done : goal.invariant-loop-done
invariant-loop-done l = (length l.self.rows ≡ 121) × IsKeptTo l.fn.self l.self (l.len + 1 - l.done) × ((a : Pattern) (text : List ℕ) (start : ℕ) → length text ≡ l.len → start + l.done ≡ l.len + 1 → HasEachRow a text l.fn.self → IsRows (many a) text l.self start (l.len + 1))
