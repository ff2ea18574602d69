use Rattle.std.proofs.Common.{◌≡◌, ◌+◌, ◌-◌, ℕ, List, length}
use Rattle.tv_picture.specs.Pattern.{Pattern, sequence}
use Rattle.tv_picture.specs.Table.{HasEachRow, IsGathered}
use Rattle.tv_picture.proofs.Rows.{IsRows, IsKeptTo}
use Rattle.tv_picture.proofs.table.Table.then.Given as goal

abbrev pub invariant-loop-done : goal.invariant-loop-done
invariant-loop-done l = (length l.self.rows ≡ 121) × IsKeptTo l.fn.self l.self (l.len + 1 - l.done) × ((b : Pattern) (text : List ℕ) → length text ≡ l.len → HasEachRow b text l.other → IsGathered b text l.ends l.other l.gathered) × ((a b : Pattern) (text : List ℕ) (start : ℕ) → length text ≡ l.len → start + l.done ≡ l.len + 1 → HasEachRow a text l.fn.self → HasEachRow b text l.other → IsRows (sequence a b) text l.self start (l.len + 1))
