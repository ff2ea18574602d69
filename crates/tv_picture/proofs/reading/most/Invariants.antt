use Rattle.std.proofs.Common.{◌≡◌, ◌≤◌, ℕ, drop}
use Rattle.std.specs.Prelude.{Some}
use Rattle.tv_picture.specs.Code.{height_from}
use Rattle.tv_picture.specs.Machine.{IsWithin}
use Rattle.tv_picture.proofs.reading.most.Given as goal

-- the code stays within a height that the most so far is, where the code that is left does
abbrev pub invariant-loop-op : goal.invariant-loop-op
invariant-loop-op l = (height_from l.height (drop l.op-index l.code) ≡ Some 1) × (l.height ≤ l.most) × ((n : ℕ) → l.most ≤ n → IsWithin n l.height (drop l.op-index l.code) → IsWithin n 0 l.code)
