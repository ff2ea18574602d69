use Rattle.std.proofs.Common.{◌↔◌, ◌-◌, ◌<◌, ℕ, length}
use Rattle.tv_picture.specs.Table.{HasPlace}
use Rattle.tv_picture.proofs.Appended.{AfterBelow}
use Rattle.tv_picture.proofs.places.Places.after.Given as goal

-- the places so far are those after the set's places below this one, which is in the set
abbrev pub invariant-loop-place : goal.invariant-loop-place
invariant-loop-place l = ((k : ℕ) → HasPlace l.after k ↔ AfterBelow l.fn.self l.fn.mark l.text l.place k) × (l.place < 128 → HasPlace l.fn.self l.place)

abbrev pub decreases-loop-place : goal.decreases-loop-place
decreases-loop-place l = length l.text - l.place
