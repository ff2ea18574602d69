use Rattle.std.proofs.Common.{◌-◌, ◌<◌, length}
use Rattle.tv_picture.specs.Table.{HasPlace}
use Rattle.tv_picture.proofs.Spread.{IsSpread}
use Rattle.tv_picture.proofs.places.Places.spread.Given as goal

-- the places below this one have led on, and it is in the set
abbrev pub invariant-loop-place : goal.invariant-loop-place
invariant-loop-place l = IsSpread l.fn.self l.fn.mark l.text l.place l.places × (l.place < 128 → HasPlace l.places l.place)

abbrev pub decreases-loop-place : goal.decreases-loop-place
decreases-loop-place l = length l.text - l.place
