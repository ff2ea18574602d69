use Rattle.std.proofs.Common.{take}
use Rattle.tv_names.specs.Named.{ArePlacesOf}
use Rattle.tv_names.proofs.names.places_of.Given as goal

abbrev pub invariant-loop-i : goal.invariant-loop-i
invariant-loop-i l = ArePlacesOf (take l.i l.views) l.places
