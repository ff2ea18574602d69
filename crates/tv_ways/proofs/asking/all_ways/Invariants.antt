use Rattle.std.proofs.Common.{take}
use Rattle.std.specs.List.{AllZip}
use Rattle.tv_ways.specs.Asking.{AreWaysOf}
use Rattle.tv_ways.proofs.asking.all_ways.Given as goal

abbrev pub invariant-loop-place : goal.invariant-loop-place
invariant-loop-place l = AllZip (AreWaysOf l.desc) (take l.place l.dialog-items) l.all.items
