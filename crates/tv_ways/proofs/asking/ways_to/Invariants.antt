use Rattle.std.proofs.Common.{take}
use Rattle.std.specs.List.{AllZip}
use Rattle.tv_ways.specs.Asking.{IsWay}
use Rattle.tv_ways.proofs.asking.ways_to.Given as goal

abbrev pub invariant-loop-goal : goal.invariant-loop-goal
invariant-loop-goal l = AllZip (IsWay l.desc l.place) (take l.goal-index l.goals) l.ways.items
