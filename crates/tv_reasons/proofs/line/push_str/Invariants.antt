use Rattle.std.proofs.Common.{◌≡◌, ◌++◌, map, take}
use Rattle.tv_reasons.specs.Reasons.{printed}
use Rattle.tv_reasons.proofs.line.push_str.Given as goal

abbrev pub invariant-loop-ch : goal.invariant-loop-ch
invariant-loop-ch l = l.line.items ≡ take 132 (l.fn.line.items ++ map printed l.yielded)
