use Rattle.std.proofs.Common.{◌≡◌, ◌++◌, map, take}
use Rattle.tv_reasons.specs.Reasons.{printed}
use Rattle.tv_reasons.proofs.line.push_all.Given as goal

abbrev pub invariant-loop-ch : goal.invariant-loop-ch
invariant-loop-ch l = l.chars.items ≡ take 132 (l.fn.chars.items ++ map printed (take l.ch-index l.more))
