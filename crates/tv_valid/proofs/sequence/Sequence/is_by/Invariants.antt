use Rattle.std.proofs.Common.{◌≡◌, take}
use Rattle.tv_valid.proofs.sequence.Sequence.is_by.Given as goal

abbrev pub invariant-loop-at : goal.invariant-loop-at
invariant-loop-at g l = take l.at l.self ≡ take l.at l.other
