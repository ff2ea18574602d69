use Rattle.std.proofs.Common.{◌≡◌, take}
use Rattle.tv_valid.proofs.sequence.Sequence.copy_by.Given as goal

abbrev pub invariant-loop-item : goal.invariant-loop-item
invariant-loop-item g l = l.items.items ≡ take l.item-index l.self
