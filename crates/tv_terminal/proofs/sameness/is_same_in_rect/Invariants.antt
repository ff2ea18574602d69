use Rattle.tv_terminal.specs.Sameness.{IsSameWithin}
use Rattle.tv_terminal.proofs.RegionLemmas.{IsInSpan}
use Rattle.tv_terminal.proofs.sameness.is_same_in_rect.Given as goal

abbrev pub invariant-loop-row : goal.invariant-loop-row
invariant-loop-row l = IsSameWithin (IsInSpan l.left l.right l.initial.row l.row) l.one l.other
