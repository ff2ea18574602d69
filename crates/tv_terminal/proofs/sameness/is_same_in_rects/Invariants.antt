use Rattle.std.proofs.Common.{◌≡◌, take, true}
use Rattle.tv_cells.specs.Repainting.{has_cell}
use Rattle.tv_terminal.specs.Sameness.{IsSameWithin}
use Rattle.tv_terminal.proofs.sameness.is_same_in_rects.Given as goal

abbrev pub invariant-loop-rect : goal.invariant-loop-rect
invariant-loop-rect l = IsSameWithin (λ column row. has_cell (take l.rect-index l.rects) column row ≡ true) l.one l.other
