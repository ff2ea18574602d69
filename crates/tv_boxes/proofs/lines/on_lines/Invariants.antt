-- The views so far, each on a line.
use Rattle.std.proofs.Common.{◌≡◌}
use Rattle.tv_boxes.specs.Lines.{on_lines}
use Rattle.tv_boxes.proofs.lines.on_lines.Given as goal

abbrev pub invariant-loop-view : goal.invariant-loop-view
invariant-loop-view l = l.lined.items ≡ on_lines l.yielded
