use Rattle.std.proofs.Common.{length}
use Rattle.tv_window.proofs.stack.+draw_stack.Given as goal

abbrev pub decreases-draw_stack : goal.decreases-draw_stack
decreases-draw_stack g l = length l.windows.now
