use Rattle.std.proofs.Common.{length}
use Rattle.tv_menu.proofs.boxes.+longest.Given as goal

abbrev pub decreases-longest : goal.decreases-longest
decreases-longest l = length l.items.now
