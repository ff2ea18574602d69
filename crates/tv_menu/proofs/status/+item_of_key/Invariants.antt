use Rattle.std.proofs.Common.{length}
use Rattle.tv_menu.proofs.status.+item_of_key.Given as goal

abbrev pub decreases-item_of_key : goal.decreases-item_of_key
decreases-item_of_key l = length l.items.now
