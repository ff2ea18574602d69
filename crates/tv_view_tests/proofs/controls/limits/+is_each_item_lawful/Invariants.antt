use Rattle.std.proofs.Common.{length}
use Rattle.tv_view_tests.proofs.controls.limits.+is_each_item_lawful.Given as goal

abbrev pub decreases-is_each_item_lawful : goal.decreases-is_each_item_lawful
decreases-is_each_item_lawful l = length l.items.now
