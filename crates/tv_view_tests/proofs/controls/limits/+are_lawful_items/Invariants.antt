use Rattle.std.proofs.Common.{length}
use Rattle.tv_view_tests.proofs.controls.limits.+are_lawful_items.Given as goal

abbrev pub decreases-are_lawful_items : goal.decreases-are_lawful_items
decreases-are_lawful_items l = length l.items.now
