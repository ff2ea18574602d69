use Rattle.std.proofs.Common.{◌+◌, ◌-◌}
use borrow.Author.Differences.{up, down}
use Rattle.tv_overlaps.proofs.columns.+mark_columns.Given as goal

abbrev pub decreases-mark_columns : goal.decreases-mark_columns
decreases-mark_columns l = (up l.columns.high + down l.columns.low) - (up l.columns.low + down l.columns.high)
