use Rattle.std.proofs.Common.{◌+◌, ◌-◌}
use borrow.Author.Differences.{up, down}
use Rattle.tv_overlaps.proofs.rows.+mark_rows.Given as goal

abbrev pub decreases-mark_rows : goal.decreases-mark_rows
decreases-mark_rows l = (up l.rows.high + down l.rows.low) - (up l.rows.low + down l.rows.high)
