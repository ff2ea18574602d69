use Rattle.std.proofs.Common.{◌≡◌, length}
use Rattle.tv_picture.specs.Pattern.{one}
use Rattle.tv_picture.proofs.Rows.{IsRows}
use Rattle.tv_picture.proofs.table.Table.set_one.Given as goal

abbrev pub invariant-loop-place : goal.invariant-loop-place
invariant-loop-place l = (length l.self.rows ≡ 121) × IsRows (one l.fn.mark) l.text l.self 0 l.place
