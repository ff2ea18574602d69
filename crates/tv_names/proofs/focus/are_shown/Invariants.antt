use Rattle.std.proofs.Common.{◌≡◌, length}
use Rattle.tv_names.specs.Focus.{AreFirstShown}
use Rattle.tv_names.proofs.focus.are_shown.Given as goal

abbrev pub invariant-loop-place : goal.invariant-loop-place
invariant-loop-place l = (length l.shown.items ≡ l.place) × AreFirstShown l.reaches l.views l.shown.items
