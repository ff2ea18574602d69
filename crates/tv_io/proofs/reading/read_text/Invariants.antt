use Rattle.std.proofs.Common.{◌≡◌, ◌+◌, ◌-◌, ◌<◌, ◌≤◌, false, length}
use Rattle.tv_io.specs.Reader.{HasGiven}
use Rattle.tv_io.proofs.reading.read_text.Given as goal

abbrev pub invariant-loop-buffer : goal.invariant-loop-buffer
invariant-loop-buffer g l =
    HasGiven (g.R.Reader.seen l.fn.reader) (g.R.Reader.seen l.reader) l.text.items × (length l.text.items ≤ l.most + 1)
    × (0 < length l.text.items → (g.R.Reader.seen l.reader).is_ended ≡ false)

abbrev pub decreases-loop-buffer : goal.decreases-loop-buffer
decreases-loop-buffer g l = l.most + 1 - length l.text.items
