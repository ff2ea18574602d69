use Rattle.std.proofs.Common.{◌≡◌}
use Rattle.tv_io.specs.Pen.{Puts}
use Rattle.tv_script.proofs.MarkLemmas.{joined, separator, words_below}
use Rattle.tv_script.proofs.lines.put_marks.Given as goal

abbrev pub invariant-loop-item : goal.invariant-loop-item
invariant-loop-item g l =
    Puts g.W.Writer.seen l.fn.pen l.pen (joined (words_below l.marks l.item))
    × (l.separator ≡ separator (words_below l.marks l.item))
