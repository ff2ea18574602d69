use Rattle.std.proofs.Common.{All, take}
use Rattle.tv_cells.specs.Glyph.{shown_char}
use Rattle.tv_io.specs.Pen.{Puts}
use Rattle.tv_terminal.specs.Notes.{IsShowable, shown_bytes}
use Rattle.tv_terminal.proofs.note.put_shown.Given as goal

abbrev pub invariant-loop-ch : goal.invariant-loop-ch
invariant-loop-ch g l =
    Puts g.W.Writer.seen l.fn.pen l.pen (shown_bytes (take l.ch-index l.text)) × All (λ ch. IsShowable (shown_char ch)) (take l.ch-index l.text)
