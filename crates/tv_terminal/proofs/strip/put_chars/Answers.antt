use Rattle.std.proofs.Common.{◌≡◌, ap, ◌∙◌, arith}
use Rattle.tv_cells.specs.Glyph.{Glyph}
use Rattle.tv_cells.specs.Picture.{cell_at}
use Rattle.tv_io.proofs.PenLemmas.{Puts-along, Puts-none, Puts-then}
use Rattle.tv_terminal.specs.Svg.{char_text}
use Rattle.tv_terminal.proofs.TextLemmas.{text-more, text-none}
use Rattle.tv_terminal.proofs.strip.put_chars.Goals as goal

pub loop-column-init : goal.loop-column-init
loop-column-init g c = Puts-along (text-none (cell_at c.args.screen.now) c.args.row c.args.start) Puts-none

pub loop-column-preserved : goal.loop-column-preserved
loop-column-preserved g c =
    let here = ap char_text (c.ch.ensures.value ∙ ap (λ (cell : Glyph). cell.ch) c.get.ensures) in
    Puts-along (text-more (cell_at c.args.screen.now) c.args.row c.args.start c.loop-column.column (omega arith))
    (Puts-then c.loop-column.invariant (Puts-along here c.put_char.ensures))

pub returns : goal.returns
returns g c =
    let end : c.loop-column.column ≡ c.args.end = omega arith in
    rw end at c.loop-column.invariant
