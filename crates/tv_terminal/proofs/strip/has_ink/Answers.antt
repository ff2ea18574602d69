use Rattle.std.proofs.Common.{ap, arith, ◌∙◌}
use Rattle.tv_cells.specs.Glyph.{Glyph}
use Rattle.tv_cells.specs.Picture.{cell_at}
use Rattle.tv_terminal.proofs.TextLemmas.{has_ink_none, has_ink_some}
use Rattle.tv_terminal.proofs.strip.has_ink.Goals as goal

pub returns-then-ch-ne32 : goal.returns-then-ch-ne32
returns-then-ch-ne32 c =
    let is = c.ch.ensures.value ∙ ap (λ (cell : Glyph). cell.ch) c.get.ensures in
    has_ink_some (cell_at c.args.screen.now) c.args.row c.args.start c.args.end c.loop-column.column (omega arith) (omega arith)
    (λ e. c.if-ch-ne32.true (is ∙ e))

pub returns : goal.returns
returns c =
    let end = c.loop-column.column in
    has_ink_none (cell_at c.args.screen.now) c.args.row c.args.start c.args.end (omega arith) (λ k from to. c.loop-column.invariant k from (omega arith))
