use Rattle.std.proofs.Common.{sym, ◌∙◌}
use Rattle.tv_terminal.proofs.DrawLemmas.{draws-cell, draws-same, draws-unseen, same-glyph}
use Rattle.tv_terminal.proofs.painter.Painter.paint_cell.Goals as goal

pub returns-then-is_seen : goal.returns-then-is_seen
returns-then-is_seen g c =
    draws-cell c.args.screen.now c.args.self.now c.take.new.self c.args.place.0 c.args.place.1 c.get-cell.result c.requires.place c.get-cell.ensures c.take.ensures.shown c.take.ensures.known c.take.ensures.colours c.take.ensures.window
    c.requires.small c.put.ensures.cell c.put.ensures.puts c.put.ensures.place c.put.ensures.attr c.put.ensures.colours

pub returns-else-is_seen : goal.returns-else-is_seen
returns-else-is_seen g c =
    draws-unseen c.args.hand.now c.args.place.0 c.args.place.1 c.get-cell.result c.requires.place c.get-cell.ensures c.take.ensures.shown c.take.ensures.known c.take.ensures.colours c.take.ensures.window
    (sym c.is_seen.ensures ∙ c.if-is_seen.false)

pub returns-else-ne : goal.returns-else-ne
returns-else-ne g c =
    draws-same c.args.hand.now c.args.place.0 c.args.place.1 c.requires.size c.if-not-self.false
    (sym c.get.ensures ∙ same-glyph c.get.result c.get-cell.result (sym c.ne.ensures ∙ c.if-ne.false) ∙ c.get-cell.ensures)
