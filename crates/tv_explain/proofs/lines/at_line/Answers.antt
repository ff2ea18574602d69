use Rattle.std.proofs.Common.{sym, ◌==◌}
use Rattle.tv_explain.proofs.LineLemmas.{found_nowhere, found_of}
use Rattle.tv_explain.proofs.lines.at_line.Goals as goal

pub returns-in-Some : goal.returns-in-Some
returns-in-Some g c =
    found_of (λ item. g.L.Line.number item == c.args.line) c.args.items.now c.items.inside.items.now c.items.view_is c.in-Some.at c.index-list-at.result (sym c.in-Some.ensures) c.index-list-at.is

pub returns-in-None : goal.returns-in-None
returns-in-None g c = found_nowhere (λ item. g.L.Line.number item == c.args.line) c.args.items.now (sym c.in-None.ensures)
