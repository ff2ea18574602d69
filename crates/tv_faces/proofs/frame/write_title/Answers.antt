use Rattle.std.proofs.Common.{◌/◌, arith}
use Rattle.std.proofs.lemmas.Bool.Decides.{nat_tests}
use Rattle.tv_faces.proofs.TopRowLemmas.{some_title, title_written}
use Rattle.tv_faces.proofs.frame.write_title.Goals as goal

pub returns-clause-cells : goal.returns-clause-cells
returns-clause-cells c = λ below was.
    let first = rw c.shown.ensures at c.put.ensures.put in
    let last = rw c.shown-2.ensures at c.put-2.ensures.put in
    let row = title_written c.args.title.now (c.saturating_sub-start.result / 2) c.args.from c.args.attr below c.args.cells.now c.put.new.cells c.write_over.new.cells c.put-2.new.cells
    c.put.ensures.count c.write_over.ensures.count c.put-2.ensures.count first c.put.ensures.kept
    c.write_over.ensures.written c.write_over.ensures.before c.write_over.ensures.after last c.put-2.ensures.kept was in
    some_title c.args.width c.args.title.now c.args.attr c.args.from below c.put-2.new.cells (λ none. grind (arith, nat_tests, none, c.if-is_empty.false, c.is_empty.ensures)) (rw c.saturating_sub-start.ensures at row)
