use Rattle.std.proofs.Common.{ap, ◌∙◌}
use Rattle.tv_machine.specs.Screen.Bars.{columns_of, marked_cell, title_of}
use Rattle.tv_menu.specs.Cells.{spaced_cell, title_over}
use Rattle.tv_menu.proofs.RowLemmas.{spots_written}
use Rattle.tv_menu.proofs.bar_face.+write_titles.Goals as goal

pub returns-then-first-from : goal.returns-then-first-from
returns-then-first-from t c =
    spots_written title_of (title_over c.args.titles.opened) c.args.titles.place c.args.titles.first c.args.from c.columns_of-columns.result c.args.titles.menus.now c.in-Some.behind.now c.in-Some.menu.now
    (spaced_cell c.of_bar-title.result) c.args.cells.now c.write.new.cells c.write_titles.new.cells c.in-Some.ensures.cases.0
    (c.columns_of-columns.ensures ∙ ap columns_of c.of_bar-title.ensures.text)
    (λ column. c.of_bar-title.ensures.cells column ∙ ap (λ is_open. marked_cell is_open c.in-Some.menu.now.title column) c.is_place.ensures)
    c.write.ensures c.write_titles.ensures
