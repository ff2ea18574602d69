use Rattle.std.specs.Prelude.{codes}
use Rattle.tv_model.specs.Screen.Faces.{border, cut_title, text_row, titled, with_number}
use Rattle.tv_faces.proofs.TopRowLemmas.{over_written, with_mark, without_mark}
use Rattle.tv_faces.proofs.frame.Frame.write_top.Goals as goal

pub returns-then-look-clause-cells : goal.returns-then-look-clause-cells
returns-then-look-clause-cells c =
    let f = c.args.self.now in
    let edge = border f.look.is_active f.width in
    let title = titled f.width (cut_title f.width f.title.now) edge in
    let titles = rw c.cut_title.ensures at c.write_title.ensures.cells in
    let row = c.write_number.ensures.cells title (titles edge c.write_border.ensures.cells) in
    with_mark f.look.is_active (with_number f.width f.look.number title) f.look.edge c.args.from c.write_over.new.cells c.if-look.true
    (over_written 2 3 c.args.from f.look.edge (text_row (codes "[x]")) (with_number f.width f.look.number title) c.write_number.new.cells c.write_over.new.cells
    c.write_over.ensures.count c.write_over.ensures.written c.write_over.ensures.before c.write_over.ensures.after row)

pub returns-else-look-clause-cells : goal.returns-else-look-clause-cells
returns-else-look-clause-cells c =
    let f = c.args.self.now in
    let edge = border f.look.is_active f.width in
    let title = titled f.width (cut_title f.width f.title.now) edge in
    let titles = rw c.cut_title.ensures at c.write_title.ensures.cells in
    without_mark f.look.is_active (with_number f.width f.look.number title) f.look.edge c.args.from c.write_number.new.cells c.if-look.false
    (c.write_number.ensures.cells title (titles edge c.write_border.ensures.cells))
