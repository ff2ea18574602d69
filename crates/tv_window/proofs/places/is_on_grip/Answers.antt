use Rattle.std.proofs.Common.{false, refl, sym, ap, ◌∙◌, ◌-ℤ◌}
use Rattle.tv_cells.specs.Layers.{is_in}
use Rattle.tv_view.proofs.PointLemmas.{is_in-test}
use Rattle.tv_machine.specs.Dialog.Mouse.{is_close_mark}
use Rattle.tv_machine.specs.Session.Desktop.{seen_from}
use Rattle.tv_window.proofs.PointLemmas.{grip-seen}
use Rattle.tv_window.proofs.places.is_on_grip.Goals as goal

pub returns-else-contains : goal.returns-else-contains
returns-else-contains c =
    let bounds = c.args.bounds in
    let on = is_in-test c.top_row.result c.args.point.x c.args.point.y c.contains.result c.contains.ensures ∙ ap (λ r. is_in r c.args.point.x c.args.point.y) c.top_row.ensures in
    c.if-contains.false
    ∙ grip-seen bounds.a c.args.point (bounds.b.x -ℤ bounds.a.x) false (is_close_mark (seen_from bounds.a c.args.point)) (sym c.if-contains.false ∙ on) refl
