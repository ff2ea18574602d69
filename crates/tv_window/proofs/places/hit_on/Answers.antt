use Rattle.std.proofs.Common.{true, false, sym, ap, ◌∙◌}
use Rattle.tv_window.specs.declared.desk.Hit.TheVariants as hits
use Rattle.tv_window.proofs.PointLemmas.{hit-told}
use Rattle.tv_window.proofs.places.hit_on.Goals as goal

pub returns-then-is_on_grip-clause-is : goal.returns-then-is_on_grip-clause-is
returns-then-is_on_grip-clause-is g c =
    ap (λ p. hits.Grip p) c.point.ensures.is
    ∙ hit-told c.args.window.now c.args.point c.bounds-bounds.result c.bounds-bounds.ensures.is false true (sym c.if-is_on_close_mark.false ∙ c.is_on_close_mark.ensures) (sym c.if-is_on_grip.true ∙ c.is_on_grip.ensures)

pub returns-else-is_on_grip-clause-is : goal.returns-else-is_on_grip-clause-is
returns-else-is_on_grip-clause-is g c =
    hit-told c.args.window.now c.args.point c.bounds-bounds.result c.bounds-bounds.ensures.is false false (sym c.if-is_on_close_mark.false ∙ c.is_on_close_mark.ensures) (sym c.if-is_on_grip.false ∙ c.is_on_grip.ensures)
