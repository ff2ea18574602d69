use Rattle.std.proofs.Common.{ap, ◌∙◌}
use Rattle.tv_cells.specs.Layers.{is_in}
use Rattle.tv_view.proofs.PointLemmas.{is_in-test}
use Rattle.tv_window.proofs.MarkLemmas.{mark-seen}
use Rattle.tv_window.proofs.places.is_on_close_mark.Goals as goal

pub returns : goal.returns
returns c =
    is_in-test c.close_mark.result c.args.point.x c.args.point.y c.contains.result c.contains.ensures
    ∙ (ap (λ r. is_in r c.args.point.x c.args.point.y) c.close_mark.ensures ∙ mark-seen c.args.bounds.a c.args.point)
