use Rattle.std.proofs.Common.{ap, subst, sym, ◌∙◌, ◌∷◌}
use Rattle.tv_cells.specs.Canvas.{sub}
use Rattle.tv_cells.specs.Layers.{Shows, Lays}
use Rattle.tv_cells.specs.Rectangle.{IsPointNear}
use Rattle.tv_group.specs.Opened.{opened}
use Rattle.tv_view.specs.Drawing.{leaves_layers}
use Rattle.tv_view.proofs.DrawnLemmas.{frame_is, lays_onto, near_corner}
use Rattle.tv_window.proofs.window.WindowOf.draw.Goals as goal

pub draw-requires : goal.draw-requires
draw-requires g c = subst (λ canvas. IsPointNear canvas.origin) (sym c.sub-inner.ensures) (near_corner c.args.canvas c.bounds.result c.requires c.bounds.ensures.small)

pub returns : goal.returns
returns g c =
    let place = c.sub-inner.ensures ∙ ap (sub c.args.canvas) c.bounds.ensures.is in
    let frame = c.frame-frame.ensures in
    let same = frame_is _ _ _ _ _ _ _ _ _ _ _ _ place frame.width frame.height frame.title frame.look c.as_ref.ensures.value in
    lays_onto _ _ _ c.lay.new.screen _ c.lay.ensures.size
    (λ layers shows. subst (λ layer. Shows (layer ∷ layers) c.lay.new.screen) same (c.lay.ensures.shows layers shows))
    (subst (λ canvas. Lays (leaves_layers c.args.env.now canvas (opened g.V.View.meaning c.args.self.now.body)) c.lay.new.screen c.draw.new.screen) place c.draw.ensures)
