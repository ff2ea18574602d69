use Rattle.std.proofs.Common.{ap, subst, sym, ◌∙◌, ◌∷◌}
use Rattle.tv_cells.specs.Canvas.{sub}
use Rattle.tv_cells.specs.Layers.{Shows, Lays}
use Rattle.tv_cells.specs.Rectangle.{IsPointNear}
use Rattle.tv_model.specs.Description.Rectangles.{IsSmallRect}
use Rattle.tv_group.specs.Opened.{opened}
use Rattle.tv_dialog.specs.Drawn.{lent}
use Rattle.tv_view.specs.Drawing.{leaves_layers}
use Rattle.tv_dialog.proofs.ShownLemmas.{dialog-shown}
use Rattle.tv_view.proofs.DrawnLemmas.{frame_is, lays_onto, near_corner}
use Rattle.tv_dialog.proofs.dialog.DialogOf.draw.Goals as goal

pub draw-requires : goal.draw-requires
draw-requires g c = subst (λ canvas. IsPointNear canvas.origin) (sym c.sub-inner.ensures) (near_corner c.args.canvas c.bounds.result c.requires c.bounds.ensures.small)

pub returns-clause-layers : goal.returns-clause-layers
returns-clause-layers g c =
    let place = c.sub-inner.ensures ∙ ap (sub c.args.canvas) c.bounds.ensures.is in
    let frame = c.frame-frame.ensures in
    let same = frame_is _ _ _ _ _ _ _ _ _ _ _ _ place frame.width frame.height frame.title frame.look c.as_ref.ensures.value in
    lays_onto _ _ _ c.lay.new.screen _ c.lay.ensures.size
    (λ layers shows. subst (λ layer. Shows (layer ∷ layers) c.lay.new.screen) same (c.lay.ensures.shows layers shows))
    (subst (λ canvas. Lays (leaves_layers (lent c.args.self.now.plan c.args.self.now.focus c.args.env.now) canvas (opened g.V.View.meaning c.args.self.now.body)) c.lay.new.screen c.draw.new.screen) place
    (subst (λ env. Lays (leaves_layers env c.sub-inner.result (opened g.V.View.meaning c.args.self.now.body)) c.lay.new.screen c.draw.new.screen) c.lent.ensures c.draw.ensures))

pub returns-clause-machine : goal.returns-clause-machine
returns-clause-machine g c desc r d o overwriting m before lawful stands shown at lies seen shadow =
    dialog-shown g.V.View.meaning desc d o overwriting m c.args.env.now c.args.self.now lawful stands shown at lies (subst IsSmallRect c.bounds.ensures.is c.bounds.ensures.small) r c.args.canvas seen before c.args.screen.now c.draw.new.screen shadow
    (returns-clause-layers g c)
