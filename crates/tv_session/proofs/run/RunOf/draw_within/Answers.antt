use Rattle.std.proofs.Common.{[], ◌∷◌, map, ap, subst, sym, ◌∙◌}
use Rattle.tv_cells.specs.Layers.{Lays}
use Rattle.tv_cells.specs.Repainting.{clipped, within}
use Rattle.tv_machine.specs.Screen.Layers.{bar_layer, box_layers}
use Rattle.tv_session.proofs.PaintingLemmas.{lays-bar}
use Rattle.tv_session.proofs.run.RunOf.draw_within.Goals as goal

pub returns : goal.returns
returns g c = λ s sound r line.
    let d = c.args.desc.now in
    let region = c.args.rect in
    let desktop = c.within-desktop.ensures ∙ ap (within region) c.desktop_canvas.ensures in
    let whole = c.within-whole.ensures ∙ ap (within region) c.whole_canvas.ensures in
    lays-bar d s region c.args.screen.now _ _ _ _
    (c.draw_below.ensures s c.draw.new.screen r (c.draw.ensures region s sound r.dialogs desktop))
    (subst (λ o. Lays (map (clipped region) (box_layers d o)) c.draw.new.screen c.draw_box.new.screen) (sym r.menu) (c.draw_box.ensures.layers d region r.bar desktop))
    (c.draw-2.ensures.layers d s region line (record { each = c.commands.ensures d s r.dialogs }) whole)
    (subst (λ o. Lays (clipped region (bar_layer d o) ∷ []) c.draw-2.new.screen c.draw-3.new.screen) (sym r.menu) (c.draw-3.ensures.layers d region r.bar whole))

pub draw_below-requires-clause-canvas : goal.draw_below-requires-clause-canvas
draw_below-requires-clause-canvas g c = c.within-desktop.ensures ∙ ap (within c.args.rect) c.desktop_canvas.ensures
