use Rattle.std.proofs.Common.{[], ◌∷◌, pos, subst}
use Rattle.tv_cells.specs.Layers.{Lays, Painted}
use Rattle.tv_cells.specs.Repainting.{within}
use Rattle.tv_machine.specs.Screen.Bodies.{canvas_at}
use Rattle.tv_menu.proofs.DrawingLemmas.{lays_one}
use Rattle.tv_model.specs.Description.Numbers.{natural}
use Rattle.tv_model.specs.Description.Rectangles.{desktop}
use Rattle.tv_model.specs.Screen.Faces.{background}
use Rattle.tv_session.proofs.paint.draw_background.Goals as goal

pub returns : goal.returns
returns c = λ r is.
    let d = c.args.desc.now in
    let old = c.args.screen.now in
    let new = c.lay.new.screen in
    let canvas = within r (canvas_at (desktop d) (pos 0) (pos 0)) in
    subst (λ w. Lays (Painted canvas w (natural d.height) background ∷ []) old new) c.natural.ensures
    (subst (λ h. Lays (Painted canvas c.natural.result h background ∷ []) old new) c.natural-2.ensures
    (subst (λ k. Lays (Painted k c.natural.result c.natural-2.result background ∷ []) old new) is (lays_one _ _ _ c.lay.ensures.size c.lay.ensures.shows)))
