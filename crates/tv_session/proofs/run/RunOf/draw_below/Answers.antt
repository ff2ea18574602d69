use Rattle.std.proofs.Common.{[], ◌∷◌, ◌++◌, ap}
use Rattle.std.specs.Prelude.{is_none}
use Rattle.tv_cells.specs.declared.canvas.Canvas.{Canvas}
use Rattle.tv_machine.specs.Screen.Bodies.{background_layer}
use Rattle.tv_machine.specs.Screen.Layers.{open_layers, stack_layers}
use Rattle.tv_session.proofs.PaintingLemmas.{lays-hidden, lays-standing}
use Rattle.tv_session.proofs.run.RunOf.draw_below.Goals as goal

pub returns-then-hides_below : goal.returns-then-hides_below
returns-then-hides_below g c s after r laid =
    let d = c.args.desc.now in
    lays-hidden c.args.rect (open_layers d s.overwriting s.dialog) (stack_layers d (is_none s.dialog) s.windows ++ background_layer d ∷ [])
    (c.hides_below.ensures s r c.if-hides_below.true) c.args.screen.now after laid

pub draw_windows-requires : goal.draw_windows-requires
draw_windows-requires g c = (ap (λ (k : Canvas). k.origin.x) c.requires.canvas, ap (λ (k : Canvas). k.origin.y) c.requires.canvas)

pub returns : goal.returns
returns g c s after r laid =
    let d = c.args.desc.now in
    let region = c.args.rect in
    lays-standing d s region c.args.screen.now c.draw_background.new.screen c.draw_windows.new.screen after
    (c.draw_background.ensures region c.requires.canvas) (c.draw_windows.ensures d s region r c.requires.canvas) laid
