use Rattle.std.proofs.Common.{ap, refl, ◌∷◌, []}
use Rattle.tv_cells.specs.declared.canvas.Canvas.{Canvas}
use Rattle.tv_terminal.proofs.PaintLemmas.{begins, whole-only, whole-rect}
use Rattle.tv_terminal.proofs.painter.Painter.begin.Goals as goal

pub returns : goal.returns
returns g c =
    let forgot = c.forget.ensures in
    begins c.args.window refl refl c.requires forgot.shown forgot.colours forgot.unknown (forgot.nowhere, forgot.plain, forgot.cursor) refl refl refl (refl, refl, refl) c.put.ensures (c.canvas.result.clip ∷ [])
    (whole-rect c.canvas.result.clip c.args.screen.now (ap (λ (k : Canvas). k.clip) c.canvas.ensures))
    (whole-only c.canvas.result.clip c.args.screen.now (ap (λ (k : Canvas). k.clip) c.canvas.ensures))
    c.paint.ensures
