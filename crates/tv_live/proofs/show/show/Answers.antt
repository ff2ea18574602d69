use Rattle.std.proofs.Common.{ap, subst, true, ◌∷◌, [], ◌≡◌}
use Rattle.tv_cells.specs.Repainting.{has_cell}
use Rattle.tv_live.proofs.show.show.Goals as goal
use Rattle.tv_terminal.specs.Writing.{Paints}
use Rattle.tv_terminal.specs.Written.{cursor_on}

pub returns : goal.returns
returns g c = λ s runs.
    let screen = c.screen-screen.result.now in
    record {
      screen = screen;
      cursor = c.find_cursor-cursor.result;
      is = c.screen-screen.ensures s runs;
      finds = c.find_cursor-cursor.ensures;
      paints = subst (λ r. Paints g.T.Writer.seen (λ column row. has_cell (r ∷ []) column row ≡ true) screen (cursor_on screen.width screen.height c.find_cursor-cursor.result) c.args.painter.now c.paint.new.self c.args.pen.now c.paint.new.pen)
          (ap (λ k. k.clip) c.canvas.ensures) c.paint.ensures;
    }
