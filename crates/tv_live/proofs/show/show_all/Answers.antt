use Rattle.std.proofs.Common.{◌∙◌, subst}
use Rattle.tv_live.proofs.ShownLemmas.{window-told}
use Rattle.tv_live.proofs.show.show_all.Goals as goal
use Rattle.tv_terminal.specs.Writing.{BeginsScreen}
use Rattle.tv_terminal.specs.Written.{cursor_on}

pub returns : goal.returns
returns g c = λ s runs.
    let screen = c.screen-screen.result.now in
    let is = c.screen-screen.ensures s runs in
    record {
      screen = screen;
      cursor = c.find_cursor-cursor.result;
      is = is;
      finds = c.find_cursor-cursor.ensures;
      begins = subst (λ w. BeginsScreen g.T.Writer.seen screen (cursor_on screen.width screen.height c.find_cursor-cursor.result) w c.args.painter.now c.begin.new.self c.args.pen.now c.begin.new.pen)
          (c.unwrap_or-window.ensures ∙ window-told s.desc c.args.told c.width.result c.height.result (c.width.ensures.is ∙ is.width) (c.height.ensures.is ∙ is.height)) c.begin.ensures;
    }
