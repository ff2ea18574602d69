use Rattle.std.proofs.Common.{refl}
use Rattle.tv_terminal.proofs.DrawLemmas.{covers-still}
use Rattle.tv_play.proofs.MonitorLemmas.{says-clipped}
use Rattle.tv_play.proofs.ShownLemmas.{alike-size}
use Rattle.tv_play.proofs.show.say_clipped.Goals as goal

pub returns-then-is_clipped : goal.returns-then-is_clipped
returns-then-is_clipped g c =
    let there = c.requires.there in
    says-clipped (c.write_note.ensures.writes there.0 there.1 there.2) c.write_note.ensures.same c.paint.ensures refl refl
    (λ covers. (c.if-is_clipped.ensures {u = tt}).1 (covers-still (alike-size (c.screen-screen.ensures there.0 there.1) there.2) refl covers) refl)
