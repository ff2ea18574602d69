use Rattle.std.proofs.Common.{IfSome, Option, Some, ap, arith, refl, subst, sym, ◌<◌, ◌≡◌, ◌∙◌, ℕ}
use Rattle.tv_terminal.specs.Written.{seen}
use Rattle.tv_terminal.proofs.DrawLemmas.{covers-still}
use Rattle.tv_terminal.proofs.PaintLemmas.{paints, paints-for, seen-whole, seen-within}
use Rattle.tv_terminal.proofs.painter.Painter.paint.Goals as goal

pub returns : goal.returns
returns g c =
    let screen = c.args.screen.now in
    let window = c.args.self.now.window in
    let on = rw (c.width.ensures.is, c.height.ensures.is) at c.on_screen.ensures.on in
    let is = rw (c.width.ensures.is, c.height.ensures.is) at c.on_screen.ensures.is in
    let framed : c.seen-cursor.result ≡ seen window c.on_screen.result = rw c.paint_rects.ensures.window at c.seen-cursor.ensures in
    let within = subst (λ (q : Option (ℕ × ℕ)). IfSome q (λ p. (p.0 < screen.width) × (p.1 < screen.height))) (sym framed)
    (seen-within window c.on_screen.result screen.width screen.height on) in
    paints-for (λ covers. framed ∙ seen-whole window screen c.on_screen.result on (covers-still c.requires refl covers) ∙ is)
    (paints c.seen-cursor.result c.new-hand.ensures.bytes c.new-hand.ensures.place c.new-hand.ensures.attr c.new-hand.ensures.colours c.requires
    (omega (arith, c.width.ensures.is, c.width.ensures.small.1), omega (arith, c.height.ensures.is, c.height.ensures.small.1))
    within c.paint_rects.ensures c.finish.ensures.puts
    (record { shown = refl; known = refl; colours = refl; window = refl; place = c.finish.ensures.place; attr = c.finish.ensures.attr; shows = ap Some c.is_some.ensures }))
