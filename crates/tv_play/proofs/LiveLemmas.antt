-- A session, as a run that tells what of its screen an event had painted again.
use Rattle.std.proofs.Common.{arith, sym, ◌∙◌, List, ℕ, ℤ, pos, negsuc, ◌<◌, ◌<ℤ◌, ◌+ℤ◌}
use Rattle.std.proofs.lemmas.Int.{ints}
use Rattle.tv_cells.specs.Picture.{IsOn, Picture}
use Rattle.tv_cells.specs.Damage.{Holds}
use Rattle.tv_cells.specs.Repainting.{KeepsRest}
use Rattle.tv_cells.specs.declared.rect.Point.{Point}
use Rattle.tv_cells.specs.declared.rect.Rect.{Rect}
use Rattle.tv_dialogs.specs.Handed.{HasPointGiven, IsPointGiven}
use Rattle.tv_event.specs.declared.event.Event.{Event}
use Rattle.tv_event.specs.declared.event.Event.TheVariants as events
use Rattle.tv_machine.specs.Run.{Session, stepped}
use Rattle.tv_machine.specs.Screen.Bodies.{whole_screen}
use Rattle.tv_model.specs.Description.Numbers.{natural}
use Rattle.tv_play.specs.Shown.{KeepsScreen}
use Rattle.tv_script.specs.Performed.{IsScreenOf}
use Rattle.tv_terminal.specs.Points.{HasPlaces, IsPlaced}

point-given : (p : Point) → HasPlaces p → IsPointGiven p
point-given p h = record {
  x = record { low = omega (arith, ints, h.x.low); high = omega (arith, ints, h.x.high) };
  y = record { low = omega (arith, ints, h.y.low); high = omega (arith, ints, h.y.high) };
}

-- where the mouse can be an event is taken
pub placed-given : (e : Event) → IsPlaced e → HasPointGiven e
placed-given (events.Down p) h = point-given p h
placed-given (events.Up p) h = point-given p h
placed-given (events.Move p) h = point-given p h
placed-given (events.Key k) h = tt
placed-given (events.Command c) h = tt
placed-given (events.Broadcast c) h = tt

before-natural : (n : ℕ) (z : ℤ) → pos n <ℤ (pos 0 +ℤ z) → n < natural z
before-natural n (pos m) lt = omega (arith, ints, lt)
before-natural n (negsuc m) lt = absurd (omega (arith, ints, lt))

-- what of two screens hasn't changed
pub keeps-screen : (rects : List Rect) (s : Session) (e : Event) (old new : Picture) → IsScreenOf s old → IsScreenOf (stepped s e) new → Holds (whole_screen s.desc) rects → KeepsRest rects old new → KeepsScreen rects s (stepped s e)
keeps-screen rects s e old new was is within keeps = record {
  within = λ column row here.
      let at = within.each (pos column) (pos row) here in
      record { across = before-natural column s.desc.width at.before_right; down = before-natural row s.desc.height at.before_bottom };
  each = λ column row on apart.
      let on-old : IsOn old column row = record { across = omega (arith, on.across, was.width); down = omega (arith, on.down, was.height) } in
      let on-new : IsOn new column row = record { across = omega (arith, on.across, is.width); down = omega (arith, on.down, is.height) } in
      sym (is.cells.each column row on-new) ∙ keeps.each column row on-old apart ∙ was.cells.each column row on-old;
}
