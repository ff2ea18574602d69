use Rattle.std.proofs.Common.{arith}
use Rattle.std.proofs.lemmas.Int.{ints}
use Rattle.tv_cells.specs.Rectangle.{sized}
use Rattle.tv_cells.proofs.CoverLemmas.{area_covered, covered_area}
use Rattle.tv_cells.proofs.canvas.Canvas.face_area.Goals as goal

pub returns-clause-places : goal.returns-clause-places
returns-clause-places c = λ column row on. (
  area_covered (sized c.args.width c.args.height) (record { places = c.area.ensures.places })
      (omega (arith, ints)) (omega (arith, ints)) (omega (arith, ints)) (omega (arith, ints)) column row on,
  covered_area (sized c.args.width c.args.height) (record { places = c.area.ensures.places })
      (omega (arith, ints)) (omega (arith, ints)) (omega (arith, ints)) (omega (arith, ints)) column row on,
)
