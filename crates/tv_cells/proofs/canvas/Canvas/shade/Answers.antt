use Rattle.std.proofs.Common.{arith}
use Rattle.std.proofs.lemmas.Int.{ints}
use Rattle.tv_cells.proofs.CoverLemmas.{changes_covered}
use Rattle.tv_cells.proofs.RowLemmas.{changes_next, changes_start}
use Rattle.tv_cells.proofs.canvas.Canvas.shade.Goals as goal

pub loop-row-init : goal.loop-row-init
loop-row-init c = changes_start c.area-area.result

pub shade_row-requires-clause-across : goal.shade_row-requires-clause-across
shade_row-requires-clause-across c = let same = c.loop-row.invariant.size.width in (omega arith, omega arith)

pub shade_row-requires-clause-down : goal.shade_row-requires-clause-down
shade_row-requires-clause-down c = let same = c.loop-row.invariant.size.height in omega arith

pub loop-row-preserved : goal.loop-row-preserved
loop-row-preserved c = changes_next c.area-area.result c.loop-row.row (omega arith) c.loop-row.invariant c.shade_row.ensures

pub returns : goal.returns
returns c =
    changes_covered c.args.rect (record { places = c.area-area.ensures.places })
    (omega (arith, ints)) (omega (arith, ints)) (omega (arith, ints)) (omega (arith, ints))
    c.loop-row.row (omega arith) c.loop-row.invariant
