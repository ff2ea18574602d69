use Rattle.std.proofs.Common.{◌≡◌, arith}
use Rattle.tv_terminal.proofs.DrawLemmas.{alike-still}
use Rattle.tv_terminal.proofs.RegionLemmas.{draws-next_row, draws-no_rows, draws-rect}
use Rattle.tv_terminal.proofs.painter.Painter.paint_rect.Goals as goal

pub loop-row-init : goal.loop-row-init
loop-row-init g c = draws-no_rows c.args.hand.now c.visible-left.result.0 c.visible-left.result.1 c.visible-top.result.0

pub paint_row-requires-clause-size : goal.paint_row-requires-clause-size
paint_row-requires-clause-size g c = alike-still c.requires c.loop-row.invariant.changes.size

pub paint_row-requires-clause-across : goal.paint_row-requires-clause-across
paint_row-requires-clause-across g c = (
  c.visible-left.ensures.within.0,
  omega (arith, c.visible-left.ensures.within.1, c.width.ensures.is, c.requires.width, c.loop-row.invariant.changes.size.width),
)

pub paint_row-requires-clause-down : goal.paint_row-requires-clause-down
paint_row-requires-clause-down g c =
    omega (arith, c.loop-row-test.true, c.visible-top.ensures.within.1, c.height.ensures.is, c.requires.height, c.loop-row.invariant.changes.size.height)

pub paint_row-requires-clause-small : goal.paint_row-requires-clause-small
paint_row-requires-clause-small g c = (
  omega (arith, c.visible-left.ensures.within.1, c.width.ensures.small.1),
  omega (arith, c.loop-row-test.true, c.visible-top.ensures.within.1, c.height.ensures.small.1),
)

pub loop-row-preserved : goal.loop-row-preserved
loop-row-preserved g c =
    draws-next_row c.visible-left.result.0 c.visible-left.result.1 c.visible-top.result.0 c.loop-row.row c.loop-row.auto.row c.loop-row.invariant c.paint_row.ensures

pub returns : goal.returns
returns g c =
    let end : c.loop-row.row ≡ c.visible-top.result.1 = omega (arith, c.visible-top.ensures.within.0) in
    draws-rect c.args.rect.now c.args.screen.now c.visible-left.result.0 c.visible-left.result.1 c.visible-top.result.0 c.visible-top.result.1
    (rw c.width.ensures.is at c.visible-left.ensures.within.1) (rw c.height.ensures.is at c.visible-top.ensures.within.1)
    (rw c.width.ensures.is at c.visible-left.ensures.places) (rw c.height.ensures.is at c.visible-top.ensures.places)
    c.requires (rw end at c.loop-row.invariant)
