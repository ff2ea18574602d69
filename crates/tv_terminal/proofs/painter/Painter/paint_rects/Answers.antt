use Rattle.std.proofs.lemmas.List.{take_all}
use Rattle.tv_terminal.proofs.DrawLemmas.{alike-still}
use Rattle.tv_terminal.proofs.RegionLemmas.{draws-next_rect, draws-no_rects}
use Rattle.tv_terminal.proofs.painter.Painter.paint_rects.Goals as goal

pub loop-rect-init : goal.loop-rect-init
loop-rect-init g c = draws-no_rects c.args.hand.now c.args.rects.now

pub paint_rect-requires : goal.paint_rect-requires
paint_rect-requires g c = alike-still c.requires c.loop-rect.invariant.changes.size

pub loop-rect-preserved : goal.loop-rect-preserved
loop-rect-preserved g c = draws-next_rect c.args.rects.now c.loop-rect.rect-index _ c.loop-rect-test.true c.loop-rect.invariant c.paint_rect.ensures

pub returns : goal.returns
returns g c = rw (take_all c.loop-rect.rect-index c.args.rects.now c.loop-rect-test.false) at c.loop-rect.invariant
