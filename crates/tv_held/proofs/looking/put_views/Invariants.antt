use Rattle.std.proofs.Common.{take}
use Rattle.tv_held.specs.Looking.{record_text}
use Rattle.tv_io.specs.Pen.{Puts}
use Rattle.tv_held.proofs.looking.put_views.Given as goal

abbrev pub invariant-loop-view : goal.invariant-loop-view
invariant-loop-view g l = Puts g.W.Writer.seen l.fn.pen l.pen (record_text l.desc (take l.view-index l.views) l.values)
