use Rattle.std.proofs.Common.{take}
use Rattle.tv_io.specs.Pen.{Puts}
use Rattle.tv_program.specs.Filling.{misfit_messages}
use Rattle.tv_program.proofs.filling.put_misfits.Given as goal

abbrev pub invariant-loop-misfit : goal.invariant-loop-misfit
invariant-loop-misfit g l = Puts g.E.Writer.seen l.fn.pen l.pen (misfit_messages l.name (take l.misfit-index l.misfits))
