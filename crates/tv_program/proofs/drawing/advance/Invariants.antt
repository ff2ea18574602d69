use Rattle.std.proofs.Common.{take}
use Rattle.tv_machine.specs.Output.{after}
use Rattle.tv_machine.specs.Run.{Session}
use Rattle.tv_program.proofs.drawing.advance.Given as goal

abbrev pub invariant-loop-item : goal.invariant-loop-item
invariant-loop-item g l = (s : Session) → g.S.Stage.stands l.fn.stage s → g.S.Stage.stands l.stage (after s (take l.item-index l.items))
