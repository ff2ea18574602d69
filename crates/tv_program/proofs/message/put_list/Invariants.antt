use Rattle.std.proofs.Common.{flat_map, take}
use Rattle.tv_io.specs.Pen.{Puts}
use Rattle.tv_program.specs.Report.{fault_line}
use Rattle.tv_program.proofs.message.put_list.Given as goal

abbrev pub invariant-loop-fault : goal.invariant-loop-fault
invariant-loop-fault g l = Puts g.W.Writer.seen l.fn.pen l.pen (flat_map fault_line (take l.fault-index l.list))
