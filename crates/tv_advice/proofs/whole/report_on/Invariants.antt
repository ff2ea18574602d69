-- There is a block for each fault so far.
use Rattle.std.proofs.Common.{take, string_bytes}
use Rattle.tv_advice.specs.Blocks.{IsReportOn}
use Rattle.tv_advice.proofs.whole.report_on.Given as goal

abbrev pub invariant-loop-fault : goal.invariant-loop-fault
invariant-loop-fault l = IsReportOn l.source.manner l.source.name.now (take l.fault-index l.faults) (string_bytes l.report)
