use Rattle.tv_program.specs.Report.{fault_line}
use Rattle.tv_io.proofs.PenLemmas.{Puts-more}
use Rattle.tv_program.proofs.message.put_list.Goals as goal

pub loop-fault-preserved : goal.loop-fault-preserved
loop-fault-preserved g c =
    Puts-more fault_line c.args.list.now c.loop-fault.fault-index _ c.loop-fault-test.true c.loop-fault.invariant c.put_fault.ensures
