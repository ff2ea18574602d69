use Rattle.std.proofs.Common.{◌∙◌, ap, ◌++◌, string_bytes}
use Rattle.tv_advice.proofs.BlockLemmas.{IsReportOn-turn}
use Rattle.tv_advice.proofs.whole.report_on.Goals as goal

pub loop-fault-preserved : goal.loop-fault-preserved
loop-fault-preserved c =
    IsReportOn-turn c.args.source.now.manner c.args.source.now.name.now c.args.faults.now c.loop-fault.fault-index _ c.in_ok-advice.advice (string_bytes c.loop-fault.report) (string_bytes c.in_ok-block.block) (string_bytes c.push_str.new.self) c.loop-fault-test.true c.loop-fault.invariant c.in_ok-advice.ensures c.in_ok-block.ensures (c.in_ok-push_str.ensures.bytes ∙ ap (λ more. string_bytes c.loop-fault.report ++ more) c.deref.ensures)
