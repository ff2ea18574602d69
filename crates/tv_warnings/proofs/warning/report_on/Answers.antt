use Rattle.std.proofs.Common.{◌∙◌, ◌++◌, ap, string_bytes}
use Rattle.tv_warnings.proofs.BlockLemmas.{report_more}
use Rattle.tv_warnings.proofs.warning.report_on.Goals as goal

pub loop-finding-preserved : goal.loop-finding-preserved
loop-finding-preserved c =
    report_more c.args.source.now.manner c.args.source.now.name.now c.args.source.now.text.now c.args.desc.now c.args.found.now c.loop-finding.finding-index c.finding-item.result
    (string_bytes c.loop-finding.report) (string_bytes c.in_ok-block.block) (string_bytes c.push_str.new.self) c.loop-finding-test.true c.finding-item.is c.loop-finding.invariant c.in_ok-block.ensures
    (c.in_ok-push_str.ensures.bytes ∙ ap (λ more. string_bytes c.loop-finding.report ++ more) c.deref.ensures)
