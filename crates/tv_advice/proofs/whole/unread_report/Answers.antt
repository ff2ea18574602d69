use Rattle.std.proofs.Common.{subst, string_bytes}
use Rattle.tv_advice.specs.Blocks.{IsUnreadBlock}
use Rattle.tv_advice.specs.Blocks.AreUnreadBlocks.{one}
use Rattle.tv_advice.proofs.whole.unread_report.Goals as goal

pub loop-unread-init : goal.loop-unread-init
loop-unread-init c =
    let block = string_bytes c.in_ok-report.report in
    one block (subst (λ line. IsUnreadBlock c.args.source.now.manner c.args.source.now.name.now line block) c.in_ok-first.ensures c.in_ok-report.ensures)
