-- There are blocks on lines up to the last one.
use Rattle.std.proofs.Common.{string_bytes}
use Rattle.tv_advice.specs.Blocks.{AreUnreadBlocks}
use Rattle.tv_advice.proofs.whole.unread_report.Given as goal

abbrev pub invariant-loop-unread : goal.invariant-loop-unread
invariant-loop-unread l = AreUnreadBlocks l.source.manner l.source.name.now l.line l.blocks.last (string_bytes l.blocks.report)
