use Rattle.std.proofs.Common.{subst, sym, ap, ◌∙◌, ◌++◌, string_bytes}
use Rattle.tv_advice.specs.Blocks.{AreUnreadBlocks}
use Rattle.tv_advice.specs.Blocks.AreUnreadBlocks.{further}
use Rattle.tv_advice.proofs.whole.add_unread.Goals as goal

pub returns : goal.returns
returns c = λ first so_far.
    let report = string_bytes c.args.blocks.now.report in
    let block = string_bytes c.in_ok-block.block in
    let added = c.in_ok-push_str.ensures.bytes ∙ ap (λ more. report ++ more) c.deref.ensures in
    subst (λ bytes. AreUnreadBlocks c.args.source.now.manner c.args.source.now.name.now first c.args.unread.now.own.line bytes) (sym added)
    (further c.args.blocks.now.last c.args.unread.now.own.line report block so_far c.if-unread-blocks.false c.in_ok-block.ensures)
