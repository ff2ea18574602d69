use Rattle.std.proofs.Common.{rules}
use Rattle.tv_lang.proofs.LineLemmas.{added}
use Rattle.tv_lang.proofs.line.Line.radio_buttons.Goals as goal

pub returns : goal.returns
returns c = added c.start.result c.args.self _ c.in_ok-marked_items.field-0 _ _ c.in_ok-marked_items.ensures c.start.ensures (search rules)
