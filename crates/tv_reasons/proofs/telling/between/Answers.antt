use Rattle.std.proofs.Common.{sym, ap}
use Rattle.tv_reasons.specs.Reasons.{between}
use Rattle.tv_reasons.proofs.telling.between.Goals as goal

pub returns-then-is_hidden : goal.returns-then-is_hidden
returns-then-is_hidden c = sym (ap between c.if-is_hidden.true)

pub returns-else-is_hidden : goal.returns-else-is_hidden
returns-else-is_hidden c = sym (ap between c.if-is_hidden.false)
