use Rattle.std.proofs.Common.{sym, ◌∙◌}
use Rattle.tv_picture.proofs.Lowest.{step_over}
use Rattle.tv_picture.proofs.reading.step.Goals as goal

pub returns-then-is_over-clause-stack : goal.returns-then-is_over-clause-stack
returns-then-is_over-clause-stack c = λ ps h e s. step_over c.args.text.now c.args.first c.args.tables.now c.apply.new.tables c.args.height h ps c.args.op (sym c.is_over.ensures ∙ c.if-is_over.true) e c.apply.ensures.tables s
