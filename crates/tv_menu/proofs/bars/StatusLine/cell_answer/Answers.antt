use Rattle.std.proofs.Common.{◌∙◌, sym}
use Rattle.tv_machine.specs.Screen.Bars.{status_under}
use Rattle.tv_menu.proofs.LineLemmas.{cell_taken, cell_turned}
use Rattle.tv_menu.proofs.bars.StatusLine.cell_answer.Goals as goal

pub returns-in-Some : goal.returns-in-Some
returns-in-Some c = λ d s of enabled. cell_turned d s (status_under d c.args.column.now) c.in-Some.item.now c.turned_by.result
    (c.in-Some.ensures.is d of) (sym (c.is_enabled.ensures.now d s enabled) ∙ c.if-is_enabled.true) c.turned_by.ensures

pub returns-in_default : goal.returns-in_default
returns-in_default c = λ d s of enabled. cell_taken d s (status_under d c.args.column.now) c.in-Some.item.now
    (c.in-Some.ensures.is d of) (sym (c.is_enabled.ensures.now d s enabled) ∙ c.if-is_enabled.false)
