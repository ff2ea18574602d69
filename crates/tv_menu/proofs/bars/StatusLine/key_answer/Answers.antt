use Rattle.std.proofs.Common.{◌&&◌, ◌∙◌}
use Rattle.tv_machine.specs.Session.Step.{is_item_enabled}
use Rattle.tv_model.specs.Faults.Letters.{is_same_key}
use Rattle.tv_menu.proofs.LineLemmas.{key_turned}
use Rattle.tv_menu.proofs.bars.StatusLine.key_answer.Goals as goal

pub returns-in-Some : goal.returns-in-Some
returns-in-Some c = λ d s of enabled. key_turned (λ item. is_same_key item.key c.args.key && is_item_enabled d s item) c.as_slice.result.now d.status
    c.in-Some.item.now c.turned_by.result (c.in-Some.ensures.is d s enabled) (c.as_slice.ensures ∙ of.items) c.turned_by.ensures
