use Rattle.std.proofs.Common.{refl}
use Rattle.tv_choices.proofs.radio_buttons.RadioButtonsView.press_item.Goals as goal
use Rattle.tv_choices.specs.Choices.{radios_leaf}
use Rattle.tv_view.proofs.DamageLemmas.{damages-own}

pub returns-then-is_item-clause-damage : goal.returns-then-is_item-clause-damage
returns-then-is_item-clause-damage c =
    let core = c.args.self.now.core in
    damages-own (radios_leaf core c.args.self.now.marked) (radios_leaf core c.args.item) c.args.damage.now c.mark.new.damage refl
    c.mark.ensures.all c.mark.ensures.grown
