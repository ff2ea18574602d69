use Rattle.std.proofs.Common.{◌≡◌, ap}
use Rattle.tv_choices.proofs.check_boxes.CheckBoxesView.press_item.Goals as goal
use Rattle.tv_choices.specs.Choices.{boxes_leaf}
use Rattle.tv_view.specs.Core.{Core}
use Rattle.tv_view.proofs.DamageLemmas.{damages-own}

pub returns-then-is_item-clause-damage : goal.returns-then-is_item-clause-damage
returns-then-is_item-clause-damage c =
    let s = c.args.self.now in
    let after = c.press.new.self in
    let node : after.core.node ≡ s.core.node = ap (λ (k : Core). k.node) c.press.ensures.core in
    damages-own (boxes_leaf s.core s.marks s.selected) (boxes_leaf after.core after.marks after.selected) c.args.damage.now c.mark.new.damage node
    c.mark.ensures.all c.mark.ensures.grown
