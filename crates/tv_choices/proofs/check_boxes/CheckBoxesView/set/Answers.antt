use Rattle.std.proofs.Common.{◌≡◌, ap}
use Rattle.tv_choices.proofs.check_boxes.CheckBoxesView.set.Goals as goal
use Rattle.tv_choices.specs.Choices.{boxes_leaf}
use Rattle.tv_view.specs.Core.{Core}
use Rattle.tv_view.proofs.DamageLemmas.{damages-own}

pub returns-in-Some-Marks-clause-damage : goal.returns-in-Some-Marks-clause-damage
returns-in-Some-Marks-clause-damage c =
    let s = c.args.self.now in
    let node : c.reset.new.self.node ≡ s.core.node = ap (λ (k : Core). k.node) c.reset.ensures in
    damages-own (boxes_leaf s.core s.marks s.selected) (boxes_leaf c.reset.new.self c.in-Some-Marks.marks 1) c.args.damage.now c.mark.new.damage node
    (rw node at c.mark.ensures.all) (rw node at c.mark.ensures.grown)
