use Rattle.std.proofs.Common.{◌∙◌, ap, sym}
use Rattle.tv_choices.proofs.DamageLemmas.{handled-node}
use Rattle.tv_choices.proofs.check_boxes.CheckBoxesView.handle.Goals as goal
use Rattle.tv_choices.specs.Choices.{boxes_leaf}
use Rattle.tv_view.specs.Fields.{content_of}
use Rattle.tv_view.specs.Meaning.{Leaf}

pub returns-clause-damage : goal.returns-clause-damage
returns-clause-damage c =
    let s = c.args.self.now in
    let after = c.react-reaction.new.self in
    let old = boxes_leaf s.core s.marks s.selected in
    let new = boxes_leaf after.core after.marks after.selected in
    let node = ap (λ (leaf : Leaf). leaf.node) c.react-reaction.ensures.after ∙ handled-node c.args.event.now c.args.phase c.args.env.now old in
    c.mark_unless_passed.ensures old (content_of new) (sym node) c.react-reaction.ensures.passed
