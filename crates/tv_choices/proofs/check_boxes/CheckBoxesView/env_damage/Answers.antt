use Rattle.tv_choices.proofs.check_boxes.CheckBoxesView.env_damage.Goals as goal
use Rattle.tv_choices.specs.Choices.{boxes_leaf}
use Rattle.tv_view.specs.Fields.{content_of}

pub returns : goal.returns
returns c =
    let s = c.args.self.now in
    c.env_damage.ensures (content_of (boxes_leaf s.core s.marks s.selected))
