use Rattle.tv_choices.proofs.list_box.ListBoxView.apply.Goals as goal
use Rattle.tv_choices.specs.Choices.{list_leaf}
use Rattle.tv_view.specs.Fields.{content_of}

pub returns-clause-damage : goal.returns-clause-damage
returns-clause-damage c =
    let s = c.args.self.now in
    c.apply.ensures.damage (content_of (list_leaf s.core s.chosen))
