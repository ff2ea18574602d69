use Rattle.tv_choices.proofs.radio_buttons.RadioButtonsView.env_damage.Goals as goal
use Rattle.tv_choices.specs.Choices.{radios_leaf}
use Rattle.tv_view.specs.Fields.{content_of}

pub returns : goal.returns
returns c =
    let s = c.args.self.now in
    c.env_damage.ensures (content_of (radios_leaf s.core s.marked))
