use Rattle.tv_view.specs.Core.{no_content}
use Rattle.tv_controls.proofs.label.LabelView.apply.Goals as goal

pub returns-clause-damage : goal.returns-clause-damage
returns-clause-damage c = c.apply.ensures.damage no_content
