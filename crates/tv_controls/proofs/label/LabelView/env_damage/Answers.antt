use Rattle.tv_view.specs.Core.{no_content}
use Rattle.tv_controls.proofs.label.LabelView.env_damage.Goals as goal

pub returns : goal.returns
returns c = c.link_damage.ensures no_content
