use Rattle.tv_view.specs.Core.{no_content}
use Rattle.tv_controls.proofs.button.ButtonView.env_damage.Goals as goal

pub returns : goal.returns
returns c = c.env_damage.ensures no_content
