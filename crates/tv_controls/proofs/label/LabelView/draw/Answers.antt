use Rattle.tv_view.specs.Core.{no_content}
use Rattle.tv_controls.proofs.label.LabelView.draw.Goals as goal

pub returns-in_default : goal.returns-in_default
returns-in_default c = c.in_default.ensures.none c.args.env.now no_content c.args.screen.now
