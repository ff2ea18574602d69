use Rattle.tv_model.specs.Kinds.InputLine.{edit_content}
use Rattle.tv_controls.proofs.input_line.InputLineView.draw.Goals as goal

pub returns-in_default : goal.returns-in_default
returns-in_default c = c.in_default.ensures.none c.args.env.now (edit_content c.args.self.now.edit) c.args.screen.now
