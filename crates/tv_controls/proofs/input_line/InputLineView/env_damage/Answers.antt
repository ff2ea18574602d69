use Rattle.tv_model.specs.Kinds.InputLine.{edit_content}
use Rattle.tv_controls.proofs.input_line.InputLineView.env_damage.Goals as goal

pub returns : goal.returns
returns c = c.env_damage.ensures (edit_content c.args.self.now.edit)
