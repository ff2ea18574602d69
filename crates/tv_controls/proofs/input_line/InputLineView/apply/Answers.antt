use Rattle.tv_model.specs.Kinds.InputLine.{edit_content}
use Rattle.tv_controls.proofs.input_line.InputLineView.apply.Goals as goal

pub returns-clause-damage : goal.returns-clause-damage
returns-clause-damage c = c.apply.ensures.damage (edit_content c.args.self.now.edit)
