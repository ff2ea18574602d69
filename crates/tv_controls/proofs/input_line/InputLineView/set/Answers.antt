use Rattle.tv_controls.proofs.MarkedLemmas.{marked}
use Rattle.tv_controls.specs.InputLine.{input_leaf}
use Rattle.tv_controls.proofs.input_line.InputLineView.set.Goals as goal

pub returns-clause-damage : goal.returns-clause-damage
returns-clause-damage c =
    let old = c.args.self.now in
    let new = c.open.new.self in
    marked (input_leaf old.core old.edit) (input_leaf new.core new.edit) c.args.damage.now c.mark.new.damage c.open.ensures.node c.mark.ensures.all c.mark.ensures.grown
