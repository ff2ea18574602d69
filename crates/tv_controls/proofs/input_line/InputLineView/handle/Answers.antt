use Rattle.tv_controls.proofs.MarkedLemmas.{marked}
use Rattle.tv_controls.specs.InputLine.{input_leaf}
use Rattle.tv_controls.proofs.input_line.InputLineView.handle.Goals as goal

pub returns-then-ne-clause-damage : goal.returns-then-ne-clause-damage
returns-then-ne-clause-damage c =
    let old = c.args.self.now in
    let new = c.react-reaction.new.self in
    marked (input_leaf old.core old.edit) (input_leaf new.core new.edit) c.args.damage.now c.mark.new.damage c.react-reaction.ensures.node c.mark.ensures.all c.mark.ensures.grown
