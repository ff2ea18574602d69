use Rattle.std.proofs.Common.{ap, ◌∙◌}
use Rattle.tv_view.specs.Core.{Core}
use Rattle.tv_controls.proofs.MarkedLemmas.{marked}
use Rattle.tv_controls.specs.InputLine.{input_leaf}
use Rattle.tv_controls.proofs.input_line.InputLineView.focus_to.Goals as goal

pub returns-then-leave-clause-damage : goal.returns-then-leave-clause-damage
returns-then-leave-clause-damage c =
    let old = c.args.self.now in
    let node = ap (λ (k : Core). k.node) c.focus_to-has_focus.ensures.core ∙ ap (λ (k : Core). k.node) c.judge.ensures.core in
    marked (input_leaf old.core old.edit) (input_leaf c.focus_to-has_focus.new.self c.leave.new.self) c.args.damage.now c.mark.new.damage node c.mark.ensures.all c.mark.ensures.grown

pub returns-then-not-had_focus-clause-damage : goal.returns-then-not-had_focus-clause-damage
returns-then-not-had_focus-clause-damage c =
    let old = c.args.self.now in
    let mark = c.mark-then-not-had_focus in
    let node = ap (λ (k : Core). k.node) c.focus_to-has_focus.ensures.core ∙ ap (λ (k : Core). k.node) c.judge.ensures.core in
    marked (input_leaf old.core old.edit) (input_leaf c.focus_to-has_focus.new.self c.enter.new.self) c.args.damage.now mark.new.damage node mark.ensures.all mark.ensures.grown
