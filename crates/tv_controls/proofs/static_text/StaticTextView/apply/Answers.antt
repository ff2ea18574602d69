use Rattle.std.proofs.Common.{ap}
use Rattle.tv_controls.proofs.MarkedLemmas.{marked}
use Rattle.tv_controls.specs.StaticText.{TextState, text_leaf}
use Rattle.tv_controls.proofs.static_text.StaticTextView.apply.Goals as goal

pub returns-then-self-was_shown-clause-damage : goal.returns-then-self-was_shown-clause-damage
returns-then-self-was_shown-clause-damage c =
    let node = ap (λ (s : TextState). (text_leaf s).node) c.self.view_is in
    marked (text_leaf c.args.self.now) _ c.args.damage.now c.add.new.self node
    (rw c.bounds.ensures.is at c.add.ensures.added) (rw c.bounds.ensures.is at c.add.ensures.grown)
