use Rattle.tv_view.proofs.DamageLemmas.{env-own}
use Rattle.tv_controls.specs.StaticText.{text_leaf}
use Rattle.tv_controls.proofs.static_text.StaticTextView.env_damage.Goals as goal

pub returns-then-not-has_same_colours : goal.returns-then-not-has_same_colours
returns-then-not-has_same_colours c =
    env-own c.args.old.now c.args.new.now (text_leaf c.args.self.now) c.args.damage.now c.add.new.self
    (rw c.bounds.ensures.is at c.add.ensures.added) (rw c.bounds.ensures.is at c.add.ensures.grown)
