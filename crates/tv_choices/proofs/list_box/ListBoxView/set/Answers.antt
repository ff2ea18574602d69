use Rattle.std.proofs.Common.{◌≡◌, ap}
use Rattle.tv_choices.proofs.list_box.ListBoxView.set.Goals as goal
use Rattle.tv_choices.specs.Choices.{list_leaf}
use Rattle.tv_view.specs.Core.{Core}
use Rattle.tv_view.proofs.DamageLemmas.{damages-own}

pub returns-in-Some-Item-clause-damage : goal.returns-in-Some-Item-clause-damage
returns-in-Some-Item-clause-damage c =
    let s = c.args.self.now in
    let node : c.reset.new.self.node ≡ s.core.node = ap (λ (k : Core). k.node) c.reset.ensures in
    damages-own (list_leaf s.core s.chosen) (list_leaf c.reset.new.self c.opened-self.result) c.args.damage.now c.mark.new.damage node
    (rw node at c.mark.ensures.all) (rw node at c.mark.ensures.grown)
