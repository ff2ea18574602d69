use Rattle.std.proofs.Common.{◌≡◌, ap}
use Rattle.tv_view.specs.Core.{Core, leaf_with}
use Rattle.tv_view.proofs.DamageLemmas.{damages-own}
use Rattle.tv_view.proofs.leaf_core.LeafCore.apply.Goals as goal

pub returns-then-not-is_ruled_same-clause-damage : goal.returns-then-not-is_ruled_same-clause-damage
returns-then-not-is_ruled_same-clause-damage c =
    let node : c.is_ruled_same.new.self.node ≡ c.args.self.now.node = ap (λ (k : Core). k.node) c.is_ruled_same.ensures.core in
    λ content. damages-own (leaf_with c.args.self.now content) (leaf_with c.is_ruled_same.new.self content) c.args.damage.now c.mark.new.damage node
    (rw node at c.mark.ensures.all) (rw node at c.mark.ensures.grown)
