use Rattle.std.proofs.Common.{◌≡◌, false, refl, rules}
use Rattle.tv_view.specs.Core.{leaf_with}
use Rattle.tv_view.proofs.DamageLemmas.{env-hidden, env-own, env-same}
use Rattle.tv_view.proofs.leaf_core.LeafCore.link_damage.Goals as goal

pub returns-then-is_told_same : goal.returns-then-is_told_same
returns-then-is_told_same c content =
    let told = c.is_told_same.ensures.0 c.if-is_told_same.true in
    let link = c.requires c.if-is_link_same.true in
    env-same c.args.old.now c.args.new.now (leaf_with c.args.self.now content) c.args.damage.now (record { owner = told.0; chain = told.1; look = rw (told.2, told.3, link) refl })

pub returns-then-self : goal.returns-then-self
returns-then-self c content = env-own c.args.old.now c.args.new.now (leaf_with c.args.self.now content) c.args.damage.now c.mark.new.damage c.mark.ensures.all c.mark.ensures.grown

pub returns-else-self : goal.returns-else-self
returns-else-self c content =
    let hidden : c.args.self.now.is_shown ≡ false = search rules in
    env-hidden c.args.old.now c.args.new.now (leaf_with c.args.self.now content) c.args.damage.now hidden
