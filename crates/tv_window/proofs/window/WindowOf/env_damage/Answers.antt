use Rattle.std.proofs.Common.{subst}
use Rattle.tv_view.specs.Damage.{AllEnvDamages}
use Rattle.tv_group.specs.Opened.{group_bounds, opened}
use Rattle.tv_window.proofs.EnvDamageLemmas.{views-told, whole-told}
use Rattle.tv_window.proofs.window.WindowOf.env_damage.Goals as goal

pub returns-then-looks_same : goal.returns-then-looks_same
returns-then-looks_same g c =
    let look = g.V.View.meaning in
    let window = c.args.self.now in
    let same = c.looks_same.ensures c.if-looks_same.true in
    let told = subst (λ damage. AllEnvDamages (group_bounds window.body) c.args.old.now c.args.new.now (opened look window.body) damage c.env_damage.new.damage)
    c.new-inner.ensures c.env_damage.ensures in
    views-told look c.args.old.now c.args.new.now window c.args.damage.now c.add_within.new.self c.bounds.result c.bounds.ensures.is c.add_within.ensures.grown
    same.0 same.1 c.env_damage.new.damage told c.add_within.ensures.added

pub returns-else-looks_same : goal.returns-else-looks_same
returns-else-looks_same g c =
    let bounds = c.bounds-else-looks_same in
    whole-told g.V.View.meaning c.args.old.now c.args.new.now c.args.self.now c.args.damage.now c.add.new.self bounds.result bounds.ensures.is c.add.ensures.grown c.add.ensures.added
