use Rattle.std.proofs.Common.{rules, ◌≡◌, ◌==◌, true, ap, subst}
use Rattle.tv_machine.proofs.ListLemmas.{same-id}
use Rattle.tv_group.specs.Opened.{group_bounds, opened}
use Rattle.tv_view.specs.Damage.{AllEnvDamages}
use Rattle.tv_dialog.specs.Drawn.{lent}
use Rattle.tv_dialog.proofs.DamageLemmas.{told-none}
use Rattle.tv_dialog.proofs.step.refocus_damage.Goals as goal

pub returns-then-eq : goal.returns-then-eq
returns-then-eq g c =
    let same : (c.args.was.0 == c.args.focus.0) ≡ true = search rules in
    let plan = c.args.plan.now in
    let env = c.args.env.now in
    told-none (group_bounds c.args.body.now) (lent plan c.args.was env) (lent plan c.args.focus env) (opened g.V.View.meaning c.args.body.now) c.args.damage.now
    (ap (λ i. lent plan i env) (same-id c.args.was c.args.focus same))

pub returns : goal.returns
returns g c =
    let plan = c.args.plan.now in
    let body = c.args.body.now in
    let leaves = opened g.V.View.meaning body in
    subst (λ e. AllEnvDamages (group_bounds body) e (lent plan c.args.focus c.args.env.now) leaves c.args.damage.now c.env_damage.new.damage) c.lent-old.ensures
    (subst (λ e. AllEnvDamages (group_bounds body) c.lent-old.result e leaves c.args.damage.now c.env_damage.new.damage) c.lent-new.ensures c.env_damage.ensures)
