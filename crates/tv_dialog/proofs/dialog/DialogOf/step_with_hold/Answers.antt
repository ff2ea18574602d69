use Rattle.std.proofs.Common.{refl, ap}
use Rattle.tv_machine.specs.Dialog.Step.{dialog_step}
use Rattle.tv_dialog.specs.Drawn.{lent}
use Rattle.tv_dialog.specs.Stepping.{begun_anew}
use Rattle.tv_dialog.proofs.DamageLemmas.{dialog-damages}
use Rattle.tv_dialog.proofs.TurnCodeLemmas.{stands-alike}
use Rattle.tv_dialog.proofs.dialog.DialogOf.step_with_hold.Goals as goal

pub returns-clause-stands : goal.returns-clause-stands
returns-clause-stands g c d m lawful views handed leaf focus markers s =
    let look = g.V.View.meaning in
    let old = c.args.self.now in
    let begun = stands-alike look d m.leaves m old (record old { damage = c.clear.new.self }) (record { head = refl; plan = refl; «open» = refl; ended = refl; ruled = refl; marks = refl }) refl refl refl s in
    let after = dialog_step d c.args.event.now (begun_anew m) in
    stands-alike look d after.leaves after c.answer.new.self _ (record { head = refl; plan = refl; «open» = refl; ended = refl; ruled = refl; marks = refl }) refl refl refl
    (c.answer.ensures.stands d m lawful views handed leaf focus markers begun)

pub returns-clause-damage : goal.returns-clause-damage
returns-clause-damage g c =
    let old = c.args.self.now in
    let answered = c.answer.new.self in
    let done = c.answer.ensures.drawn in
    let env = c.args.env.now in
    dialog-damages g.V.View.meaning env (lent answered.plan old.focus env) (lent answered.plan answered.focus env) old _ c.clear.new.self answered.damage c.refocus_damage.new.damage c.args.damage.now c.add_within.new.self
    c.bounds.result done.head done.corner done.sheet done.body (ap (λ p. lent p old.focus env) done.plan) refl c.refocus_damage.ensures c.bounds.ensures.is c.add_within.ensures.added c.add_within.ensures.grown
