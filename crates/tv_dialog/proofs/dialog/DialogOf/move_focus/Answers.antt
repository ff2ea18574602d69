use Rattle.std.proofs.Common.{arith, ◌<◌, length, refl, ap}
use Rattle.tv_dialog.proofs.StandsLemmas.{stands-moved}
use Rattle.tv_dialog.proofs.dialog.DialogOf.move_focus.Goals as goal

pub returns-clause-stands : goal.returns-clause-stands
returns-clause-stands g c d m lawful short elsewhere free s =
    let room : length c.args.self.now.log.items < 66 = omega (arith, ap length s.log) in
    stands-moved g.V.View.meaning d lawful m c.args.id c.args.self.now _ (record { head = refl; plan = refl; «open» = refl; ended = refl; ruled = refl; marks = refl }) s elsewhere free
    c.focus_to.ensures.leaves refl (c.note.ensures room)
