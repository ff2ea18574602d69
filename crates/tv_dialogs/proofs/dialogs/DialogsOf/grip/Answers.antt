use Rattle.std.proofs.Common.{arith, ◌∙◌, ap}
use Rattle.std.proofs.lemmas.Int.{ints}
use Rattle.std.specs.Bool.{then_some}
use Rattle.tv_dialogs.proofs.GripLemmas.{gripped}
use Rattle.tv_dialogs.proofs.dialogs.DialogsOf.grip.Goals as goal

pub returns-clause-held : goal.returns-clause-held
returns-clause-held g c d s o are is =
    let corner = c.corner-corner.result in
    let near = c.corner-corner.ensures.near.x in
    let right = c.bounds.ensures.small.right in
    c.then_some.ensures ∙ ap (λ b. then_some b corner) c.is_grip.ensures
    ∙ gripped g.V.View.meaning d s c.args.self.now are o is c.in_ok-dialog.field-0.now c.in_ok-dialog.ensures corner c.bounds.result _ c.args.point c.seen_from.result
    c.corner-corner.ensures.is c.bounds.ensures.is (omega (arith, ints, near.0, near.1, right.low, right.high)) c.seen_from.ensures
