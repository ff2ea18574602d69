use Rattle.std.proofs.Common.{◌∙◌, ap, refl, subst, sym}
use Rattle.tv_palette.specs.Chain.{coloured}
use Rattle.tv_machine.specs.Dialog.Step.{dialog_step}
use Rattle.tv_machine.specs.Session.Step.{event_from}
use Rattle.tv_dialog.specs.Standing.{Stands}
use Rattle.tv_dialog.specs.Stepping.{IsHandedIn, begun_anew}
use Rattle.tv_dialogs.specs.Damage.{KeptDamages}
use Rattle.tv_dialogs.proofs.CornerLemmas.{corner-small}
use Rattle.tv_dialogs.proofs.DamageLemmas.{kept-damages}
use Rattle.tv_dialogs.proofs.DroppedLemmas.{handed-in}
use Rattle.tv_dialogs.proofs.ValueLemmas.{stands-room}
use Rattle.tv_dialogs.proofs.kept.Kept.step.Goals as goal

pub event_from-requires-clause-corner : goal.event_from-requires-clause-corner
event_from-requires-clause-corner g c = corner-small c.corner-corner.result c.corner-corner.ensures.near

pub save-requires : goal.save-requires
save-requires g c =
    let look = g.V.View.meaning in
    let d = c.args.declared.now in
    let m = c.requires.ready.0 in
    let r = c.requires.ready.1 in
    let handed = subst IsHandedIn (sym c.event_from.ensures) (handed-in c.corner-corner.result c.args.event.now (corner-small c.corner-corner.result c.corner-corner.ensures.near) c.requires.given c.requires.handed) in
    stands-room look d r.lawful _ _ c.step_with_hold.new.self (c.step_with_hold.ensures.stands d m r.lawful c.as_slice.ensures handed r.leaf r.focus r.markers r.stands)

pub returns-clause-stands : goal.returns-clause-stands
returns-clause-stands g c m r =
    let look = g.V.View.meaning in
    let d = c.args.declared.now in
    let handed = subst IsHandedIn (sym c.event_from.ensures) (handed-in c.corner-corner.result c.args.event.now (corner-small c.corner-corner.result c.corner-corner.ensures.near) c.requires.given c.requires.handed) in
    let same = c.event_from.ensures ∙ ap (λ p. event_from p c.args.event.now) c.corner-corner.ensures.is in
    let at = c.args.self.now.dialog.corner in
    subst (λ dialog. Stands look d (dialog_step d (event_from at c.args.event.now) (begun_anew m)).leaves (dialog_step d (event_from at c.args.event.now) (begun_anew m)) dialog) (sym c.save.ensures.dialog)
    (subst (λ e. Stands look d (dialog_step d e (begun_anew m)).leaves (dialog_step d e (begun_anew m)) c.step_with_hold.new.self) same
    (c.step_with_hold.ensures.stands d m r.lawful c.as_slice.ensures handed r.leaf r.focus r.markers r.stands))

pub returns-clause-damage : goal.returns-clause-damage
returns-clause-damage g c =
    let look = g.V.View.meaning in
    let d = c.args.declared.now in
    let old = c.args.self.now.dialog in
    subst (λ dialog. KeptDamages look d old dialog c.mark_if_ended.new.damage) (sym c.save.ensures.dialog)
    (kept-damages look d _ old c.step_with_hold.new.self _ _ _ c.step_with_hold.ensures.damage c.mark_if_ended.ensures.kept
    (record { views = c.as_slice.ensures; palettes = record { owner = refl; chain = ap coloured c.chain.ensures }; active = refl }))

pub returns-clause-corner : goal.returns-clause-corner
returns-clause-corner g c = ap (λ dialog. dialog.corner) c.save.ensures.dialog ∙ c.step_with_hold.ensures.corner

pub returns-clause-sheet : goal.returns-clause-sheet
returns-clause-sheet g c = ap (λ dialog. dialog.sheet) c.save.ensures.dialog ∙ c.step_with_hold.ensures.sheet
