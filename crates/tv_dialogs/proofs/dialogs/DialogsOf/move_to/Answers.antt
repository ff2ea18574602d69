use Rattle.std.proofs.Common.{◌≡◌, ◌⊎◌, ◌∙◌, ap, length, refl, slice_get, slice_set, subst}
use Rattle.std.proofs.lemmas.Bool.{false≢true}
use Rattle.std.proofs.lemmas.Option.{slice_get_read, slice_get_within}
use Rattle.tv_cells.specs.Damage.{AddsAll}
use Rattle.tv_dialog.specs.Bounds.{moved_dialog_rects}
use Rattle.tv_dialogs.specs.declared.kept.Kept.{Kept}
use Rattle.tv_dialogs.proofs.DamageLemmas.{moved-alike}
use Rattle.tv_dialogs.proofs.LineLemmas.{same-lines}
use Rattle.tv_dialogs.proofs.MovedLemmas.{moved-dialogs, moved_kept}
use Rattle.tv_dialogs.proofs.PlaceLemmas.{get-set-same}
use Rattle.tv_dialogs.proofs.PlacedLemmas.{place-kept, place-of, read-kept}
use Rattle.tv_dialogs.proofs.dialogs.DialogsOf.move_to.Goals as goal

pub returns-in-Some-get_mut-clause-dialogs : goal.returns-in-Some-get_mut-clause-dialogs
returns-in-Some-get_mut-clause-dialogs g c d s o are is =
    let look = g.V.View.meaning in
    let old = c.args.self.now in
    let items = old.kept.items in
    let kept = c.in-Some-get_mut.kept.now in
    let after : Kept g.row.V.Denot = record { dialog = c.move_to.new.self; values = kept.values } in
    let at = place-of look d s old are c.in-Some.place c.in-Some.is o is in
    let same = read-kept look d s old are c.in-Some.place c.in-Some.is o is kept c.in-Some-get_mut.ensures.value in
    moved-dialogs look d s old _ are o is c.args.corner c.requires.corner
    (ap (λ n. slice_set items n after) at
    ∙ ap (λ x. slice_set items o.place (record kept { dialog = x })) c.move_to.ensures.moved
    ∙ ap (λ k. slice_set items o.place (moved_kept k c.args.corner)) same)
    refl refl refl

pub returns-in-Some-get_mut-clause-damage : goal.returns-in-Some-get_mut-clause-damage
returns-in-Some-get_mut-clause-damage g c d s o run is =
    let look = g.V.View.meaning in
    let old = c.args.self.now in
    let items = old.kept.items in
    let kept = c.in-Some-get_mut.kept.now in
    let among = run.are.at o is in
    let after : Kept g.row.V.Denot = record { dialog = c.move_to.new.self; values = kept.values } in
    let at = place-of look d s old run.are c.in-Some.place c.in-Some.is o is in
    let same = read-kept look d s old run.are c.in-Some.place c.in-Some.is o is kept c.in-Some-get_mut.ensures.value in
    moved-alike look d run.sound s old _ run.are o is c.args.corner (returns-in-Some-get_mut-clause-dialogs g c d s o run.are is) c.args.damage.now c.move_to.new.damage after
    (ap (λ n. slice_get (slice_set items n after) o.place) at ∙ get-set-same items o.place after (slice_get_within items o.place among.kept among.found))
    (subst (λ k. (k.dialog.corner ≡ c.args.corner) ⊎ AddsAll (moved_dialog_rects k.dialog after.dialog) c.args.damage.now c.move_to.new.damage) same c.move_to.ensures.damaged)

pub returns-in-Some-get_mut-clause-unmoved : goal.returns-in-Some-get_mut-clause-unmoved
returns-in-Some-get_mut-clause-unmoved g c d s o are is stays =
    let same = read-kept g.V.View.meaning d s c.args.self.now are c.in-Some.place c.in-Some.is o is c.in-Some-get_mut.kept.now c.in-Some-get_mut.ensures.value in
    c.move_to.ensures.unmoved (ap (λ k. k.dialog.corner) same ∙ (are.at o is).corner ∙ stays)

pub returns-in-Some-get_mut-clause-log : goal.returns-in-Some-get_mut-clause-log
returns-in-Some-get_mut-clause-log g c =
    let old = c.args.self.now in
    let items = old.kept.items in
    let kept = c.in-Some-get_mut.kept.now in
    let read = c.in-Some-get_mut.ensures in
    let found = slice_get_read items (length items) c.in-Some.place kept refl read.item.3.0 read.value in
    same-lines items c.in-Some.place kept (record { dialog = c.move_to.new.self; values = kept.values }) found (ap (λ x. x.log.items) c.move_to.ensures.moved) old.last

-- a dialog is kept at the place of the open one
pub returns-in_default-get_mut-clause-dialogs : goal.returns-in_default-get_mut-clause-dialogs
returns-in_default-get_mut-clause-dialogs g c d s o are is =
    absurd (false≢true (c.in_default-get_mut.ensures.item.2 (place-kept g.V.View.meaning d s c.args.self.now are c.in-Some.place c.in-Some.is)))

pub returns-in_default-get_mut-clause-damage : goal.returns-in_default-get_mut-clause-damage
returns-in_default-get_mut-clause-damage g c d s o run is =
    absurd (false≢true (c.in_default-get_mut.ensures.item.2 (place-kept g.V.View.meaning d s c.args.self.now run.are c.in-Some.place c.in-Some.is)))
