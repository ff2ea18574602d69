use Rattle.std.proofs.Common.{◌∙◌, Some, ap, length, refl, slice_get, slice_set, subst}
use Rattle.std.proofs.lemmas.Bool.{false≢true}
use Rattle.std.proofs.lemmas.Option.{slice_get_read, slice_get_within}
use Rattle.tv_cells.specs.Damage.{HasAll}
use Rattle.tv_dialog.specs.Bounds.{dialog_bounds}
use Rattle.tv_dialogs.specs.declared.kept.Kept.{Kept}
use Rattle.tv_dialogs.proofs.LaidLemmas.{laid-alike, laid-dialogs, laid_kept}
use Rattle.tv_dialogs.proofs.LineLemmas.{same-lines}
use Rattle.tv_dialogs.proofs.PlaceLemmas.{get-set-same}
use Rattle.tv_dialogs.proofs.PlacedLemmas.{place-kept, place-of, read-kept}
use Rattle.tv_dialogs.proofs.dialogs.DialogsOf.lay.Goals as goal

pub returns-in-Some-get_mut-clause-dialogs : goal.returns-in-Some-get_mut-clause-dialogs
returns-in-Some-get_mut-clause-dialogs g c d s o are is =
    let look = g.V.View.meaning in
    let old = c.args.self.now in
    let items = old.kept.items in
    let kept = c.in-Some-get_mut.kept.now in
    let after : Kept g.row.V.Denot = record { dialog = c.lay_sheet.new.self; values = kept.values } in
    let at = place-of look d s old are c.in-Some.place c.in-Some.is o is in
    let same = read-kept look d s old are c.in-Some.place c.in-Some.is o is kept c.in-Some-get_mut.ensures.value in
    laid-dialogs look d s old _ are o is c.args.sheet
    (ap (λ n. slice_set items n after) at
    ∙ ap (λ x. slice_set items o.place (record kept { dialog = x })) c.lay_sheet.ensures.laid
    ∙ ap (λ k. slice_set items o.place (laid_kept k c.args.sheet)) same)
    refl refl refl

pub returns-in-Some-get_mut-clause-damage : goal.returns-in-Some-get_mut-clause-damage
returns-in-Some-get_mut-clause-damage g c d s o run is =
    let look = g.V.View.meaning in
    let old = c.args.self.now in
    let items = old.kept.items in
    let kept = c.in-Some-get_mut.kept.now in
    let among = run.are.at o is in
    let after : Kept g.row.V.Denot = record { dialog = c.lay_sheet.new.self; values = kept.values } in
    let at = place-of look d s old run.are c.in-Some.place c.in-Some.is o is in
    let same = read-kept look d s old run.are c.in-Some.place c.in-Some.is o is kept c.in-Some-get_mut.ensures.value in
    let found = ap (λ n. slice_get (slice_set items n after) o.place) at ∙ get-set-same items o.place after (slice_get_within items o.place among.kept among.found) in
    laid-alike look d s old _ run.are o is c.args.sheet run.sound (returns-in-Some-get_mut-clause-dialogs g c d s o run.are is) c.lay_sheet.new.damage
    (found ∙ ap (λ x. Some (record kept { dialog = x })) c.lay_sheet.ensures.laid ∙ ap (λ k. Some (laid_kept k c.args.sheet)) same)
    (subst (λ k. HasAll (dialog_bounds k.dialog) c.lay_sheet.new.damage) same c.lay_sheet.ensures.all)

pub returns-in-Some-get_mut-clause-log : goal.returns-in-Some-get_mut-clause-log
returns-in-Some-get_mut-clause-log g c =
    let old = c.args.self.now in
    let items = old.kept.items in
    let kept = c.in-Some-get_mut.kept.now in
    let read = c.in-Some-get_mut.ensures in
    let found = slice_get_read items (length items) c.in-Some.place kept refl read.item.3.0 read.value in
    same-lines items c.in-Some.place kept (record { dialog = c.lay_sheet.new.self; values = kept.values }) found (ap (λ x. x.log.items) c.lay_sheet.ensures.laid) old.last

-- a dialog is kept at the place of the open one
pub returns-in_default-get_mut-clause-dialogs : goal.returns-in_default-get_mut-clause-dialogs
returns-in_default-get_mut-clause-dialogs g c d s o are is =
    absurd (false≢true (c.in_default-get_mut.ensures.item.2 (place-kept g.V.View.meaning d s c.args.self.now are c.in-Some.place c.in-Some.is)))

pub returns-in_default-get_mut-clause-damage : goal.returns-in_default-get_mut-clause-damage
returns-in_default-get_mut-clause-damage g c d s o run is =
    absurd (false≢true (c.in_default-get_mut.ensures.item.2 (place-kept g.V.View.meaning d s c.args.self.now run.are c.in-Some.place c.in-Some.is)))
