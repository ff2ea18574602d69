use Rattle.std.proofs.Common.{◌<◌, ◌∙◌, ℕ, false, length, None, Some, ap, refl, sym, subst, slice_index_or}
use Rattle.std.proofs.lemmas.Option.{slice_get_read}
use Rattle.std.specs.Vec.{with_item}
use Rattle.tv_faces.specs.Corners.{IsCorner}
use Rattle.tv_group.specs.Calls.{FitsAll}
use Rattle.tv_group.specs.Opened.{opened}
use Rattle.tv_machine.specs.Dialog.Lawful.{IsLawfulDialog}
use Rattle.tv_machine.specs.Dialog.Modal.{Modal}
use Rattle.tv_machine.specs.Dialog.Opening.{opened_dialog as opens}
use Rattle.tv_machine.specs.Session.Commands.{open_dialog}
use Rattle.tv_model.specs.declared.desc.Dialog.{Dialog}
use Rattle.tv_dialog.specs.Fields.{in_field_order}
use Rattle.tv_dialog.specs.Resting.{Rests}
use Rattle.tv_dialog.specs.Standing.{Stands}
use Rattle.tv_dialogs.specs.declared.kept.Kept.{Kept}
use Rattle.tv_dialogs.proofs.CornerLemmas.{lawful-corner, rests-at}
use Rattle.tv_dialogs.proofs.DamageLemmas.{opened-alike}
use Rattle.tv_dialogs.proofs.OpenLemmas.{kept-found, open-fits, opened-dialogs, opened-log}
use Rattle.tv_dialogs.proofs.PlaceLemmas.{get-set-same}
use Rattle.tv_dialogs.proofs.RunLemmas.{sound-there}
use Rattle.tv_dialogs.proofs.dialogs.DialogsOf.open.Goals as goal

pub stand_at-requires : goal.stand_at-requires
stand_at-requires g c =
    let d = c.args.desc.now in
    let r = c.requires in
    let declared = c.index-as_slice-place.result in
    let reads = c.index-as_slice-place.is ∙ ap (λ ds. slice_index_or ds c.args.place declared) c.as_slice.ensures in
    let there = slice_get_read d.dialogs (length d.dialogs) c.args.place declared refl r.there reads in
    subst IsCorner (sym c.corner_of.ensures) (lawful-corner declared (sound-there g.V.View.meaning d r.state c.args.self.now r.run c.args.place declared there).lawful)

pub reopen-requires : goal.reopen-requires
reopen-requires g c =
    let look = g.V.View.meaning in
    let d = c.args.desc.now in
    let r = c.requires in
    let declared = c.index-as_slice-place.result in
    let before = c.index_mut-kept.result.now in
    let reads = c.index-as_slice-place.is ∙ ap (λ ds. slice_index_or ds c.args.place declared) c.as_slice.ensures in
    let there = slice_get_read d.dialogs (length d.dialogs) c.args.place declared refl r.there reads in
    let found = kept-found look d c.args.place c.args.self.now r before c.index_mut-kept.ensures.value in
    subst (λ values. FitsAll values (opened look c.stand_at.new.self.body)) (sym c.get.ensures)
    (subst (λ dialog. FitsAll before.values (opened look dialog.body)) (sym c.stand_at.ensures)
    (open-fits look d r.state c.args.self.now r.run c.args.place declared there before found))

pub returns-clause-dialogs : goal.returns-clause-dialogs
returns-clause-dialogs g c s run =
    let look = g.V.View.meaning in
    let d = c.args.desc.now in
    let declared = c.index-as_slice-place.result in
    let before = c.index_mut-kept.result.now in
    let reads = c.index-as_slice-place.is ∙ ap (λ ds. slice_index_or ds c.args.place declared) c.as_slice.ensures in
    let there = slice_get_read d.dialogs (length d.dialogs) c.args.place declared refl c.requires.there reads in
    let found = kept-found look d c.args.place c.args.self.now c.requires before c.index_mut-kept.ensures.value in
    let stands = λ (x : Dialog) (m : Modal) (lawful : IsLawfulDialog x) (rests : Rests look x m before.dialog).
    subst (λ values. Stands look x (opens x (Some (in_field_order x values)) m.overwriting).leaves (opens x (Some (in_field_order x values)) m.overwriting) c.reopen.new.self) c.get.ensures
    (c.reopen.ensures.stands x m lawful (subst (Rests look x m) (sym c.stand_at.ensures) (rests-at look x m before.dialog c.corner_of.result None rests))) in
    opened-dialogs look d s c.args.self.now run c.args.place declared there before found
    _ (record { dialog = c.reopen.new.self; values = before.values }) refl stands refl refl refl refl
    (c.reopen.ensures.corner ∙ ap (λ x. x.corner) c.stand_at.ensures ∙ c.corner_of.ensures)
    (c.reopen.ensures.sheet ∙ ap (λ x. x.sheet) c.stand_at.ensures)

pub returns-clause-log : goal.returns-clause-log
returns-clause-log g c s dialog run there =
    let look = g.V.View.meaning in
    let d = c.args.desc.now in
    let before = c.index_mut-kept.result.now in
    let after : Kept g.row.V.Denot = record { dialog = c.reopen.new.self; values = before.values } in
    let found = kept-found look d c.args.place c.args.self.now c.requires before c.index_mut-kept.ensures.value in
    let stands = λ (x : Dialog) (m : Modal) (lawful : IsLawfulDialog x) (rests : Rests look x m before.dialog).
    subst (λ values. Stands look x (opens x (Some (in_field_order x values)) m.overwriting).leaves (opens x (Some (in_field_order x values)) m.overwriting) c.reopen.new.self) c.get.ensures
    (c.reopen.ensures.stands x m lawful (subst (Rests look x m) (sym c.stand_at.ensures) (rests-at look x m before.dialog c.corner_of.result None rests))) in
    opened-log look d s c.args.self.now run c.args.place dialog there before found
    (record c.args.self.now {
      kept = with_item c.args.self.now.kept c.args.place after;
      «open» = Some c.args.place;
      is_held = false;
      last = Some c.args.place;
    })
    after refl stands refl

pub returns-clause-damage : goal.returns-clause-damage
returns-clause-damage g c s none run =
    let items = c.args.self.now.kept.items in
    let d = c.args.desc.now in
    let less : c.args.place < length items = subst (λ (n : ℕ). c.args.place < n) (sym c.requires.run.are.count) c.requires.there in
    let after : Kept g.row.V.Denot = record { dialog = c.reopen.new.self; values = c.index_mut-kept.result.now.values } in
    opened-alike g.V.View.meaning d run.sound s (open_dialog d c.args.place s) c.args.self.now _ run.are (returns-clause-dialogs g c s run) c.mark.new.damage none c.args.place after
    (get-set-same items c.args.place after less) refl c.mark.ensures.shadowed
