use Rattle.std.proofs.Common.{◌≡◌, ◌∙◌, Some, ap, get_or, length, option_copied, position, refl, subst, sym}
use Rattle.std.proofs.lemmas.List.Quantifiers.{position-Some}
use Rattle.std.proofs.lemmas.Option.{slice_get_read}
use Rattle.tv_held.proofs.LookingLemmas.{record-is}
use Rattle.tv_held.specs.Looking.{record_text}
use Rattle.tv_model.specs.Description.Heads.{is_named}
use Rattle.tv_held.proofs.looking.put_record.Goals as goal

pub returns-in-Some-Some : goal.returns-in-Some-Some
returns-in-Some-Some g c = λ s runs.
    let d = c.desc-desc.result.now in
    let given = c.in-Ok.name.now in
    let place = c.in-Some-Some.place in
    let dialog = c.index-as_slice-place.result in
    let entries = c.in-Some-Some.record.now in
    let first : position (is_named given) d.dialogs ≡ Some place = sym c.dialog_place.ensures ∙ c.in-Some-Some.is-1 in
    let within = (position-Some (is_named given) d.dialogs place dialog first).0 in
    let there = slice_get_read d.dialogs (length d.dialogs) place dialog refl within
    (subst (λ ds. dialog ≡ get_or ds place dialog) c.as_slice.ensures c.index-as_slice-place.is) in
    let named = sym (c.record.ensures s runs) ∙ ap option_copied c.in-Some-Some.is-0 in (
      record_text d dialog.views entries,
      record-is s d (c.desc-desc.ensures s runs) given c.args.name.now (c.in-Ok.ensures {u = tt}).cases.0 place dialog entries first there named,
      rw (← c.as_slice-in-Some-Some.ensures) c.put_views.ensures,
    )
