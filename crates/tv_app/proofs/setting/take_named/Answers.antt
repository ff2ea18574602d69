use Rattle.std.proofs.Common.{◌≡◌, ◌∙◌, Some, get_or, length, position, refl, subst, sym}
use Rattle.std.proofs.lemmas.List.Quantifiers.{position-Some}
use Rattle.std.proofs.lemmas.Option.{slice_get_read}
use Rattle.tv_model.specs.Description.Heads.{is_named}
use Rattle.tv_app.proofs.setting.take_named.Goals as goal

pub returns-clause-taken : goal.returns-clause-taken
returns-clause-taken c =
    let dialogs = c.args.desc.now.dialogs in
    let place = c.in-Some.place in
    let dialog = c.index-as_slice-place.result in
    let first : position (is_named c.args.name.now) dialogs ≡ Some place = sym c.dialog_place.ensures ∙ c.in-Some.is in
    let within = (position-Some (is_named c.args.name.now) dialogs place dialog first).0 in
    record {
      fits = record {
        place = place;
        first = first;
        dialog = dialog;
        there = slice_get_read dialogs (length dialogs) place dialog refl within
            (subst (λ ds. dialog ≡ get_or ds place dialog) c.as_slice.ensures c.index-as_slice-place.is);
        fits = c.in_ok-values.ensures.taken.0;
      };
      place = refl;
      order = c.in_ok-values.ensures.taken.1;
    }
