use Rattle.std.proofs.Common.{◌≡◌, ◌∙◌, List, Some, ap, refl, slice_get, subst, sym}
use Rattle.std.specs.List.{AllZip}
use Rattle.std.proofs.lemmas.List.{take_all}
use Rattle.std.proofs.lemmas.Option.{slice_get-get_or}
use Rattle.tv_app.proofs.DeclaredLemmas.{zip_more}
use Rattle.tv_model.specs.declared.desc.Dialog.{Dialog}
use Rattle.tv_ways.specs.Asking.{AreWaysOf}
use Rattle.tv_ways.proofs.asking.all_ways.Goals as goal

pub loop-place-preserved : goal.loop-place-preserved
loop-place-preserved c =
    let d = c.args.desc.now in
    let dialogs = c.as_slice-dialog-items.result.now in
    let place = c.loop-place.place in
    let dialog = c.dialog-item.result in
    let here : slice_get dialogs place ≡ Some dialog = slice_get-get_or dialogs place dialog c.loop-place-test.true ∙ ap (λ x. Some x) (sym c.dialog-item.is) in
    let there : slice_get d.dialogs place ≡ Some dialog
    = subst (λ (ds : List Dialog). slice_get ds place ≡ Some dialog) c.as_slice-dialog-items.ensures here in
    zip_more (AreWaysOf d) dialogs place dialog c.loop-place.all.items c.push.new.self.items _ c.loop-place-test.true c.dialog-item.is
    c.loop-place.invariant c.in_ok-push.ensures.items (record { id = refl; place = place; there = there; ways = c.in_ok-ways.ensures })

pub returns : goal.returns
returns c =
    subst (λ (ds : List Dialog). AllZip (AreWaysOf c.args.desc.now) ds c.loop-place.all.items)
    (take_all c.loop-place.place c.as_slice-dialog-items.result.now c.loop-place-test.false ∙ c.as_slice-dialog-items.ensures) c.loop-place.invariant
