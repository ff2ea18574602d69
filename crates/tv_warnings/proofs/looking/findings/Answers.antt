use Rattle.std.proofs.Common.{◌≡◌, ◌∙◌, ◌++◌, List, Some, ap, map, slice_get, subst, sym}
use Rattle.std.specs.List.{AllZip}
use Rattle.std.proofs.lemmas.List.{take_all}
use Rattle.std.proofs.lemmas.Option.{slice_get-get_or}
use Rattle.tv_model.specs.declared.desc.Dialog.{Dialog}
use Rattle.tv_warnings.specs.Findings.{IsFoundIn}
use Rattle.tv_warnings.proofs.FoundLemmas.{found_more}
use Rattle.tv_warnings.proofs.looking.findings.Goals as goal

pub loop-place-preserved : goal.loop-place-preserved
loop-place-preserved c =
    let d = c.args.desc.now in
    let dialogs = c.as_slice-dialog-items.result.now in
    let place = c.loop-place.place in
    let dialog = c.dialog-item.result in
    let here : slice_get dialogs place ≡ Some dialog = slice_get-get_or dialogs place dialog c.loop-place-test.true ∙ ap (λ x. Some x) (sym c.dialog-item.is) in
    let there : slice_get d.dialogs place ≡ Some dialog
    = subst (λ (ds : List Dialog). slice_get ds place ≡ Some dialog) c.as_slice-dialog-items.ensures here in
    found_more (IsFoundIn d) dialogs place dialog c.loop-place.found.items c.append.new.self.items c.in_ok-more.more.items c.loop-place-test.true c.dialog-item.is
    c.loop-place.invariant c.in_ok-append.ensures.items (place, there, c.in_ok-more.ensures)
