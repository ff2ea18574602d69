use Rattle.std.proofs.Common.{All, sym, ap, subst, ◌∙◌}
use Rattle.std.specs.List.{AllZip}
use Rattle.tv_faults.proofs.SoundLemmas.{sound_says}
use Rattle.tv_model.specs.declared.desc.Desc.{Desc}
use Rattle.tv_session.specs.Freshness.{IsFreshBodyFor, IsFreshFor}
use Rattle.tv_app.specs.Buildable.{IsBuildableDialog, IsBuildableWindow}
use Rattle.tv_app.proofs.BuildableLemmas.{dialogs_buildable, windows_buildable}
use Rattle.tv_app.proofs.DeclaredLemmas.{none_mismatches}
use Rattle.tv_app.proofs.making.views_by.Goals as goal

pub windows_of-requires-clause-windows : goal.windows_of-requires-clause-windows
windows_of-requires-clause-windows g c =
    let d = c.desc-desc.result.now in
    subst (All IsBuildableWindow) (sym c.as_slice.ensures) (windows_buildable d c.desc-desc.ensures.spelled.1.can (sound_says d c.desc-desc.ensures.sound))

pub bodies_of-requires-clause-dialogs : goal.bodies_of-requires-clause-dialogs
bodies_of-requires-clause-dialogs g c =
    let d = c.desc-desc.result.now in
    subst (All IsBuildableDialog) (sym c.as_slice-2.ensures) (dialogs_buildable d c.desc-desc.ensures.spelled.1.can (sound_says d c.desc-desc.ensures.sound))

pub returns-clause-accepted : goal.returns-clause-accepted
returns-clause-accepted g c =
    none_mismatches g.V.View.meaning c.args.checked.now c.in_ok-windows.windows.items c.in_ok-bodies.bodies.items
    (record {
      windows_of =
          subst (λ ds. AllZip (IsFreshFor g.V.View.meaning) ds c.in_ok-windows.windows.items) (c.as_slice.ensures ∙ ap (λ (d : Desc). d.windows) c.desc-desc.ensures.value) c.in_ok-windows.ensures;
      bodies_of =
          subst (λ ds. AllZip (IsFreshBodyFor g.V.View.meaning) ds c.in_ok-bodies.bodies.items) (c.as_slice-2.ensures ∙ ap (λ (d : Desc). d.dialogs) c.desc-desc.ensures.value) c.in_ok-bodies.ensures;
    })
