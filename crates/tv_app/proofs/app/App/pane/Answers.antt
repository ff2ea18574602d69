use Rattle.std.proofs.Common.{All, ap, subst, sym, ◌∙◌}
use Rattle.std.specs.Prelude.{option_copied}
use Rattle.tv_model.specs.Description.LawfulNodes.{IsLawfulNode}
use Rattle.tv_app.proofs.PaneLemmas.{found-lawful}
use Rattle.tv_app.proofs.app.App.pane.Goals as goal

pub pane_in-requires : goal.pane_in-requires
pane_in-requires c =
    let found = sym c.dialog_named.ensures ∙ ap option_copied c.in_ok-found.was in
    subst (All IsLawfulNode) (sym c.as_slice.ensures) (found-lawful c.desc.result.now c.args.dialog.now c.in_ok-found.found.now c.desc.ensures.sound found)
