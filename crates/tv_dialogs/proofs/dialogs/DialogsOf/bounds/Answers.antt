use Rattle.std.proofs.Common.{◌∙◌, Some, ap, sym}
use Rattle.tv_cells.specs.declared.rect.Rect.{Rect}
use Rattle.tv_dialog.specs.Bounds.{dialog_bounds}
use Rattle.tv_dialogs.specs.Placing.{bounds_of_open}
use Rattle.tv_dialogs.proofs.CornerLemmas.{bounds-at}
use Rattle.tv_dialogs.proofs.CurrentLemmas.{current-none, current-some}
use Rattle.tv_dialogs.proofs.ShownLemmas.{sizes_are}
use Rattle.tv_group.specs.Shown.{open_bounds}
use Rattle.std.specs.Prelude.{option_map}
use Rattle.tv_dialogs.proofs.dialogs.DialogsOf.bounds.Goals as goal

pub returns-in-Some-clause-is : goal.returns-in-Some-clause-is
returns-in-Some-clause-is g c d s are =
    let x = current-some g.V.View.meaning d s c.args.self.now are c.in-Some.kept.now c.in-Some.ensures in
    let k = x.among.kept.dialog in
    let dialog = x.among.dialog in
    ap (λ r. Some r)
    (c.bounds.ensures.is ∙ ap (λ y. dialog_bounds y.dialog) (sym x.same) ∙ bounds-at k x.o.origin x.among.corner
    ∙ sizes_are dialog.node dialog.node.kind dialog.own_kind k.head x.among.stands.head x.o.origin)
    ∙ sym (ap (option_map (open_bounds x.o)) x.among.there) ∙ sym (ap (bounds_of_open d) x.is)

pub returns-in-None-clause-is : goal.returns-in-None-clause-is
returns-in-None-clause-is g c d s are = sym (ap (bounds_of_open d) (current-none g.V.View.meaning d s c.args.self.now are c.in-None.ensures))
