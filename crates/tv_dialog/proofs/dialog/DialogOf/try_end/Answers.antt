use Rattle.std.proofs.Common.{◌≡◌, ◌∙◌, Some, None, ap, subst}
use Rattle.tv_machine.specs.Dialog.Ending.{end_by, first_invalid}
use Rattle.tv_group.specs.Calls.{first_invalid_in}
use Rattle.tv_dialog.specs.Standing.{Stands}
use Rattle.tv_group.proofs.Tree.EndingLemmas.{first_invalid-tree}
use Rattle.tv_dialog.proofs.dialog.DialogOf.try_end.Goals as goal

pub returns-in-Some-clause-stands : goal.returns-in-Some-clause-stands
returns-in-Some-clause-stands g c d m lawful short s =
    let found : Some c.in-Some.id ≡ first_invalid d m = c.in-Some.ensures ∙ (ap first_invalid_in s.tree ∙ first_invalid-tree d m.leaves m) in
    subst (λ o. Stands g.V.View.meaning d (end_by d c.args.command.0 o m).leaves (end_by d c.args.command.0 o m) c.show_invalid.new.self) found
    (c.show_invalid.ensures.stands d m lawful short s)

pub returns-in-None-clause-stands : goal.returns-in-None-clause-stands
returns-in-None-clause-stands g c d m lawful short s =
    let found : None ≡ first_invalid d m = c.in-None.ensures ∙ (ap first_invalid_in s.tree ∙ first_invalid-tree d m.leaves m) in
    subst (λ o. Stands g.V.View.meaning d (end_by d c.args.command.0 o m).leaves (end_by d c.args.command.0 o m) c.end.new.self) found
    (c.end.ensures.stands d m lawful short s)
