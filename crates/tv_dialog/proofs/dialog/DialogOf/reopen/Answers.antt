use Rattle.std.proofs.Common.{arith, ◌≡◌, ◌∙◌, Some, None, refl, ap, sym, subst}
use Rattle.tv_machine.specs.Dialog.Modal.{Modal}
use Rattle.tv_machine.specs.Dialog.Opening.{unfocused}
use Rattle.tv_group.specs.Calls.{first_in}
use Rattle.tv_group.specs.declared.focus.Dir.TheVariants.{Forward}
use Rattle.tv_dialog.specs.Fields.{in_field_order}
use Rattle.tv_dialog.specs.Standing.{Stands}
use Rattle.tv_group.specs.Tree.{tree_of}
use Rattle.tv_dialog.proofs.ReopenLemmas.{found-free, found-opened, found-other, none-absurd, rests-set}
use Rattle.tv_dialog.proofs.StandsLemmas.{head-parts}
use Rattle.tv_dialog.proofs.dialog.DialogOf.reopen.Goals as goal

pub returns-in-Some-clause-stands : goal.returns-in-Some-clause-stands
returns-in-Some-clause-stands g c d m lawful s =
    let look = g.V.View.meaning in
    let saved = Some (in_field_order d c.args.values.now) in
    let shut : Modal = unfocused d saved m.overwriting in
    let own = c.id-self.ensures ∙ (head-parts d c.args.self.now.head s.head).1 in
    let rules : Stands look d shut.leaves shut c.apply_rules.new.self = c.apply_rules.ensures.anew d shut lawful refl
    (rests-set look d lawful m c.args.values.now c.args.self.now _ s c.requires refl refl refl c.set.ensures.leaves)
    own c.clear.ensures refl refl in
    let found : Some c.in-Some.id ≡ first_in Forward (tree_of d shut) = c.in-Some.ensures ∙ ap (first_in Forward) rules.tree in
    let other = found-other d lawful saved m.overwriting c.in-Some.id found in
    let free = found-free d lawful saved m.overwriting c.in-Some.id found in
    subst (λ n. Stands look d n.leaves n c.move_focus.new.self) (found-opened d lawful saved m.overwriting c.in-Some.id found)
    (c.move_focus.ensures.stands d shut lawful (omega arith) other free rules)

pub returns-in_default-clause-stands : goal.returns-in_default-clause-stands
returns-in_default-clause-stands g c d m lawful s =
    let look = g.V.View.meaning in
    let saved = Some (in_field_order d c.args.values.now) in
    let shut : Modal = unfocused d saved m.overwriting in
    let own = c.id-self.ensures ∙ (head-parts d c.args.self.now.head s.head).1 in
    let rules : Stands look d shut.leaves shut c.apply_rules.new.self = c.apply_rules.ensures.anew d shut lawful refl
    (rests-set look d lawful m c.args.values.now c.args.self.now _ s c.requires refl refl refl c.set.ensures.leaves)
    own c.clear.ensures refl refl in
    let nothing : None ≡ first_in Forward (tree_of d shut) = sym c.in_default.is ∙ (c.first.ensures ∙ ap (first_in Forward) rules.tree) in
    absurd (none-absurd d lawful saved m.overwriting nothing)
