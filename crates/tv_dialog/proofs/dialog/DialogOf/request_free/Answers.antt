use Rattle.std.proofs.Common.{rules, arith, ◌≡◌, ◌<◌, ◌∙◌, true, false, length, is_some, refl, ap, sym, ◌++◌, ◌∷◌, []}
use Rattle.tv_model.specs.declared.log.LogLine.TheVariants as lines
use Rattle.tv_machine.specs.Dialog.Focus.{Refused, Moved, is_granted, keeps_focus}
use Rattle.tv_machine.specs.Dialog.Modal.{leaf_at, with_line}
use Rattle.tv_group.specs.Calls.{refused_in}
use Rattle.tv_group.proofs.Tree.FocusTreeLemmas.{refused-tree, steady-line}
use Rattle.tv_dialog.proofs.StandsLemmas.{requested-moved, requested-refused, some-kept, stands-on, stands-requested}
use Rattle.tv_dialog.proofs.dialog.DialogOf.request_free.Goals as goal

pub returns-then-is_some-clause-stands : goal.returns-then-is_some-clause-stands
returns-then-is_some-clause-stands g c d m lawful short there free s =
    let old = c.args.self.now in
    let refuses : is_some c.refuses.result ≡ true = search rules in
    let keeps : keeps_focus m (leaf_at d m.focus) ≡ true
    = sym (some-kept (keeps_focus m (leaf_at d m.focus)) m.focus) ∙ (ap is_some (sym (c.refuses.ensures ∙ (ap refused_in s.tree ∙ refused-tree d lawful m.leaves m))) ∙ refuses) in
    let room : length old.log.items < 66 = omega (arith, ap length s.log) in
    stands-requested g.V.View.meaning d m c.args.id Refused _ (requested-refused d m c.args.id there free keeps)
    (stands-on g.V.View.meaning d m.leaves m (with_line (lines.Invalid m.focus) m) old _ (record { head = refl; plan = refl; «open» = refl; ended = refl; ruled = refl; marks = refl }) refl s
    s.tree (steady-line d lawful (lines.Invalid m.focus) m s.steady) s.focus
    (c.note.ensures room ∙ (ap (λ l. l ++ lines.Invalid old.focus ∷ []) s.log ∙ ap (λ i. m.log ++ lines.Invalid i ∷ []) s.focus)))

pub returns-then-is_some-clause-granted : goal.returns-then-is_some-clause-granted
returns-then-is_some-clause-granted g c d m lawful there free s =
    let refuses : is_some c.refuses.result ≡ true = search rules in
    let keeps : keeps_focus m (leaf_at d m.focus) ≡ true
    = sym (some-kept (keeps_focus m (leaf_at d m.focus)) m.focus) ∙ (ap is_some (sym (c.refuses.ensures ∙ (ap refused_in s.tree ∙ refused-tree d lawful m.leaves m))) ∙ refuses) in
    sym (ap is_granted (requested-refused d m c.args.id there free keeps))

pub returns-clause-stands : goal.returns-clause-stands
returns-clause-stands g c d m lawful short there free s =
    let stays : is_some c.refuses.result ≡ false = search rules in
    let lets : keeps_focus m (leaf_at d m.focus) ≡ false
    = sym (some-kept (keeps_focus m (leaf_at d m.focus)) m.focus) ∙ (ap is_some (sym (c.refuses.ensures ∙ (ap refused_in s.tree ∙ refused-tree d lawful m.leaves m))) ∙ stays) in
    stands-requested g.V.View.meaning d m c.args.id Moved _ (requested-moved d m c.args.id there free lets) (c.move_focus.ensures.stands d m lawful short there free s)

pub returns-clause-granted : goal.returns-clause-granted
returns-clause-granted g c d m lawful there free s =
    let stays : is_some c.refuses.result ≡ false = search rules in
    let lets : keeps_focus m (leaf_at d m.focus) ≡ false
    = sym (some-kept (keeps_focus m (leaf_at d m.focus)) m.focus) ∙ (ap is_some (sym (c.refuses.ensures ∙ (ap refused_in s.tree ∙ refused-tree d lawful m.leaves m))) ∙ stays) in
    sym (ap is_granted (requested-moved d m c.args.id there free lets))
