use Rattle.std.proofs.Common.{rules, arith, ◌≡◌, ◌≤◌, ◌==◌, ◌∙◌, true, false, length, refl, ap, sym, subst, ◌++◌, ◌∷◌, [], length-append}
use Rattle.tv_model.specs.declared.log.LogLine.TheVariants as lines
use Rattle.tv_machine.specs.Dialog.Focus.{is_free_at}
use Rattle.tv_machine.specs.Dialog.Modal.{with_line}
use Rattle.tv_group.specs.Calls.{is_free_id}
use Rattle.tv_dialog.specs.Standing.{Stands}
use Rattle.tv_group.proofs.Tree.FocusTreeLemmas.{is_free-tree, steady-line}
use Rattle.tv_dialog.proofs.StandsLemmas.{shown-busy, shown-moved, shown-same, stands-on}
use Rattle.tv_dialog.proofs.dialog.DialogOf.show_invalid.Goals as goal
use Rattle.tv_dialog.proofs.dialog.DialogOf.show_invalid.Goals.{else-ne-via-then-ne+else-is_free, else-ne-via-else-ne}

pub returns-then-is_free-clause-stands : goal.returns-then-is_free-clause-stands
returns-then-is_free-clause-stands g c d m lawful short s =
    let old = c.args.self.now in
    let n = with_line (lines.Invalid c.args.id) m in
    let first : length old.log.items ≤ 1 = omega (arith, ap length s.log) in
    let noted = stands-on g.V.View.meaning d m.leaves m n old (record old { log = c.note.new.log }) (record { head = refl; plan = refl; «open» = refl; ended = refl; ruled = refl; marks = refl }) refl s
    s.tree (steady-line d lawful (lines.Invalid c.args.id) m s.steady) s.focus
    (c.note.ensures (omega (arith, first)) ∙ ap (λ l. l ++ lines.Invalid c.args.id ∷ []) s.log) in
    let apart : (c.args.id.0 == old.focus.0) ≡ false = search rules in
    let there : (c.args.id.0 == m.focus.0) ≡ false = ap (λ i. c.args.id.0 == i.0) (sym s.focus) ∙ apart in
    let free : is_free_at d m.leaves c.args.id ≡ true
    = sym (is_free-tree d lawful m.leaves m c.args.id) ∙ (ap (is_free_id c.args.id) (sym s.tree) ∙ (sym c.is_free.ensures ∙ c.if-is_free.true)) in
    subst (λ k. Stands g.V.View.meaning d k.leaves k c.move_focus.new.self) (sym (shown-moved d c.args.id n there free))
    (c.move_focus.ensures.stands d n lawful (omega (arith, length-append m.log (lines.Invalid c.args.id ∷ []))) there free noted)

pub returns-else-ne-clause-stands : goal.returns-else-ne-clause-stands
returns-else-ne-clause-stands g c d m lawful short s =
    let old = c.args.self.now in
    let n = with_line (lines.Invalid c.args.id) m in
    let first : length old.log.items ≤ 1 = omega (arith, ap length s.log) in
    let noted = stands-on g.V.View.meaning d m.leaves m n old (record old { log = c.note.new.log }) (record { head = refl; plan = refl; «open» = refl; ended = refl; ruled = refl; marks = refl }) refl s
    s.tree (steady-line d lawful (lines.Invalid c.args.id) m s.steady) s.focus
    (c.note.ensures (omega (arith, first)) ∙ ap (λ l. l ++ lines.Invalid c.args.id ∷ []) s.log) in
    elim c.else-ne.branch [
      | else-ne-via-then-ne+else-is_free w ↦
          let busy : is_free_at d m.leaves c.args.id ≡ false
          = sym (is_free-tree d lawful m.leaves m c.args.id) ∙ (ap (is_free_id c.args.id) (sym s.tree) ∙ (sym w.is_free.ensures ∙ w.if-is_free.false)) in
          subst (λ k. Stands g.V.View.meaning d k.leaves k (record old { log = c.note.new.log })) (sym (shown-busy d c.args.id n busy)) noted
      | else-ne-via-else-ne w ↦
          let same : (c.args.id.0 == old.focus.0) ≡ true = search rules in
          let here : (c.args.id.0 == m.focus.0) ≡ true = ap (λ i. c.args.id.0 == i.0) (sym s.focus) ∙ same in
          subst (λ k. Stands g.V.View.meaning d k.leaves k (record old { log = c.note.new.log })) (sym (shown-same d c.args.id n here)) noted
    ]
