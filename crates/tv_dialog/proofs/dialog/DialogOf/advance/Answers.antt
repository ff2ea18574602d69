use Rattle.std.proofs.Common.{rules, ◌≡◌, ◌==◌, ◌∙◌, true, false, Some, None, ap, sym, subst}
use Rattle.std.specs.Prelude.{unwrap_or}
use Rattle.std.specs.Option.{option_or}
use Rattle.tv_machine.specs.Dialog.Focus.{Same, is_free_at, request}
use Rattle.tv_group.specs.Calls.{first_in, next_in}
use Rattle.tv_dialog.specs.Standing.{Stands, stop_in}
use Rattle.tv_group.specs.Tree.{tree_of}
use Rattle.tv_machine.proofs.ListLemmas.{id-itself}
use Rattle.tv_group.proofs.Tree.FocusTreeLemmas.{is_free-tree}
use Rattle.tv_dialog.proofs.StandsLemmas.{requested-same, stands-requested, stop-tree}
use Rattle.tv_dialog.proofs.StopLemmas.{stop-free}
use Rattle.tv_dialog.proofs.dialog.DialogOf.advance.Goals as goal

pub returns-then-ne-clause-stands : goal.returns-then-ne-clause-stands
returns-then-ne-clause-stands g c d m lawful short s =
    let i = c.in-Some.id in
    let found : Some i ≡ option_or (next_in c.args.dir (tree_of d m)) (first_in c.args.dir (tree_of d m))
    = c.in-Some.ensures ∙ ap (λ xs. option_or (next_in c.args.dir xs) (first_in c.args.dir xs)) s.tree in
    let at : i ≡ stop_in d m c.args.dir = ap (λ o. unwrap_or o m.focus) found ∙ stop-tree d lawful m c.args.dir in
    let apart : (i.0 == c.args.self.now.focus.0) ≡ false = search rules in
    let there : (i.0 == m.focus.0) ≡ false = ap (λ j. i.0 == j.0) (sym s.focus) ∙ apart in
    let free : is_free_at d m.leaves i ≡ true = sym (is_free-tree d lawful m.leaves m i) ∙ stop-free i c.args.dir (tree_of d m) found in
    subst (λ j. Stands g.V.View.meaning d (request d j m).leaves (request d j m) c.request_free.new.self) at
    (c.request_free.ensures.stands d m lawful short there free s)

pub returns-else-ne-clause-stands : goal.returns-else-ne-clause-stands
returns-else-ne-clause-stands g c d m lawful short s =
    let i = c.in-Some.id in
    let found : Some i ≡ option_or (next_in c.args.dir (tree_of d m)) (first_in c.args.dir (tree_of d m))
    = c.in-Some.ensures ∙ ap (λ xs. option_or (next_in c.args.dir xs) (first_in c.args.dir xs)) s.tree in
    let at : i ≡ stop_in d m c.args.dir = ap (λ o. unwrap_or o m.focus) found ∙ stop-tree d lawful m c.args.dir in
    let same : (i.0 == c.args.self.now.focus.0) ≡ true = search rules in
    let here : (i.0 == m.focus.0) ≡ true = ap (λ j. i.0 == j.0) (sym s.focus) ∙ same in
    subst (λ j. Stands g.V.View.meaning d (request d j m).leaves (request d j m) c.args.self.now) at
    (stands-requested g.V.View.meaning d m i Same c.args.self.now (requested-same d m i here) s)

pub returns-in_default-clause-stands : goal.returns-in_default-clause-stands
returns-in_default-clause-stands g c d m lawful short s =
    let found : None ≡ option_or (next_in c.args.dir (tree_of d m)) (first_in c.args.dir (tree_of d m))
    = sym c.in_default.is ∙ (c.next_stop.ensures ∙ ap (λ xs. option_or (next_in c.args.dir xs) (first_in c.args.dir xs)) s.tree) in
    let at : m.focus ≡ stop_in d m c.args.dir = ap (λ o. unwrap_or o m.focus) found ∙ stop-tree d lawful m c.args.dir in
    subst (λ i. Stands g.V.View.meaning d (request d i m).leaves (request d i m) c.args.self.now) at
    (stands-requested g.V.View.meaning d m m.focus Same c.args.self.now (requested-same d m m.focus (id-itself m.focus)) s)
