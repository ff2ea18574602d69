use Rattle.std.proofs.Common.{rules, ◌≡◌, ◌==◌, ◌∙◌, true, false, ap, sym}
use Rattle.tv_machine.specs.Dialog.Focus.{NotFree, is_free_at, is_granted}
use Rattle.tv_group.specs.Calls.{is_free_id}
use Rattle.tv_group.proofs.Tree.FocusTreeLemmas.{is_free-tree}
use Rattle.tv_dialog.proofs.StandsLemmas.{requested-busy, stands-requested}
use Rattle.tv_dialog.proofs.dialog.DialogOf.request.Goals as goal

pub returns-then-not-is_free-clause-stands : goal.returns-then-not-is_free-clause-stands
returns-then-not-is_free-clause-stands g c d m lawful short s =
    let apart : (c.args.id.0 == c.args.self.now.focus.0) ≡ false = search rules in
    let there : (c.args.id.0 == m.focus.0) ≡ false = ap (λ i. c.args.id.0 == i.0) (sym s.focus) ∙ apart in
    let busy : is_free_at d m.leaves c.args.id ≡ false
    = sym (is_free-tree d lawful m.leaves m c.args.id) ∙ (ap (is_free_id c.args.id) (sym s.tree) ∙ (sym c.is_free.ensures ∙ c.if-not-is_free.true)) in
    stands-requested g.V.View.meaning d m c.args.id NotFree c.args.self.now (requested-busy d m c.args.id there busy) s

pub returns-then-not-is_free-clause-granted : goal.returns-then-not-is_free-clause-granted
returns-then-not-is_free-clause-granted g c d m lawful s =
    let apart : (c.args.id.0 == c.args.self.now.focus.0) ≡ false = search rules in
    let there : (c.args.id.0 == m.focus.0) ≡ false = ap (λ i. c.args.id.0 == i.0) (sym s.focus) ∙ apart in
    let busy : is_free_at d m.leaves c.args.id ≡ false
    = sym (is_free-tree d lawful m.leaves m c.args.id) ∙ (ap (is_free_id c.args.id) (sym s.tree) ∙ (sym c.is_free.ensures ∙ c.if-not-is_free.true)) in
    sym (ap is_granted (requested-busy d m c.args.id there busy))

pub returns-clause-stands : goal.returns-clause-stands
returns-clause-stands g c d m lawful short s =
    let apart : (c.args.id.0 == c.args.self.now.focus.0) ≡ false = search rules in
    let there : (c.args.id.0 == m.focus.0) ≡ false = ap (λ i. c.args.id.0 == i.0) (sym s.focus) ∙ apart in
    let free : is_free_at d m.leaves c.args.id ≡ true
    = sym (is_free-tree d lawful m.leaves m c.args.id) ∙ (ap (is_free_id c.args.id) (sym s.tree) ∙ (sym c.is_free.ensures ∙ c.if-not-is_free.false)) in
    c.request_free.ensures.stands d m lawful short there free s

pub returns-clause-granted : goal.returns-clause-granted
returns-clause-granted g c d m lawful s =
    let apart : (c.args.id.0 == c.args.self.now.focus.0) ≡ false = search rules in
    let there : (c.args.id.0 == m.focus.0) ≡ false = ap (λ i. c.args.id.0 == i.0) (sym s.focus) ∙ apart in
    let free : is_free_at d m.leaves c.args.id ≡ true
    = sym (is_free-tree d lawful m.leaves m c.args.id) ∙ (ap (is_free_id c.args.id) (sym s.tree) ∙ (sym c.is_free.ensures ∙ c.if-not-is_free.false)) in
    c.request_free.ensures.granted d m lawful there free s
