use Rattle.std.proofs.Common.{◌≡◌, ◌-◌, ◌==◌, ◌||◌, ℕ, Bool, true, false, get_or, sym, ap, ◌∙◌}
use Rattle.std.specs.Prelude.{ℤ, pos}
use Rattle.std.specs.List.{list_any}
use Rattle.std.proofs.lemmas.Bool.{eq-eqb}
use Rattle.std.proofs.lemmas.List.{take_all}
use Rattle.std.proofs.lemmas.List.Folds.{list_any_at, list_any_more}
use Rattle.tv_model.specs.Description.Numbers.{natural}
use Rattle.tv_reach.proofs.StartLemmas.{apart, mark_at}
use Rattle.tv_reach.proofs.choices.is_box_marked.Goals as goal

pub loop-start-preserved : goal.loop-start-preserved
loop-start-preserved c =
    let bit = c.args.item - 1 in
    let test : ℤ → Bool = λ start. (natural start - 1) == bit in
    let items = c.as_slice-start-items.result.now in
    let start = get_or items c.loop-start.start-index (pos 0) in
    let is : c.saturating_sub.result ≡ natural start - 1 = c.saturating_sub.ensures ∙ ap (λ (n : ℕ). n - 1) c.natural.ensures in
    let off : test start ≡ false
    = apart (natural start - 1) bit (λ e. c.if-saturating_sub.false (is ∙ e ∙ sym c.saturating_sub-in-loop-start.ensures)) in
    list_any_more test items c.loop-start.start-index (pos 0) c.loop-start-test.true ∙ ap (λ b. b || test start) c.loop-start.invariant ∙ off

pub returns-then-saturating_sub : goal.returns-then-saturating_sub
returns-then-saturating_sub c =
    let bit = c.args.item - 1 in
    let test : ℤ → Bool = λ start. (natural start - 1) == bit in
    let items = c.as_slice-start-items.result.now in
    let start = get_or items c.loop-start.start-index (pos 0) in
    let is : c.saturating_sub.result ≡ natural start - 1 = c.saturating_sub.ensures ∙ ap (λ (n : ℕ). n - 1) c.natural.ensures in
    let on : test start ≡ true
    = eq-eqb (natural start - 1) bit (sym is ∙ c.if-saturating_sub.true ∙ c.saturating_sub-in-loop-start.ensures) in
    sym
    (mark_at c.args.boxes.now.start bit ∙ ap (list_any test) (sym c.as_slice-start-items.ensures)
    ∙ list_any_at test items c.loop-start.start-index (pos 0) c.loop-start-test.true on)

pub returns : goal.returns
returns c =
    let bit = c.args.item - 1 in
    let test : ℤ → Bool = λ start. (natural start - 1) == bit in
    let items = c.as_slice-start-items.result.now in
    sym
    (mark_at c.args.boxes.now.start bit ∙ ap (list_any test) (sym c.as_slice-start-items.ensures)
    ∙ ap (list_any test) (sym (take_all c.loop-start.start-index items c.loop-start-test.false)) ∙ c.loop-start.invariant)
