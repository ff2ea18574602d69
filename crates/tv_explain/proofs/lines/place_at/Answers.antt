use Rattle.std.proofs.Common.{◌≡◌, None, Some, ap, subst, sym, ◌==◌, ◌∙◌}
use Rattle.std.specs.Prelude.{is_some, position}
use Rattle.std.proofs.lemmas.Bool.{ltb-false, ltb-true}
use Rattle.tv_explain.proofs.LineLemmas.{placed, unplaced_other, unplaced_past}
use Rattle.tv_explain.proofs.lines.place_at.Goals as goal

pub returns-in-Some : goal.returns-in-Some
returns-in-Some g c =
    let number = g.L.Line.number in
    let line = c.args.line in
    let found = c.in-Some.ensures.lookup in
    subst (λ items. Some c.first_from-at.result ≡ position (λ item. number item == line) items) c.items.view_is
    (placed number line c.first_from-at.result c.items.inside.items.now c.in-Some.item.now c.first_from-at.ensures.parted
    (ltb-true _ _ (sym found.0)) found.1 (sym c.number.ensures ∙ c.if-number-line.true))

pub returns-in_default : goal.returns-in_default
returns-in_default g c =
    let number = g.L.Line.number in
    let line = c.args.line in
    subst (λ items. None ≡ position (λ item. number item == line) items) c.items.view_is
    (unplaced_other number line c.first_from-at.result c.items.inside.items.now c.in-Some.item.now (c.items.invariant c.if-not-items.false) c.first_from-at.ensures.parted
    c.in-Some.ensures.lookup.1 (λ on. c.if-number-line.false (c.number.ensures ∙ on)))

pub returns-in_default-2 : goal.returns-in_default-2
returns-in_default-2 g c =
    let number = g.L.Line.number in
    let line = c.args.line in
    subst (λ items. None ≡ position (λ item. number item == line) items) c.items.view_is
    (unplaced_past number line c.first_from-at.result c.items.inside.items.now (c.items.invariant c.if-not-items.false) c.first_from-at.ensures.parted
    (ltb-false _ _ (sym c.get.ensures.lookup.0 ∙ ap is_some c.in_default.is)))
