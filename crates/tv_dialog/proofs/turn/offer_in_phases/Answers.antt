use Rattle.std.proofs.Common.{◌≡◌, ◌∙◌, true, false, ap, sym}
use Rattle.tv_event.specs.declared.event.Phase.TheVariants as phases
use Rattle.tv_group.specs.Handling.{group_after, group_answer, is_pass}
use Rattle.tv_group.specs.Opened.{opened}
use Rattle.tv_group.proofs.Tree.Keys.OfferLemmas.{phase-passed, phases-first, phases-second, phases-third}
use Rattle.tv_dialog.proofs.AlikeLemmas.{all-drawn-then}
use Rattle.tv_dialog.proofs.turn.offer_in_phases.Goals as goal

pub returns-then-not-is_pass-clause-handled : goal.returns-then-not-is_pass-clause-handled
returns-then-not-is_pass-clause-handled g c other =
    let xs = opened g.V.View.meaning c.args.body.now in
    let e = c.args.event.now in
    let env = c.args.env.now in
    let taken : is_pass (group_answer e phases.Pre env xs) ≡ false = ap is_pass (sym c.offer-first.ensures.reaction) ∙ (sym c.is_pass.ensures ∙ c.if-not-is_pass.true) in
    let both = phases-first e env xs taken in
    (c.offer-first.ensures.reaction ∙ sym both.0, c.offer-first.ensures.after ∙ sym both.1)

pub returns-then-not-is_pass-2-clause-handled : goal.returns-then-not-is_pass-2-clause-handled
returns-then-not-is_pass-2-clause-handled g c other =
    let xs = opened g.V.View.meaning c.args.body.now in
    let e = c.args.event.now in
    let env = c.args.env.now in
    let first : is_pass (group_answer e phases.Pre env xs) ≡ true = ap is_pass (sym c.offer-first.ensures.reaction) ∙ (sym c.is_pass.ensures ∙ c.if-not-is_pass.false) in
    let same : opened g.V.View.meaning c.offer-first.new.body ≡ xs = c.offer-first.ensures.after ∙ phase-passed e phases.Pre env xs other first in
    let answer : c.offer-second.result ≡ group_answer e phases.Focused env xs = c.offer-second.ensures.reaction ∙ ap (group_answer e phases.Focused env) same in
    let taken : is_pass (group_answer e phases.Focused env xs) ≡ false = ap is_pass (sym answer) ∙ (sym c.is_pass-2.ensures ∙ c.if-not-is_pass-2.true) in
    let both = phases-second e env xs first taken in
    (answer ∙ sym both.0, c.offer-second.ensures.after ∙ (ap (group_after e phases.Focused env) same ∙ sym both.1))

pub returns-clause-handled : goal.returns-clause-handled
returns-clause-handled g c other =
    let xs = opened g.V.View.meaning c.args.body.now in
    let e = c.args.event.now in
    let env = c.args.env.now in
    let first : is_pass (group_answer e phases.Pre env xs) ≡ true = ap is_pass (sym c.offer-first.ensures.reaction) ∙ (sym c.is_pass.ensures ∙ c.if-not-is_pass.false) in
    let same : opened g.V.View.meaning c.offer-first.new.body ≡ xs = c.offer-first.ensures.after ∙ phase-passed e phases.Pre env xs other first in
    let answer : c.offer-second.result ≡ group_answer e phases.Focused env xs = c.offer-second.ensures.reaction ∙ ap (group_answer e phases.Focused env) same in
    let second : is_pass (group_answer e phases.Focused env xs) ≡ true = ap is_pass (sym answer) ∙ (sym c.is_pass-2.ensures ∙ c.if-not-is_pass-2.false) in
    let again : opened g.V.View.meaning c.offer-second.new.body ≡ xs
    = c.offer-second.ensures.after ∙ (ap (group_after e phases.Focused env) same ∙ phase-passed e phases.Focused env xs other second) in
    let both = phases-third e env xs first second in
    (c.offer.ensures.reaction ∙ (ap (group_answer e phases.Post env) again ∙ sym both.0), c.offer.ensures.after ∙ (ap (group_after e phases.Post env) again ∙ sym both.1))

pub returns-then-not-is_pass-2-clause-drawn : goal.returns-then-not-is_pass-2-clause-drawn
returns-then-not-is_pass-2-clause-drawn g c = all-drawn-then _ _ _ _ _ _ c.offer-first.ensures.drawn c.offer-second.ensures.drawn

pub returns-clause-drawn : goal.returns-clause-drawn
returns-clause-drawn g c =
    all-drawn-then _ _ _ _ _ _ c.offer-first.ensures.drawn (all-drawn-then _ _ _ _ _ _ c.offer-second.ensures.drawn c.offer.ensures.drawn)
