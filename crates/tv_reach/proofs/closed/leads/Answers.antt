use Rattle.std.proofs.Common.{◌≡◌, ◌∙◌, true, false, get_or, refl, rules, arith, sym}
use Rattle.std.specs.Prelude.{Any}
use Rattle.std.proofs.lemmas.Bool.{true≢false}
use Rattle.std.proofs.lemmas.List.{get_or_default}
use Rattle.tv_reach.specs.declared.mask.Mask.{Mask}
use Rattle.tv_reach.specs.Shown.{IsMoved, IsPart}
use Rattle.tv_reach.proofs.ClosedLemmas.{goes_on, gone}
use Rattle.tv_reach.proofs.closed.leads.Goals as goal

pub loop-mask-preserved : goal.loop-mask-preserved
loop-mask-preserved c =
    let yes : c.leads_on.result ≡ true = search rules in
    let none : Mask = record { bits = 0 } in
    let mask = get_or c.args.masks.now c.loop-mask.mask-index none in
    goes_on (λ mask. IsPart c.args.leaf.now.shown_by mask → Any (IsMoved c.args.own c.args.choice mask) c.args.masks.now) c.args.masks.now
    c.loop-mask.mask-index mask c.loop-mask-test.true (get_or_default c.args.masks.now c.loop-mask.mask-index none mask c.loop-mask-test.true)
    c.loop-mask.invariant (c.leads_on.ensures.0 yes)

pub returns-then-not-leads_on : goal.returns-then-not-leads_on
returns-then-not-leads_on c =
    let none : Mask = record { bits = 0 } in
    let no : c.leads_on.result ≡ false = search rules in (
      (λ e. absurd (true≢false (sym e))),
      (λ all.
          let yes : c.leads_on.result ≡ true = c.leads_on.ensures.1 (all c.loop-mask.mask-index none c.loop-mask-test.true) in
          absurd (true≢false (sym yes ∙ no))),
    )

pub returns : goal.returns
returns c = (
  (λ e.
      gone (λ mask. IsPart c.args.leaf.now.shown_by mask → Any (IsMoved c.args.own c.args.choice mask) c.args.masks.now) c.args.masks.now
      c.loop-mask.mask-index (omega (arith, c.loop-mask-test.false)) c.loop-mask.invariant),
  (λ all. refl),
)
