use Rattle.std.proofs.Common.{◌≡◌, ◌∙◌, true, false, get_or, refl, rules, arith, sym}
use Rattle.std.proofs.lemmas.Bool.{true≢false}
use Rattle.std.proofs.lemmas.List.{get_or_default}
use Rattle.tv_reach.specs.declared.mask.Mask.{Mask}
use Rattle.tv_reach.specs.Shown.{IsPart}
use Rattle.tv_reach.proofs.ClosedLemmas.{goes_on, gone}
use Rattle.tv_reach.proofs.case.is_in_none.Goals as goal

pub loop-mask-preserved : goal.loop-mask-preserved
loop-mask-preserved c =
    let masks = c.args.masks.now in
    let no : c.contains_all.result ≡ false = search rules in
    let none : Mask = record { bits = 0 } in
    let mask = get_or masks c.loop-mask.mask-index none in
    goes_on (λ mask. IsPart c.args.rules mask → ⊥) masks c.loop-mask.mask-index mask c.loop-mask-test.true
    (get_or_default masks c.loop-mask.mask-index none mask c.loop-mask-test.true) c.loop-mask.invariant
    (λ part. let yes : c.contains_all.result ≡ true = c.contains_all.ensures.1 part in true≢false (sym yes ∙ no))

pub returns-then-contains_all : goal.returns-then-contains_all
returns-then-contains_all c =
    let none : Mask = record { bits = 0 } in (
      (λ e. absurd (true≢false (sym e))),
      (λ all. absurd (all c.loop-mask.mask-index none c.loop-mask-test.true (c.contains_all.ensures.0 c.if-contains_all.true))),
    )

pub returns : goal.returns
returns c = (
  (λ e. gone (λ mask. IsPart c.args.rules mask → ⊥) c.args.masks.now c.loop-mask.mask-index (omega (arith, c.loop-mask-test.false)) c.loop-mask.invariant),
  (λ all. refl),
)
