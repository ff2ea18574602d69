use Rattle.std.proofs.Common.{◌≡◌, ◌∙◌, true, false, get_or, refl, rules, arith, sym}
use Rattle.std.proofs.lemmas.Bool.{true≢false}
use Rattle.std.proofs.lemmas.List.{get_or_default}
use Rattle.tv_reach.specs.declared.mask.Mask.{Mask}
use Rattle.tv_reach.specs.Shown.{IsPart}
use Rattle.tv_reach.proofs.ClosedLemmas.{goes_on, gone}
use Rattle.tv_reach.proofs.MaskLemmas.{at-any}
use Rattle.tv_reach.proofs.closed.any_contains.Goals as goal

pub returns-then-contains_all : goal.returns-then-contains_all
returns-then-contains_all c =
    let masks = c.args.masks.now in
    let k = c.loop-mask.mask-index in
    let none : Mask = record { bits = 0 } in
    let mask = get_or masks k none in (
      (λ e. (k, mask, c.loop-mask-test.true, get_or_default masks k mask none c.loop-mask-test.true, c.contains_all.ensures.0 c.if-contains_all.true)),
      (λ any. refl),
    )

pub loop-mask-preserved : goal.loop-mask-preserved
loop-mask-preserved c =
    let masks = c.args.masks.now in
    let none : Mask = record { bits = 0 } in
    let mask = get_or masks c.loop-mask.mask-index none in
    let no : c.contains_all.result ≡ false = search rules in
    goes_on (λ mask. IsPart c.args.wanted mask → ⊥) masks c.loop-mask.mask-index mask c.loop-mask-test.true
    (get_or_default masks c.loop-mask.mask-index none mask c.loop-mask-test.true) c.loop-mask.invariant
    (λ part. let yes : c.contains_all.result ≡ true = c.contains_all.ensures.1 part in true≢false (sym yes ∙ no))

pub returns : goal.returns
returns c = (
  (λ e. absurd (true≢false (sym e))),
  (λ any.
      absurd
      (at-any (λ mask. IsPart c.args.wanted mask → ⊥) (IsPart c.args.wanted) c.args.masks.now
      (gone (λ mask. IsPart c.args.wanted mask → ⊥) c.args.masks.now c.loop-mask.mask-index (omega (arith, c.loop-mask-test.false)) c.loop-mask.invariant)
      any (λ mask none part. none part))),
)
