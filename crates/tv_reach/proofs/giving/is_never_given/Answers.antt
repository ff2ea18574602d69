use Rattle.std.proofs.Common.{◌≡◌, ◌∙◌, true, false, get_or, refl, rules, arith, sym}
use Rattle.std.proofs.lemmas.Bool.{true≢false}
use Rattle.std.proofs.lemmas.List.{get_or_default}
use Rattle.tv_reach.specs.declared.mask.Mask.{Mask}
use Rattle.tv_reach.specs.Never.{MayGive}
use Rattle.tv_reach.proofs.ClosedLemmas.{goes_on, gone}
use Rattle.tv_reach.proofs.giving.is_never_given.Goals as goal

pub loop-mask-preserved : goal.loop-mask-preserved
loop-mask-preserved c =
    let givers = c.args.givers.now in
    let masks = givers.case.now.masks.now in
    let no : c.may_give.result ≡ false = search rules in
    let none : Mask = record { bits = 0 } in
    let mask = get_or masks c.loop-mask.mask-index none in
    goes_on (λ mask. MayGive givers.case.now.desc.now givers.case.now.dialog.now givers.number mask → ⊥) masks c.loop-mask.mask-index mask
    c.loop-mask-test.true (get_or_default masks c.loop-mask.mask-index none mask c.loop-mask-test.true) c.loop-mask.invariant
    (λ may. let yes : c.may_give.result ≡ true = c.may_give.ensures.1 may in true≢false (sym yes ∙ no))

pub returns-then-may_give : goal.returns-then-may_give
returns-then-may_give c =
    let none : Mask = record { bits = 0 } in (
      (λ e. absurd (true≢false (sym e))),
      (λ never. absurd (never c.loop-mask.mask-index none c.loop-mask-test.true (c.may_give.ensures.0 c.if-may_give.true))),
    )

pub returns : goal.returns
returns c = (
  λ e.
      let givers = c.args.givers.now in
      gone (λ mask. MayGive givers.case.now.desc.now givers.case.now.dialog.now givers.number mask → ⊥) givers.case.now.masks.now c.loop-mask.mask-index
      (omega (arith, c.loop-mask-test.false)) c.loop-mask.invariant,
  λ never. refl,
)
