use Rattle.std.proofs.Common.{◌≡◌, ◌+◌, ℕ, List, [], ◌∷◌, ◌++◌, length, arith, sym, ◌∙◌, ap, subst, append_assoc, length-append}
use Rattle.std.specs.Prelude.{pos, ◌<ℤ◌}
use Rattle.tv_picture.specs.Pattern.{Begins, IsNextLiteral}
use Rattle.tv_valid.specs.Domain.{FitsIn}
use Rattle.tv_valid.proofs.Filling.{literals_more, viable_more}
use Rattle.tv_valid.proofs.domain.filled.Goals as goal

pub loop-preserved : goal.loop-preserved
loop-preserved c =
    let more : List ℕ = c.loop.invariant.0 in
    let grown : c.loop.text ≡ c.args.text ++ more = c.loop.invariant.1 in
    let long : length c.loop.text ≡ length c.args.text + length more = ap length grown ∙ length-append c.args.text more in
    let size : c.len.result ≡ length c.args.text + length more = c.len.ensures.value ∙ long in (
      more ++ c.in-Some.ch ∷ [],
      c.push.ensures ∙ ap (λ t. t ++ c.in-Some.ch ∷ []) grown ∙ append_assoc c.args.text more (c.in-Some.ch ∷ []),
      omega (arith, length-append more (c.in-Some.ch ∷ []), c.loop.invariant.2),
      literals_more c.args.max.now c.args.picture.now c.args.text more c.in-Some.ch c.loop.invariant.3
          (subst (λ t. IsNextLiteral c.args.picture.now t c.in-Some.ch) (c.as_slice.ensures.value ∙ grown) c.in-Some.ensures.some)
          (subst (λ (n : ℕ). pos n <ℤ c.args.max.now) size (c.is_under.ensures.0 c.if-not-is_under.false)),
      λ narrow fits begins. subst (λ t. FitsIn c.args.max.now t × Begins c.args.picture.now t) (sym c.push.ensures) (viable_more c.args.max.now c.args.picture.now c.loop.text c.in-Some.ch narrow (c.loop.invariant.4 narrow fits begins).0
          (subst (λ (n : ℕ). pos n <ℤ c.args.max.now) c.len.ensures.value (c.is_under.ensures.0 c.if-not-is_under.false))
          (subst (λ t. IsNextLiteral c.args.picture.now t c.in-Some.ch) c.as_slice.ensures.value c.in-Some.ensures.some) c.in-Some.ensures.literal),
    )

pub returns-in-None-clause-filled : goal.returns-in-None-clause-filled
returns-in-None-clause-filled c = record {
  more = c.loop.invariant.0;
  grown = c.loop.invariant.1;
  literals = c.loop.invariant.3;
  full = λ ch under l. c.in-None.ensures.none ch (subst (λ t. IsNextLiteral c.args.picture.now t ch) (sym c.as_slice.ensures.value) l);
}
