use Rattle.std.proofs.Common.{rules, ◌≡◌, true, false, refl, sym, ◌∙◌, ap, subst, Bool}
use Rattle.std.specs.Prelude.{ℤ}
use Rattle.std.proofs.Common.{to_z, of_z, w32, arith}
use Rattle.std.proofs.lemmas.Int.{ints}
use Rattle.tv_valid.specs.declared.domain.Domain.{Domain}
use Rattle.tv_valid.specs.declared.domain.Kind.{Kind}
use Rattle.tv_valid.specs.Domain.{HasText}
use Rattle.tv_valid.proofs.AskingLemmas.{domain_law}
use Rattle.tv_valid.proofs.HasTextLemmas.{has_text_law}
use Rattle.tv_valid.proofs.domain.Domain.new.Goals as goal

abbrev with : Domain → ℤ → Kind → Bool → Bool → Domain
with d m k o f = record { max = m; kind = k; optional = o; fill = f }

pub returns-else-has_text-clause-err : goal.returns-else-has_text-clause-err
returns-else-has_text-clause-err c =
    let max : ℤ = to_z w32 (of_z w32 c.args.spec.now.max) in
    let same_max : max ≡ c.args.spec.now.max = omega (arith, ints) in
    let made : Domain = record { max = max; kind = c.in_ok-new.field-0; optional = c.args.spec.now.optional; fill = c.args.spec.now.fill } in (
      (made, record { max = same_max; optional = refl; fill = refl; kind = c.in_ok-new.ensures.ok }),
      λ d is t.
          let same : d ≡ made =
          ap (λ (m : ℤ). with d m d.kind d.optional d.fill) (is.max ∙ sym same_max)
          ∙ ap (λ (k : Kind). with d max k d.optional d.fill) (c.in_ok-new.ensures.only d.kind is.kind)
          ∙ ap (λ (o : Bool). with d max c.in_ok-new.field-0 o d.fill) is.optional
          ∙ ap (λ (f : Bool). with d max c.in_ok-new.field-0 c.args.spec.now.optional f) is.fill in
          let yes : c.has_text.result ≡ true = c.has_text.ensures.1 (subst HasText same t) in
          let no : c.has_text.result ≡ false = c.if-has_text.false in
          cc,
    )

pub returns-then-has_text-clause-computed : goal.returns-then-has_text-clause-computed
returns-then-has_text-clause-computed c =
    let max : ℤ = to_z w32 (of_z w32 c.args.spec.now.max) in
    let made : Domain = record { max = max; kind = c.in_ok-new.field-0; optional = c.args.spec.now.optional; fill = c.args.spec.now.fill } in
    ((domain_law c.args.spec.now made).1 (search rules), (has_text_law made).1 (search rules))
