-- The function that computes gives the domain that a description asks for.
use Rattle.std.proofs.Common.{◌≡◌, ◌↔◌, Bool, refl, ◌∙◌, sym, ap, subst}
use Rattle.std.specs.Prelude.{Option, Some, None, ℤ}
use Rattle.std.specs.Option.{option_map}
use Rattle.tv_picture.specs.Pattern.{Pattern}
use Rattle.tv_picture.specs.Parsing.{picture_of}
use Rattle.tv_picture.proofs.ReadingLemmas.{picture_law}
use Rattle.tv_valid.specs.declared.input.InputSpec.{InputSpec}
use Rattle.tv_valid.specs.declared.input.DomainSpec.{DomainSpec}
use Rattle.tv_valid.specs.declared.input.DomainSpec.TheVariants as asked
use Rattle.tv_valid.specs.declared.domain.Kind.{Kind}
use Rattle.tv_valid.specs.declared.domain.Kind.TheVariants as kinds
use Rattle.tv_valid.specs.declared.domain.Domain.{Domain}
use Rattle.tv_valid.specs.Domain.{IsDomain, IsKind}
use Rattle.tv_valid.specs.Asking.{kind_of, domain_with, domain_of}

kind_from : (s : DomainSpec) (k : Kind) → kind_of s ≡ Some k → IsKind s k
kind_from asked.Any k e = let same : kinds.Any ≡ k = cc in subst (IsKind asked.Any) same tt
kind_from (asked.Filter set) k e = let same : kinds.Filter set ≡ k = cc in subst (IsKind (asked.Filter set)) same refl
kind_from (asked.Range a b) k e = let same : kinds.Range a b ≡ k = cc in subst (IsKind (asked.Range a b)) same (refl, refl)
kind_from (asked.Picture text) k e = read (picture_of text) refl e
  where
    read : (o : Option Pattern) → picture_of text ≡ o → option_map kinds.Picture o ≡ Some k → IsKind (asked.Picture text) k
    read None h e' = absurd (cc)
    read (Some p) h e' = let same : kinds.Picture p ≡ k = cc in subst (IsKind (asked.Picture text)) same ((picture_law text p).0 h)

kind_to : (s : DomainSpec) (k : Kind) → IsKind s k → kind_of s ≡ Some k
kind_to asked.Any kinds.Any h = refl
kind_to (asked.Filter cs) (kinds.Filter set) h = ap (λ x. Some (kinds.Filter x)) (sym h)
kind_to (asked.Range a b) (kinds.Range x y) h = ap (λ z. Some (kinds.Range z b)) (sym h.0) ∙ ap (λ z. Some (kinds.Range x z)) (sym h.1)
kind_to (asked.Picture text) (kinds.Picture p) h = ap (option_map kinds.Picture) ((picture_law text p).1 h)
kind_to _ _ h = absurd h

with_kind : (spec : InputSpec) (k : Kind) → IsKind spec.domain k → IsDomain spec (domain_with spec k)
with_kind spec k h = record { max = refl; optional = refl; fill = refl; kind = h }

-- a domain that is asked for, from its kind
same_parts : (spec : InputSpec) (d : Domain) → IsDomain spec d → domain_with spec d.kind ≡ d
same_parts spec d h =
    ap (λ (max : ℤ). record { max = max; kind = d.kind; optional = spec.optional; fill = spec.fill }) (sym h.max)
    ∙ ap (λ (optional : Bool). record { max = d.max; kind = d.kind; optional = optional; fill = spec.fill }) (sym h.optional)
    ∙ ap (λ (fill : Bool). record { max = d.max; kind = d.kind; optional = d.optional; fill = fill }) (sym h.fill)

-- the function gives the domain that is asked for, where there is one
pub domain_law : (spec : InputSpec) (d : Domain) → (domain_of spec ≡ Some d) ↔ IsDomain spec d
domain_law spec d = (from (kind_of spec.domain) refl, to)
  where
    from : (o : Option Kind) → kind_of spec.domain ≡ o → option_map (domain_with spec) o ≡ Some d → IsDomain spec d
    from None h e = absurd (cc)
    from (Some k) h e = let same : domain_with spec k ≡ d = cc in subst (IsDomain spec) same (with_kind spec k (kind_from spec.domain k h))

    to : IsDomain spec d → domain_of spec ≡ Some d
    to h = ap (option_map (domain_with spec)) (kind_to spec.domain d.kind h.kind) ∙ ap Some (same_parts spec d h)

-- two domains that the same input asks for are one
pub only_domain : (spec : InputSpec) (d e : Domain) → IsDomain spec d → IsDomain spec e → d ≡ e
only_domain spec d e h g =
    let same : Some d ≡ Some e = sym ((domain_law spec d).1 h) ∙ (domain_law spec e).1 g in
    cc
