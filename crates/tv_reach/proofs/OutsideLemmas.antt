-- Texts outside of the domain that an input asks for.
use Rattle.std.proofs.Common.{◌≡◌, ◌≤◌, ℕ, Bool, true, false, not, List, length, Option, Some, None, refl, sym, ap, subst, ◌∙◌}
use Rattle.std.specs.Prelude.{IsTrue}
use Rattle.tv_picture.specs.Spelling.{IsFirstFaultyPlace}
use Rattle.tv_valid.specs.declared.input.InputSpec.{InputSpec}
use Rattle.tv_valid.specs.declared.input.DomainSpec.{DomainSpec}
use Rattle.tv_valid.specs.declared.input.DomainSpec.TheVariants as asked
use Rattle.tv_valid.specs.declared.domain.Domain.{Domain}
use Rattle.tv_valid.specs.declared.domain.DomainFault.TheVariants.{BadPicture, Empty}
use Rattle.tv_valid.specs.declared.domain.Kind.{Kind}
use Rattle.tv_valid.specs.declared.domain.Kind.TheVariants as kinds
use Rattle.tv_valid.specs.Asking.{domain_of}
use Rattle.tv_valid.specs.Deciding.{in_domain}
use Rattle.tv_valid.specs.Domain.{InDomain, IsKind, RefusesDomain}
use Rattle.tv_valid.proofs.AskingLemmas.{domain_law}
use Rattle.tv_valid.proofs.DecidingLemmas.{in_domain_law}
use Rattle.tv_model.specs.Kinds.InputLine.{is_outside_domain}

fails : (b : Bool) (P : Type 0) → (IsTrue b → P) → (P → ⊥) → b ≡ false
fails true P gives lacks = absurd (lacks (gives refl))
fails false P gives lacks = refl

-- a text that is too long lies in no domain
pub long_outside : (d : Domain) (text : List ℕ) → (length text ≤ 120 → ⊥) → in_domain d text ≡ false
long_outside d text long = fails (in_domain d text) (InDomain d text) (in_domain_law d text).0 (λ within. long within.0.1)

no_kind : (text : List ℕ) (place : ℕ) (kind : Kind) → IsFirstFaultyPlace text place → IsKind (asked.Picture text) kind → ⊥
no_kind text place kinds.Any faulty is = is
no_kind text place (kinds.Filter set) faulty is = is
no_kind text place (kinds.Range least greatest) faulty is = is
no_kind text place (kinds.Picture p) faulty is = faulty.refused p is.0 is.1

-- a wrong picture asks for no domain
pub wrong_outside : (spec : InputSpec) (place : ℕ) → RefusesDomain spec (BadPicture place) → (text : List ℕ)
    → is_outside_domain (domain_of spec) text ≡ false
wrong_outside spec place refused text = of (domain_of spec) refl
  where
    of : (o : Option Domain) → domain_of spec ≡ o → is_outside_domain o text ≡ false
    of None e = refl
    of (Some d) e =
        absurd (no_kind refused.0 place d.kind refused.2 (subst (λ (asks : DomainSpec). IsKind asks d.kind) refused.1 ((domain_law spec d).0 e).kind))

-- each text lies outside of a domain without texts
pub empty_outside : (spec : InputSpec) → RefusesDomain spec Empty → (text : List ℕ) → is_outside_domain (domain_of spec) text ≡ true
empty_outside spec refused text =
    let d = refused.0.0 in
    ap (λ o. is_outside_domain o text) ((domain_law spec d).1 refused.0.1)
    ∙ ap not (fails (in_domain d text) (InDomain d text) (in_domain_law d text).0 (λ within. refused.1 d refused.0.1 (text, within)))
