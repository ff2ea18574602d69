-- Whether an input asks for a domain, by why it has none.
use Rattle.std.proofs.Common.{◌≡◌, ℕ, true, false, Option, Some, None, refl, sym, ap, subst}
use Rattle.std.specs.Prelude.{is_some, List}
use Rattle.tv_valid.specs.declared.input.InputSpec.{InputSpec}
use Rattle.tv_valid.specs.declared.input.DomainSpec.{DomainSpec}
use Rattle.tv_valid.specs.declared.input.DomainSpec.TheVariants as asked
use Rattle.tv_valid.specs.declared.domain.Kind.{Kind}
use Rattle.tv_valid.specs.declared.domain.Kind.TheVariants as kinds
use Rattle.tv_valid.specs.declared.domain.Domain.{Domain}
use Rattle.tv_valid.specs.declared.domain.DomainFault.{DomainFault}
use Rattle.tv_valid.specs.declared.domain.DomainFault.TheVariants.{BadPicture, Empty}
use Rattle.tv_valid.specs.Asking.{domain_of}
use Rattle.tv_valid.specs.Domain.{IsKind, RefusesDomain}
use Rattle.tv_valid.proofs.AskingLemmas.{domain_law}
use Rattle.tv_picture.specs.Spelling.{IsFirstFaultyPlace}

-- a domain in which no text lies is one
pub asked_empty : (spec : InputSpec) → RefusesDomain spec Empty → true ≡ is_some (domain_of spec)
asked_empty spec h = ap is_some (sym ((domain_law spec h.0.0).1 h.0.1))

no_kind : (text : List ℕ) (place : ℕ) (kind : Kind) → IsFirstFaultyPlace text place → IsKind (asked.Picture text) kind → ⊥
no_kind text place kinds.Any faulty is = is
no_kind text place (kinds.Filter set) faulty is = is
no_kind text place (kinds.Range least greatest) faulty is = is
no_kind text place (kinds.Picture p) faulty is = faulty.refused p is.0 is.1

-- an input whose picture is spelled wrong asks for none
pub asked_wrongly : (spec : InputSpec) (place : ℕ) → RefusesDomain spec (BadPicture place) → false ≡ is_some (domain_of spec)
asked_wrongly spec place h = by_found (domain_of spec) refl
  where
    by_found : (o : Option Domain) → domain_of spec ≡ o → false ≡ is_some o
    by_found None e = refl
    by_found (Some d) e = absurd (no_kind h.0 place d.kind h.2 (subst (λ (domain : DomainSpec). IsKind domain d.kind) h.1 ((domain_law spec d).0 e).kind))

-- the same of a fault that is one of these
pub empty_asks : (spec : InputSpec) (fault : DomainFault) → fault ≡ Empty → RefusesDomain spec fault → true ≡ is_some (domain_of spec)
empty_asks spec fault e h = asked_empty spec (subst (RefusesDomain spec) e h)

pub wrong_asks_none : (spec : InputSpec) (place : ℕ) (fault : DomainFault) → fault ≡ BadPicture place → RefusesDomain spec fault → false ≡ is_some (domain_of spec)
wrong_asks_none spec place fault e h = asked_wrongly spec place (subst (RefusesDomain spec) e h)
