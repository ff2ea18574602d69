-- The tests of an input's domain and text say what is believed of them.
use Rattle.std.proofs.Common.{◌≡◌, ℕ, Bool, true, false, List, refl, ap, ◌∙◌}
use Rattle.std.specs.Prelude.{Option, Some, None}
use Rattle.std.specs.Bool.{Decides}
use Rattle.std.specs.Option.{option_map_or}
use Rattle.std.proofs.lemmas.Bool.{false≢true}
use Rattle.tv_valid.specs.declared.input.InputSpec.{InputSpec}
use Rattle.tv_valid.specs.declared.domain.Domain.{Domain}
use Rattle.tv_valid.specs.Domain.{HasText, IsDomain, IsViableText}
use Rattle.tv_valid.specs.Asking.{domain_of}
use Rattle.tv_valid.specs.Deciding.{has_text, viable}
use Rattle.tv_valid.proofs.AskingLemmas.{domain_law}
use Rattle.tv_valid.proofs.DecidingLemmas.{viable_law}
use Rattle.tv_valid.proofs.HasTextLemmas.{has_text_law}
use Rattle.tv_model.specs.Kinds.InputLine.{HasAnyText, MayStand}
use Rattle.tv_model.specs.Faults.Domains.{any_text, may_stand}

-- the input asks for a domain that is so
abbrev AsksFor : (Domain → Type 0) → InputSpec → Type 0
AsksFor P spec = (d : Domain) × IsDomain spec d × P d

asked_decides : (test : Domain → Bool) (P : Domain → Type 0) → ((d : Domain) → Decides (test d) (P d)) → (spec : InputSpec) → Decides (option_map_or test (domain_of spec) false) (AsksFor P spec)
asked_decides test P law spec = (from (domain_of spec) refl, λ (h : AsksFor P spec). ap (λ o. option_map_or test o false) ((domain_law spec h.0).1 h.1) ∙ (law h.0).1 h.2)
  where
    from : (o : Option Domain) → domain_of spec ≡ o → option_map_or test o false ≡ true → AsksFor P spec
    from None is e = absurd (false≢true e)
    from (Some d) is e = (d, (domain_law spec d).0 is, (law d).0 e)

-- the test of a domain with a text
pub any_text_law : (spec : InputSpec) → Decides (any_text spec) (HasAnyText spec)
any_text_law spec = asked_decides has_text HasText has_text_law spec

-- and of a text that may stand in an input
pub may_stand_law : (text : List ℕ) (spec : InputSpec) → Decides (may_stand text spec) (MayStand text spec)
may_stand_law text spec = asked_decides (λ d. viable d text) (λ d. IsViableText d text) (λ d. viable_law d text) spec
