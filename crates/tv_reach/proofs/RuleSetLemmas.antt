-- Masks of the rules that pass a test, rule by rule.
use Rattle.std.proofs.Common.{◌≡◌, ◌↔◌, ◌⊎◌, inl, inr, ℕ, ◌+◌, ◌<◌, ◌≤◌, Bool, true, false, nat_lt, List, length, get_or, Some, refl, sym, ap, subst, ◌∙◌, arith}
use Rattle.std.specs.Prelude.{slice_get}
use Rattle.std.proofs.lemmas.Bool.{true≢false}
use Rattle.std.proofs.lemmas.Bool.Decides.{nat_tests}
use Rattle.std.proofs.lemmas.Option.{slice_get-get_or, slice_get_within}
use Rattle.tv_model.specs.declared.desc.Rule.{Rule}
use Rattle.tv_machine.proofs.ListLemmas.{bool_cases}
use Rattle.tv_reach.specs.declared.mask.Mask.{Mask}
use Rattle.tv_reach.specs.Masks.{HasRule}
use Rattle.tv_reach.specs.Shown.{IsMaskOf, Passes}
use Rattle.tv_reach.proofs.BitLemmas.{none_set}

-- the mask has the rules before the place that pass the test
abbrev pub IsFirstMaskOf : (Rule → Bool) → List Rule → ℕ → Mask → Type 0
IsFirstMaskOf test rules place mask = (k : ℕ) → HasRule mask k ↔ ((k < place) × Passes test rules k)

lt_true : (a b : ℕ) → nat_lt a b ≡ true → a < b
lt_true a b e = grind (arith, nat_tests)

lt_false : (a b : ℕ) → nat_lt a b ≡ false → a < b + 1 → a ≡ b
lt_false a b e less = grind (arith, nat_tests)

below_next : (k place : ℕ) → k < place → k < place + 1
below_next k place less = omega (arith, less)

none_below : (k : ℕ) → k < 0 → ⊥
none_below k less = omega (arith, less)

at_place : (k place : ℕ) → k ≡ place → k < place + 1
at_place k place is = omega (arith, is)

-- a place before the next one is before this one or it
here_or_before : (k place : ℕ) → k < place + 1 → (k < place) ⊎ (k ≡ place)
here_or_before k place less =
    bool_cases (nat_lt k place) (λ b. nat_lt k place ≡ b → (k < place) ⊎ (k ≡ place)) (λ is e. inl (lt_true k place e))
    (λ is e. inr (lt_false k place e less)) refl

module _ (test : Rule → Bool) (rules : List Rule) where
  pub mask_none : IsFirstMaskOf test rules 0 (record { bits = 0 })
  mask_none k = ((λ has. absurd (none_set 0 refl k has)), λ h. absurd (none_below k h.0))

  module _ (place : ℕ) (rule : Rule) (within : place < length rules) (is : rule ≡ get_or rules place rule) (mask : Mask)
      (first : IsFirstMaskOf test rules place mask) where
    there : slice_get rules place ≡ Some rule
    there = slice_get-get_or rules place rule within ∙ ap (λ r. Some r) (sym is)

    -- a rule that passes is added
    pub mask_more : (one joined : Mask) → test rule ≡ true → ((k : ℕ) → HasRule one k ↔ (k ≡ place))
        → ((k : ℕ) → HasRule joined k ↔ (HasRule mask k ⊎ HasRule one k)) → IsFirstMaskOf test rules (place + 1) joined
    mask_more one joined on only joins k = (λ has. forth ((joins k).0 has), λ h. (joins k).1 (back (here_or_before k place h.0) h.1))
      where
        forth : HasRule mask k ⊎ HasRule one k → (k < place + 1) × Passes test rules k
        forth (inl old) = let h = (first k).0 old in (below_next k place h.0, h.1)
        forth (inr new) =
            let at : k ≡ place = (only k).0 new in
            (at_place k place at, subst (Passes test rules) (sym at) (rule, there, on))

        back : (k < place) ⊎ (k ≡ place) → Passes test rules k → HasRule mask k ⊎ HasRule one k
        back (inl less) passes = inl ((first k).1 (less, passes))
        back (inr at) passes = inr ((only k).1 at)

    -- one that fails is none of them
    pub mask_same : test rule ≡ false → IsFirstMaskOf test rules (place + 1) mask
    mask_same off k = ((λ has. let h = (first k).0 has in (below_next k place h.0, h.1)), λ h. back (here_or_before k place h.0) h.1)
      where
        back : (k < place) ⊎ (k ≡ place) → Passes test rules k → HasRule mask k
        back (inl less) passes = (first k).1 (less, passes)
        back (inr at) passes =
            let both : Some rule ≡ Some passes.0 = sym there ∙ ap (slice_get rules) (sym at) ∙ passes.1 in
            let same : rule ≡ passes.0 = cc in
            absurd (true≢false (sym passes.2 ∙ ap test (sym same) ∙ off))

  -- past all rules it has all that pass
  pub mask_all : (place : ℕ) (mask : Mask) → length rules ≤ place → IsFirstMaskOf test rules place mask → IsMaskOf test rules mask
  mask_all place mask past first k = ((λ has. ((first k).0 has).1), λ passes. (first k).1 (less passes, passes))
    where
      less : Passes test rules k → k < place
      less passes = let within = slice_get_within rules k passes.0 passes.1 in omega (arith, within, past)
