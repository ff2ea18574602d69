-- Ranges: texts that they hold, and texts that may become such.
use Rattle.std.specs.Prelude.{◌≡◌, ℕ, Bool, true, false, List, [], ◌++◌, Option, Some, option_map, codes, pos, neg_ℤ, replicate}
use Rattle.std.proofs.Common.{refl}
use Rattle.tv_valid.specs.declared.input.InputSpec.{InputSpec}
use Rattle.tv_valid.specs.declared.input.DomainSpec.TheVariants as domains
use Rattle.tv_valid.specs.Asking.{domain_of}
use Rattle.tv_valid.specs.Deciding.{in_domain, viable, has_text}
use Rattle.tv_examples.specs.Running.{written}

-- the numbers from -5 to 5
abbrev around_zero : Bool → InputSpec
around_zero optional = record { max = pos 120; domain = domains.Range (neg_ℤ (pos 5)) (pos 5); optional = optional; fill = false }

-- whether the input accepts a text
abbrev accepts : InputSpec → List ℕ → Option Bool
accepts spec text = option_map (λ d. in_domain d text) (domain_of spec)

-- whether the text may stand in it
abbrev may_stand : InputSpec → List ℕ → Option Bool
may_stand spec text = option_map (λ d. viable d text) (domain_of spec)

range_zeros : accepts (around_zero false) (codes "-005") ≡ Some true
unfolding written
range_zeros = refl

range_minus_zero : accepts (around_zero false) (codes "-0") ≡ Some true
unfolding written
range_minus_zero = refl

range_long : accepts (around_zero false) (replicate 119 48 ++ codes "5") ≡ Some true
unfolding written
range_long = refl

range_plus_may_stand : may_stand (around_zero false) (codes "+") ≡ Some true
unfolding written
range_plus_may_stand = refl

range_plus_refused : accepts (around_zero false) (codes "+") ≡ Some false
unfolding written
range_plus_refused = refl

range_six_may_stand : may_stand (around_zero false) (codes "6") ≡ Some true
unfolding written
range_six_may_stand = refl

range_six_refused : accepts (around_zero false) (codes "6") ≡ Some false
unfolding written
range_six_refused = refl

range_empty_may_stand : may_stand (around_zero false) [] ≡ Some true
unfolding written
range_empty_may_stand = refl

range_empty_refused : accepts (around_zero false) [] ≡ Some false
unfolding written
range_empty_refused = refl

range_empty_optional : accepts (around_zero true) [] ≡ Some true
unfolding written
range_empty_optional = refl

-- no number from 100 to 200 has two digits
no_text : option_map has_text (domain_of (record { max = pos 2; domain = domains.Range (pos 100) (pos 200); optional = false; fill = false })) ≡ Some false
unfolding written
no_text = refl
