-- Keys that were given before.
use Rattle.std.proofs.Common.{◌≡◌, ℕ, Bool, true, false, not, ◌||◌, List, rules, refl, ap, ◌∙◌}
use Rattle.std.specs.List.{list_any}
use Rattle.tv_event.specs.declared.event.Key.{Key}
use Rattle.tv_event.specs.declared.event.Key.TheVariants as keys
use Rattle.tv_event.specs.contracts.event.KeyPartialEq.TheImpl as key_equality
use Rattle.tv_model.specs.declared.desc.Desc.{Desc}
use Rattle.tv_model.specs.declared.desc.StatusItem.{StatusItem}
use Rattle.tv_model.specs.Faults.Letters.{has_bad_key, is_same_key, is_status_key, is_taken}
use Rattle.tv_names.specs.Keys.{is_alt_of}
use Rattle.tv_model.proofs.TestLemmas.{any_same}

-- the same key, of all keys
abbrev pub are_equal : Key → Key → Bool
are_equal = (key_equality.ghosts).eq

same_key : (key other : Key) → is_status_key key ≡ true → are_equal other key ≡ is_same_key other key
same_key key other lawful = search rules

module _ (d : Desc) (taken : ℕ → Bool) (are_taken : (ch : ℕ) → taken ch ≡ is_taken d (keys.Alt ch)) where
  taken_is : (key : Key) → is_alt_of taken key ≡ is_taken d key
  taken_is key = search rules

  module _ (given : Key → Bool) (before : List StatusItem) (are_given : (key : Key) → given key ≡ list_any (λ item. are_equal item.key key) before) where
    by_lawful : (item : StatusItem) (b : Bool) → is_status_key item.key ≡ b → (not (is_status_key item.key) || (is_alt_of taken item.key || given item.key)) ≡ has_bad_key d before item
    by_lawful item false unlawful = rw unlawful refl
    by_lawful item true lawful =
        ap (λ b. not (is_status_key item.key) || (b || given item.key)) (taken_is item.key)
        ∙ ap (λ b. not (is_status_key item.key) || (is_taken d item.key || b))
        (are_given item.key ∙ any_same (λ other. are_equal other.key item.key) (λ other. is_same_key other.key item.key) (λ other. same_key item.key other.key lawful) before)

    pub has_bad_key_given : (item : StatusItem) → (not (is_status_key item.key) || (is_alt_of taken item.key || given item.key)) ≡ has_bad_key d before item
    has_bad_key_given item = by_lawful item (is_status_key item.key) refl
