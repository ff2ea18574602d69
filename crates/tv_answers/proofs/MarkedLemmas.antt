-- Marks are those of the items that they mark, where none has more than 16.
use Rattle.std.proofs.Common.{◌≡◌, ◌≢◌, ℕ, zero, suc, ◌+◌, ◌-◌, ◌^◌, ◌<◌, ◌≤◌, ◌==◌, Bool, true, false, List, ◌∷◌, map, filter, cond, max, pos, refl, sym, ap, ◌∙◌, arith}
use Rattle.std.specs.Prelude.{nat_lt}
use Rattle.std.specs.List.{range_with_len}
use Rattle.std.specs.Int.{bit_at}
use Rattle.std.proofs.lemmas.Bool.Decides.{nat_tests}
use Rattle.std.proofs.lemmas.Nat.Bits.{bit_at-lt, bit_at-pow_other, bit_at-pow_same, bit_at-zero, bit_at_above, bit_at_or, same_from_bits}
use Rattle.tv_machine.proofs.ListLemmas.{bool_cases}
use Rattle.tv_model.specs.Kinds.Cluster.{marks_of}
use Rattle.tv_model.specs.Log.LogText.{has_bit}

module _ (m : ℕ) where
  -- the marks of the items from one on that m marks
  abbrev marks_from : ℕ → ℕ → ℕ
  marks_from item n = marks_of (map pos (filter (has_bit m) (range_with_len item n)))

  -- what the item adds to a bit
  abbrev own_bit : ℕ → ℕ → Bool → ℕ
  own_bit item i b = cond b (bit_at (2 ^ (item - 1)) i) 0

  one_more : (item i : ℕ) (rest : List ℕ) (b : Bool) → bit_at (marks_of (map pos (cond b (item ∷ rest) rest))) i ≡ max (own_bit item i b) (bit_at (marks_of (map pos rest)) i)
  one_more item i rest true = bit_at_or (2 ^ (item - 1)) (marks_of (map pos rest)) i
  one_more item i rest false = omega arith

  bit_here : (item : ℕ) (b : Bool) → has_bit m item ≡ b → own_bit item (item - 1) b ≡ bit_at m (item - 1)
  bit_here item true e = bit_at-pow_same (item - 1) ∙ is (bit_at m (item - 1)) e
    where
      is : (n : ℕ) → (n == 1) ≡ true → 1 ≡ n
      is n h = grind (arith, nat_tests, h)
  bit_here item false e = not (bit_at m (item - 1)) e (bit_at-lt m (item - 1))
    where
      not : (n : ℕ) → (n == 1) ≡ false → n < 2 → 0 ≡ n
      not n h less = grind (arith, nat_tests, h, less)

  bit_there : (item i : ℕ) (b : Bool) → i ≢ item - 1 → own_bit item i b ≡ 0
  bit_there item i true other = bit_at-pow_other (item - 1) i other
  bit_there item i false other = refl

  bit_before : (n item i : ℕ) → i + 1 < item → bit_at (marks_from item n) i ≡ 0
  bit_before zero item i less = bit_at-zero i
  bit_before (suc n) item i less =
      one_more item i (filter (has_bit m) (range_with_len (item + 1) n)) (has_bit m item)
      ∙ ap (λ b. max b (bit_at (marks_from (item + 1) n) i)) (bit_there item i (has_bit m item) (λ e. omega (arith, e, less)))
      ∙ ap (max 0) (bit_before n (item + 1) i (omega (arith, less)))

  bit_within : (n item i : ℕ) → 1 ≤ item → item ≤ i + 1 → i + 1 < item + n → bit_at (marks_from item n) i ≡ bit_at m i
  bit_within zero item i one some less = absurd (omega (arith, some, less))
  bit_within (suc n) item i one some less =
      one_more item i (filter (has_bit m) (range_with_len (item + 1) n)) (has_bit m item)
      ∙ bool_cases (item == i + 1) (λ b. (item == i + 1) ≡ b → max (own_bit item i (has_bit m item)) (bit_at (marks_from (item + 1) n) i) ≡ bit_at m i)
      (λ t is. let e : i ≡ item - 1 = eq item i is in
      ap (λ k. max (own_bit item k (has_bit m item)) (bit_at (marks_from (item + 1) n) i)) e
      ∙ ap (λ b. max b (bit_at (marks_from (item + 1) n) i)) (bit_here item (has_bit m item) refl)
      ∙ ap (max (bit_at m (item - 1))) (bit_before n (item + 1) i (next item i is))
      ∙ most (bit_at m (item - 1)) ∙ ap (bit_at m) (sym e))
      (λ f not. let later : item < i + 1 = lt item i not some in
      ap (λ b. max b (bit_at (marks_from (item + 1) n) i)) (bit_there item i (has_bit m item) (λ e. omega (arith, e, later, one)))
      ∙ ap (max 0) (bit_within n (item + 1) i (omega arith) (omega (arith, later)) (omega (arith, less)))
      ∙ least (bit_at m i))
      refl
    where
      eq : (a b : ℕ) → (a == b + 1) ≡ true → b ≡ a - 1
      eq a b h = grind (arith, nat_tests, h)

      next : (a b : ℕ) → (a == b + 1) ≡ true → b + 1 < a + 1
      next a b h = grind (arith, nat_tests, h)

      lt : (a b : ℕ) → (a == b + 1) ≡ false → a ≤ b + 1 → a < b + 1
      lt a b h le = grind (arith, nat_tests, h, le)

      least : (a : ℕ) → max 0 a ≡ a
      least a = omega arith

      most : (a : ℕ) → max a 0 ≡ a
      most a = omega arith

  bit_after : (n item i : ℕ) → 1 ≤ item → item + n ≤ i + 1 → bit_at (marks_from item n) i ≡ 0
  bit_after zero item i some past = bit_at-zero i
  bit_after (suc n) item i some past =
      one_more item i (filter (has_bit m) (range_with_len (item + 1) n)) (has_bit m item)
      ∙ ap (λ b. max b (bit_at (marks_from (item + 1) n) i)) (bit_there item i (has_bit m item) (λ e. omega (arith, e, some, past)))
      ∙ ap (max 0) (bit_after n (item + 1) i (omega arith) (omega (arith, past)))

  pub marks_again : m < 2 ^ 16 → marks_from 1 16 ≡ m
  marks_again small =
      same_from_bits (marks_from 1 16) m
      (λ i. bool_cases (nat_lt i 16) (λ b. nat_lt i 16 ≡ b → bit_at (marks_from 1 16) i ≡ bit_at m i)
      (λ t is. bit_within 16 1 i (omega arith) (omega arith) (below i is))
      (λ f is. bit_after 16 1 i (omega arith) (beyond i is) ∙ sym (bit_at_above m 16 i small (from i is)))
      refl)
    where
      below : (i : ℕ) → nat_lt i 16 ≡ true → i + 1 < 17
      below i h = grind (arith, nat_tests, h)

      from : (i : ℕ) → nat_lt i 16 ≡ false → 16 ≤ i
      from i h = grind (arith, nat_tests, h)

      beyond : (i : ℕ) → nat_lt i 16 ≡ false → 17 ≤ i + 1
      beyond i h = grind (arith, nat_tests, h)
