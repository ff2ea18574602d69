-- The marked items, one item more.
use Rattle.std.proofs.Common.{◌≡◌, ℕ, ◌+◌, ◌-◌, ◌≤◌, true, false, List, [], ◌∷◌, ◌++◌, map, filter, cond, pos, refl, sym, ap, ◌∙◌, arith}
use Rattle.std.specs.Prelude.{ℤ}
use Rattle.std.proofs.lemmas.List.{append-nil, map-append, map-id}
use Rattle.std.proofs.lemmas.List.FromFn.{filter_of_map_range_with_len_more}
use Rattle.std.specs.List.{range_with_len}
use Rattle.tv_model.specs.Log.LogText.{has_bit}

-- the marked items below one
pub items_below : ℕ → ℕ → List ℤ
items_below marks item = map pos (filter (has_bit marks) (range_with_len 1 (item - 1)))

chosen : (marks n : ℕ) → filter (has_bit marks) (range_with_len 1 (n + 1)) ≡ filter (has_bit marks) (range_with_len 1 n) ++ cond (has_bit marks (1 + n)) ((1 + n) ∷ []) []
chosen marks n =
    sym (ap (filter (has_bit marks)) (map-id (range_with_len 1 (n + 1))))
    ∙ filter_of_map_range_with_len_more (has_bit marks) (λ x. x) 1 n (1 + n) refl
    ∙ ap (λ xs. filter (has_bit marks) xs ++ cond (has_bit marks (1 + n)) ((1 + n) ∷ []) []) (map-id (range_with_len 1 n))

module _ (marks item : ℕ) (some : 1 ≤ item) where
  before : item + 1 - 1 ≡ item - 1 + 1
  before = omega arith

  here : 1 + (item - 1) ≡ item
  here = omega arith

  more : items_below marks (item + 1) ≡ items_below marks item ++ map pos (cond (has_bit marks item) (item ∷ []) [])
  unfolding items_below
  more =
      ap (λ n. map pos (filter (has_bit marks) (range_with_len 1 n))) before
      ∙ ap (map pos) (chosen marks (item - 1))
      ∙ map-append pos (filter (has_bit marks) (range_with_len 1 (item - 1))) (cond (has_bit marks (1 + (item - 1))) ((1 + (item - 1)) ∷ []) [])
      ∙ ap (λ n. items_below marks item ++ map pos (cond (has_bit marks n) (n ∷ []) [])) here

  pub marked : has_bit marks item ≡ true → items_below marks (item + 1) ≡ items_below marks item ++ pos item ∷ []
  marked is = more ∙ ap (λ b. items_below marks item ++ map pos (cond b (item ∷ []) [])) is

  pub unmarked : has_bit marks item ≡ false → items_below marks (item + 1) ≡ items_below marks item
  unmarked is = more ∙ ap (λ b. items_below marks item ++ map pos (cond b (item ∷ []) [])) is ∙ append-nil (items_below marks item)

pub none_below : (marks : ℕ) → items_below marks 1 ≡ []
unfolding items_below
none_below marks = refl

pub all_below : (marks : ℕ) → items_below marks 17 ≡ map pos (filter (has_bit marks) (range_with_len 1 16))
unfolding items_below
all_below marks = refl
