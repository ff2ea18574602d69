-- The marked items with a space between, one item more.
use Rattle.std.proofs.Common.{◌≡◌, ℕ, ◌+◌, ◌-◌, ◌≤◌, true, false, List, [], ◌∷◌, ◌++◌, map, filter, cond, refl, sym, ap, ◌∙◌, arith, decimal, append_assoc, codes, length, ◌==◌}
use Rattle.std.proofs.lemmas.List.{append-nil, map-append, map-id}
use Rattle.std.proofs.lemmas.List.FromFn.{filter_of_map_range_with_len_more}
use Rattle.std.specs.List.{range_with_len}
use Rattle.tv_model.specs.Log.LogText.{spaced, has_bit, marks_text}

-- words with a space between, none for no words
pub joined : List (List ℕ) → List ℕ
joined [] = []
joined (word ∷ words) = spaced (word ∷ words)

-- what comes before the next word
pub separator : List (List ℕ) → List ℕ
separator [] = []
separator (word ∷ words) = 32 ∷ []

-- the words of the marked items below one
pub words_below : ℕ → ℕ → List (List ℕ)
words_below marks item = map decimal (filter (has_bit marks) (range_with_len 1 (item - 1)))

joined-push : (ws : List (List ℕ)) (w : List ℕ) → joined (ws ++ w ∷ []) ≡ joined ws ++ separator ws ++ w
unfolding joined separator
joined-push [] w = refl
joined-push (v ∷ []) w = sym (append_assoc v (32 ∷ []) w)
joined-push (v ∷ u ∷ us) w = ap (λ t. v ++ 32 ∷ t) (joined-push (u ∷ us) w) ∙ simp append_assoc

separator-push : (ws : List (List ℕ)) (w : List ℕ) → separator (ws ++ w ∷ []) ≡ 32 ∷ []
unfolding separator
separator-push [] w = refl
separator-push (v ∷ ws) w = refl

chosen : (marks n : ℕ) → filter (has_bit marks) (range_with_len 1 (n + 1)) ≡ filter (has_bit marks) (range_with_len 1 n) ++ cond (has_bit marks (1 + n)) ((1 + n) ∷ []) []
chosen marks n =
    sym (ap (filter (has_bit marks)) (map-id (range_with_len 1 (n + 1))))
    ∙ filter_of_map_range_with_len_more (has_bit marks) (λ x. x) 1 n (1 + n) refl
    ∙ ap (λ xs. filter (has_bit marks) xs ++ cond (has_bit marks (1 + n)) ((1 + n) ∷ []) []) (map-id (range_with_len 1 n))

module _ (marks item : ℕ) (some : 1 ≤ item) where
  before : item + 1 - 1 ≡ item - 1 + 1
  before = omega arith

  here : 1 + (item - 1) ≡ item
  here = omega arith

  words-more : words_below marks (item + 1) ≡ words_below marks item ++ map decimal (cond (has_bit marks item) (item ∷ []) [])
  unfolding words_below
  words-more =
      ap (λ n. map decimal (filter (has_bit marks) (range_with_len 1 n))) before
      ∙ ap (map decimal) (chosen marks (item - 1))
      ∙ map-append decimal (filter (has_bit marks) (range_with_len 1 (item - 1))) (cond (has_bit marks (1 + (item - 1))) ((1 + (item - 1)) ∷ []) [])
      ∙ ap (λ n. words_below marks item ++ map decimal (cond (has_bit marks n) (n ∷ []) [])) here

  words-marked : has_bit marks item ≡ true → words_below marks (item + 1) ≡ words_below marks item ++ decimal item ∷ []
  words-marked marked = words-more ∙ ap (λ b. words_below marks item ++ map decimal (cond b (item ∷ []) [])) marked

  words-unmarked : has_bit marks item ≡ false → words_below marks (item + 1) ≡ words_below marks item
  words-unmarked unmarked = words-more ∙ ap (λ b. words_below marks item ++ map decimal (cond b (item ∷ []) [])) unmarked ∙ append-nil (words_below marks item)

  pub joined-marked : has_bit marks item ≡ true → joined (words_below marks (item + 1)) ≡ joined (words_below marks item) ++ separator (words_below marks item) ++ decimal item
  joined-marked marked = ap joined (words-marked marked) ∙ joined-push (words_below marks item) (decimal item)

  pub separator-marked : has_bit marks item ≡ true → separator (words_below marks (item + 1)) ≡ 32 ∷ []
  separator-marked marked = ap separator (words-marked marked) ∙ separator-push (words_below marks item) (decimal item)

  pub joined-unmarked : has_bit marks item ≡ false → joined (words_below marks (item + 1)) ≡ joined (words_below marks item)
  joined-unmarked unmarked = ap joined (words-unmarked unmarked)

  pub separator-unmarked : has_bit marks item ≡ false → separator (words_below marks (item + 1)) ≡ separator (words_below marks item)
  separator-unmarked unmarked = ap separator (words-unmarked unmarked)

pub joined-first : (marks : ℕ) → joined (words_below marks 1) ≡ []
unfolding joined words_below
joined-first marks = refl

pub separator-first : (marks : ℕ) → separator (words_below marks 1) ≡ []
unfolding separator words_below
separator-first marks = refl

spaced-none : (ws : List (List ℕ)) → (length (separator ws) == 0) ≡ true → joined ws ++ codes "-" ≡ spaced ws
unfolding joined separator
spaced-none [] e = refl
spaced-none (w ∷ ws) e = absurd cc

spaced-some : (ws : List (List ℕ)) → (length (separator ws) == 0) ≡ false → joined ws ≡ spaced ws
unfolding joined separator
spaced-some [] e = absurd cc
spaced-some (w ∷ ws) e = refl

all_words : (marks : ℕ) → spaced (words_below marks 17) ≡ marks_text marks
unfolding words_below
all_words marks = refl

pub marks_text-none : (marks : ℕ) → (length (separator (words_below marks 17)) == 0) ≡ true → joined (words_below marks 17) ++ codes "-" ≡ marks_text marks
marks_text-none marks e = spaced-none (words_below marks 17) e ∙ all_words marks

pub marks_text-some : (marks : ℕ) → (length (separator (words_below marks 17)) == 0) ≡ false → joined (words_below marks 17) ≡ marks_text marks
marks_text-some marks e = spaced-some (words_below marks 17) e ∙ all_words marks
