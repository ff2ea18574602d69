-- Items judged after those before them, one after the other.
use Rattle.std.proofs.Common.{◌≡◌, ℕ, ◌+◌, ◌<◌, Bool, true, false, ◌||◌, List, [], ◌∷◌, ◌++◌, map, take, drop, get_or, length, sym, ap, ◌∙◌, append_assoc, arith}
use Rattle.std.specs.List.{list_any}
use Rattle.std.proofs.lemmas.List.{drop_more, take_more}
use Rattle.tv_model.specs.Faults.Lines.{after_seen}

after_one : {A : Type 0} (xs : List A) (i : ℕ) (d : A) → i < length xs → after_seen (take i xs) (drop i xs) ≡ (take i xs, get_or xs i d) ∷ after_seen (take (i + 1) xs) (drop (i + 1) xs)
after_one xs i d less =
    ap (after_seen (take i xs)) (drop_more xs i d less)
    ∙ ap (λ seen. (take i xs, get_or xs i d) ∷ after_seen seen (drop (i + 1) xs)) (sym (take_more xs i d less))

each_with : {A B : Type 0} (f : List A × A → B) (xs : List A) (i : ℕ) (found all : List B) (b : B) (d : A) → i < length xs
    → found ++ map f (after_seen (take i xs) (drop i xs)) ≡ all → b ≡ f (take i xs, get_or xs i d) → (found ++ b ∷ []) ++ map f (after_seen (take (i + 1) xs) (drop (i + 1) xs)) ≡ all
each_with f xs i found all b d less so_far is =
    append_assoc found (b ∷ []) (map f (after_seen (take (i + 1) xs) (drop (i + 1) xs)))
    ∙ ap (λ c. found ++ c ∷ map f (after_seen (take (i + 1) xs) (drop (i + 1) xs))) is
    ∙ ap (λ list. found ++ map f list) (sym (after_one xs i d less))
    ∙ so_far

-- the next item is judged
pub each_more : {A B : Type 0} (f : List A × A → B) (xs : List A) (i : ℕ) (found all : List B) (b : B) → i < length xs
    → found ++ map f (after_seen (take i xs) (drop i xs)) ≡ all → ((d : A) → b ≡ f (take i xs, get_or xs i d)) → (found ++ b ∷ []) ++ map f (after_seen (take (i + 1) xs) (drop (i + 1) xs)) ≡ all
each_more f [] i found all b less so_far is = absurd (omega arith)
each_more f (x ∷ xs) i found all b less so_far is = each_with f (x ∷ xs) i found all b x less so_far (is x)

module _ {A : Type 0} (p : List A × A → Bool) (xs : List A) (i : ℕ) (d : A) (less : i < length xs) where
  pub any_found : p (take i xs, get_or xs i d) ≡ true → list_any p (after_seen (take i xs) (drop i xs)) ≡ true
  any_found is = ap (list_any p) (after_one xs i d less) ∙ ap (λ b. b || list_any p (after_seen (take (i + 1) xs) (drop (i + 1) xs))) is

  pub any_passed : p (take i xs, get_or xs i d) ≡ false → list_any p (after_seen (take (i + 1) xs) (drop (i + 1) xs)) ≡ list_any p (after_seen (take i xs) (drop i xs))
  any_passed is = sym (ap (list_any p) (after_one xs i d less) ∙ ap (λ b. b || list_any p (after_seen (take (i + 1) xs) (drop (i + 1) xs))) is)
