-- Items, each judged after those before it.
use Rattle.std.proofs.Common.{◌≡◌, ℕ, zero, suc, ◌<◌, ◌+◌, Bool, true, false, cond, ◌||◌, List, [], ◌∷◌, ◌++◌, map, flat_map, take, drop, length, get_or, refl, sym, ap, ◌∙◌, append-nil, append_assoc, add-one, drop-cons, arith}
use Rattle.std.proofs.lemmas.List.{map-append, take_more}
use Rattle.std.proofs.lemmas.List.Folds.{list_any-append, list_any_more}
use Rattle.std.specs.List.{list_any}
use Rattle.tv_model.specs.Faults.Lines.{after_seen, line_if, lines_where}
use Rattle.tv_model.specs.Faults.Each.{each_after}
use Rattle.tv_model.proofs.ListLemmas.{joined}

pub after_push : {A : Type 0} (seen xs : List A) (x : A) → after_seen seen (xs ++ x ∷ []) ≡ after_seen seen xs ++ (seen ++ xs, x) ∷ []
after_push seen [] x = ap (λ before. (before, x) ∷ []) (sym (append-nil seen))
after_push seen (y ∷ ys) x =
    ap (λ pairs. (seen, y) ∷ pairs)
    (after_push (seen ++ y ∷ []) ys x ∙ ap (λ before. after_seen (seen ++ y ∷ []) ys ++ (before, x) ∷ []) (append_assoc seen (y ∷ []) ys))

-- one item more, with all others before it
after_more : {A : Type 0} (xs : List A) (i : ℕ) (x : A) → i < length xs → x ≡ get_or xs i x → after_seen [] (take (i + 1) xs) ≡ after_seen [] (take i xs) ++ (take i xs, x) ∷ []
after_more xs i x less item = ap (after_seen []) (take_more xs i x less) ∙ after_push [] (take i xs) (get_or xs i x) ∙ ap (λ y. after_seen [] (take i xs) ++ (take i xs, y) ∷ []) (sym item)

or_last : (b c : Bool) → (b || (c || false)) ≡ (b || c)
or_last true c = refl
or_last false true = refl
or_last false false = refl

pub any_more : {A : Type 0} (p : List A × A → Bool) (xs : List A) (i : ℕ) (x : A) → i < length xs → x ≡ get_or xs i x
    → list_any p (after_seen [] (take (i + 1) xs)) ≡ (list_any p (after_seen [] (take i xs)) || p (take i xs, x))
any_more p xs i x less item =
    ap (list_any p) (after_more xs i x less item) ∙ list_any-append p (after_seen [] (take i xs)) ((take i xs, x) ∷ []) ∙ or_last _ _

-- the answer to one item more
pub each_more : {A : Type 0} (p : List A → A → Bool) (xs : List A) (i : ℕ) (x : A) → i < length xs → x ≡ get_or xs i x
    → (judged more : List Bool) (is_so : Bool) → judged ≡ each_after p (take i xs) → more ≡ judged ++ is_so ∷ [] → is_so ≡ p (take i xs) x
    → more ≡ each_after p (take (i + 1) xs)
each_more p xs i x less item judged more is_so before pushed so =
    pushed ∙ ap (λ list. list ++ is_so ∷ []) before ∙ ap (λ b. each_after p (take i xs) ++ b ∷ []) so
    ∙ sym (ap (map (λ pair. p pair.0 pair.1)) (after_more xs i x less item) ∙ map-append (λ pair. p pair.0 pair.1) (after_seen [] (take i xs)) ((take i xs, x) ∷ []))

first_or : (b c : Bool) → cond b true c ≡ (c || b)
first_or true true = refl
first_or true false = refl
first_or false true = refl
first_or false false = refl

-- one item more that may pass the test, as a set's answer puts it
pub passed_more : {A : Type 0} (p : A → Bool) (xs : List A) (i : ℕ) (x : A) → i < length xs → x ≡ get_or xs i x
    → (before after : Bool) → before ≡ list_any p (take i xs) → after ≡ cond (p x) true before → after ≡ list_any p (take (i + 1) xs)
passed_more p xs i x less item before after so_far now =
    now ∙ first_or (p x) before ∙ ap (λ b. b || p x) so_far ∙ ap (λ y. list_any p (take i xs) || p y) item ∙ sym (list_any_more p xs i x less)

-- ---- what was judged, and the lines with a fault

length_judged : {A : Type 0} (p : List A → A → Bool) (seen items : List A) → length (map (λ pair. p pair.0 pair.1) (after_seen seen items)) ≡ length items
length_judged p seen [] = refl
length_judged p seen (x ∷ xs) = ap suc (length_judged p (seen ++ x ∷ []) xs)

judged_at : {A : Type 0} (p : List A → A → Bool) (seen items : List A) (i : ℕ) (b : Bool) (d : A) → i < length items
    → get_or (map (λ pair. p pair.0 pair.1) (after_seen seen items)) i b ≡ p (seen ++ take i items) (get_or items i d)
judged_at p seen [] i b d less = absurd (omega arith)
judged_at p seen (x ∷ xs) zero b d less = ap (λ before. p before x) (sym (append-nil seen))
judged_at p seen (x ∷ xs) (suc i) b d less = judged_at p (seen ++ x ∷ []) xs i b d (omega arith) ∙ ap (λ before. p before (get_or xs i d)) (append_assoc seen (x ∷ []) (take i xs))

pub length_each_after : {A : Type 0} (p : List A → A → Bool) (items : List A) → length (each_after p items) ≡ length items
length_each_after p items = length_judged p [] items

pub each_after_at : {A : Type 0} (p : List A → A → Bool) (items : List A) (i : ℕ) (b : Bool) (d : A) → i < length items
    → get_or (each_after p items) i b ≡ p (take i items) (get_or items i d)
each_after_at p items i b d less = judged_at p [] items i b d less

kept : {A : Type 0} (line : A → ℕ) (b : Bool) (pair : List A × A) (rest : List (List A × A)) → map (λ pair. line pair.1) (cond b (pair ∷ rest) rest) ≡ line_if b (line pair.1) ++ map (λ pair. line pair.1) rest
kept line true pair rest = refl
kept line false pair rest = refl

-- a list that is found part by part: the next part is found
found_next : {F : Type 0} (f : ℕ → F) (head tail whole : List ℕ) (found now all : List F) → now ≡ found ++ map f head → whole ≡ head ++ tail → found ++ map f whole ≡ all → now ++ map f tail ≡ all
found_next f head tail whole found now all is split before =
    ap (λ list. list ++ map f tail) is ∙ append_assoc found (map f head) (map f tail)
    ∙ ap (λ list. found ++ list) (sym (map-append f head tail)) ∙ ap (λ list. found ++ map f list) (sym split) ∙ before

module _ {A F : Type 0} (f : ℕ → F) (line : A → ℕ) (p : List A → A → Bool) (items : List A) (faulty : List Bool) (i : ℕ) (b : Bool) (x : A) (less : i < length items) (judged : faulty ≡ each_after p items) (here : x ≡ get_or items i x) where
  judged_here : get_or faulty i b ≡ p (take i items) x
  judged_here = ap (λ list. get_or list i b) judged ∙ each_after_at p items i b x less ∙ ap (p (take i items)) (sym here)

  seen_next : take (i + 1) items ≡ take i items ++ x ∷ []
  seen_next = take_more items i x less ∙ ap (λ y. take i items ++ y ∷ []) (sym here)

  rest_here : drop i items ≡ x ∷ drop (i + 1) items
  rest_here = rw add-one (drop-cons items i x less) ∙ ap (λ y. y ∷ drop (i + 1) items) (sym here)

  -- the lines from the next item on
  pub where_next : (found now all : List F) → now ≡ found ++ map f (line_if (get_or faulty i b) (line x))
      → found ++ map f (lines_where line p (take i items) (drop i items)) ≡ all → now ++ map f (lines_where line p (take (i + 1) items) (drop (i + 1) items)) ≡ all
  where_next found now all is before =
      found_next f (line_if (get_or faulty i b) (line x)) _ _ found now all is
      (ap (lines_where line p (take i items)) rest_here
      ∙ kept line (p (take i items) x) (take i items, x) _
      ∙ ap (λ has. line_if has (line x) ++ lines_where line p (take i items ++ x ∷ []) (drop (i + 1) items)) (sym judged_here)
      ∙ ap (λ before. line_if (get_or faulty i b) (line x) ++ lines_where line p before (drop (i + 1) items)) (sym seen_next))
      before

  -- the same where more lines stand in each item
  pub parts_next : (inner : A → List ℕ) (found own now all : List F) → own ≡ found ++ map f (line_if (get_or faulty i b) (line x)) → now ≡ own ++ map f (inner x)
      → found ++ map f (flat_map (λ pair. line_if (p pair.0 pair.1) (line pair.1) ++ inner pair.1) (after_seen (take i items) (drop i items))) ≡ all
      → now ++ map f (flat_map (λ pair. line_if (p pair.0 pair.1) (line pair.1) ++ inner pair.1) (after_seen (take (i + 1) items) (drop (i + 1) items))) ≡ all
  parts_next inner found own now all is more before =
      let part : List A × A → List ℕ = λ pair. line_if (p pair.0 pair.1) (line pair.1) ++ inner pair.1 in
      found_next f (line_if (get_or faulty i b) (line x) ++ inner x) _ _ found now all
      (more ∙ ap (λ list. list ++ map f (inner x)) is ∙ joined f found (line_if (get_or faulty i b) (line x)) (inner x))
      (ap (λ list. flat_map part (after_seen (take i items) list)) rest_here
      ∙ ap (λ has. (line_if has (line x) ++ inner x) ++ flat_map part (after_seen (take i items ++ x ∷ []) (drop (i + 1) items))) (sym judged_here)
      ∙ ap (λ before. (line_if (get_or faulty i b) (line x) ++ inner x) ++ flat_map part (after_seen before (drop (i + 1) items))) (sym seen_next))
      before
