-- The owner that the first of some views gives to a letter, where one view more comes.
use Rattle.std.proofs.Common.{◌≡◌, ℕ, suc, ◌<◌, ◌≤◌, ◌+◌, ◌==◌, nat_lt, Bool, true, false, not, cond, Option, Some, None, option_map, List, [], ◌∷◌, ◌++◌, length, get_or, position, take, refl, sym, ap, ◌∙◌, arith}
use Rattle.std.specs.Prelude.{find, is_some, option_and_then}
use Rattle.std.specs.List.{position_or_len}
use Rattle.std.specs.Option.{option_or}
use Rattle.std.proofs.lemmas.Bool.Decides.{nat_tests}
use Rattle.std.proofs.lemmas.List.{length-append, length-take-le, take_more}
use Rattle.std.proofs.lemmas.List.Folds.{position_or_len_push}
use Rattle.tv_model.specs.declared.node.Node.{Node}
use Rattle.tv_model.specs.Description.Owners.{owner_by}
use Rattle.tv_check.specs.Owners.{first_owner}

module _ {A B : Type 0} (f : A → Option B) where
  -- what the first item gives that gives something
  abbrev first : List A → Option B
  first xs = option_and_then f (find (λ x. is_some (f x)) xs)

  alone : (x : A) (b : Option B) → f x ≡ b → option_and_then f (cond (is_some b) (Some x) None) ≡ f x
  alone x None e = sym e
  alone x (Some y) e = refl

  after : (x y : A) (b : Option B) → f y ≡ b → (found more : Option A) → option_and_then f more ≡ option_or (option_and_then f found) (f x)
      → option_and_then f (cond (is_some b) (Some y) more) ≡ option_or (option_and_then f (cond (is_some b) (Some y) found)) (f x)
  after x y None e found more later = later
  after x y (Some z) e found more later = rw e refl

  first_pushed : (xs : List A) (x : A) → first (xs ++ x ∷ []) ≡ option_or (first xs) (f x)
  first_pushed [] x = alone x (f x) refl
  first_pushed (y ∷ ys) x = after x y (f y) refl (find (λ z. is_some (f z)) ys) (find (λ z. is_some (f z)) (ys ++ x ∷ [])) (first_pushed ys x)

pub owner_more : (views : List Node) (i : ℕ) (view : Node) (letter : ℕ) → i < length views → view ≡ get_or views i view
    → first_owner (take (i + 1) views) letter ≡ option_or (first_owner (take i views) letter) (owner_by letter view.kind)
owner_more views i view letter less is =
    ap (λ list. first_owner list letter) (take_more views i view less ∙ ap (λ last. take i views ++ last ∷ []) (sym is))
    ∙ first_pushed (λ (node : Node). owner_by letter node.kind) (take i views) view

-- ---- the items of a cluster

-- the place of the first that passes, by its place or the length
at_place : (m n : ℕ) (b : Bool) → m ≤ n
    → cond (nat_lt (cond (m == n) (n + cond b 0 1) m) (n + 1)) (Some (cond (m == n) (n + cond b 0 1) m)) None ≡ option_or (cond (nat_lt m n) (Some m) None) (cond b (Some n) None)
at_place m n true le = grind (arith, nat_tests)
at_place m n false le = grind (arith, nat_tests)

one_more : (b : Bool) (m n : ℕ) → m ≤ n → cond (not b) (1 + m) 0 ≤ suc n
one_more true m n le = omega arith
one_more false m n le = omega arith

within : {A : Type 0} (p : A → Bool) (xs : List A) → position_or_len p xs ≤ length xs
within p [] = omega arith
within p (x ∷ xs) = one_more (p x) (position_or_len p xs) (length xs) (within p xs)

position_pushed : {A : Type 0} (p : A → Bool) (xs : List A) (x : A) → position p (xs ++ x ∷ []) ≡ option_or (position p xs) (cond (p x) (Some (length xs)) None)
position_pushed p xs x =
    let last = position_or_len_push p xs x in
    let long : length (xs ++ x ∷ []) ≡ length xs + 1 = length-append xs (x ∷ []) in
    rw (last, long) (at_place (position_or_len p xs) (length xs) (p x) (within p xs))

module _ {B : Type 0} (f : ℕ → B) where
  item_or : (o : Option B) (found : Option ℕ) (b : Bool) (i : ℕ)
      → option_or (option_or o (option_map f found)) (cond b (Some (f i)) None) ≡ option_or o (option_map f (option_or found (cond b (Some i) None)))
  item_or (Some y) found b i = refl
  item_or None (Some j) b i = refl
  item_or None None true i = refl
  item_or None None false i = refl

  -- what the map has after one item more
  pub item_more : {A : Type 0} (p : A → Bool) (items : List A) (i : ℕ) (item : A) (o : Option B) → i < length items → item ≡ get_or items i item
      → option_or (option_or o (option_map f (position p (take i items)))) (cond (p item) (Some (f i)) None) ≡ option_or o (option_map f (position p (take (i + 1) items)))
  item_more p items i item o less is =
      let long : length (take i items) ≡ i = length-take-le i items (omega arith) in
      item_or o (position p (take i items)) (p item) i
      ∙ ap (λ n. option_or o (option_map f (option_or (position p (take i items)) (cond (p item) (Some n) None)))) (sym long)
      ∙ ap (λ found. option_or o (option_map f found)) (sym (position_pushed p (take i items) item))
      ∙ ap (λ list. option_or o (option_map f (position p list))) (sym (take_more items i item less ∙ ap (λ last. take i items ++ last ∷ []) (sym is)))
