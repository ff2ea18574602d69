-- The next control and the previous one in a dialog's tree.
use Rattle.std.proofs.Common.{◌≡◌, Bool, true, false, cond, not, ◌==◌, ◌≤◌, ◌+◌, suc, if◌then◌else◌, List, [], ◌∷◌, ◌++◌, map, find, reverse, take, drop, length, position, Option, Some, None, option_map, refl, sym, ap, subst, ◌∙◌, All, arith, nat_lt, ltb-false}
use Rattle.std.specs.Prelude.{unwrap_or}
use Rattle.std.specs.List.{position_or_len}
use Rattle.std.specs.Option.{option_or}
use Rattle.std.proofs.lemmas.List.{append_assoc, reverse-append, map-append}
use Rattle.std.proofs.lemmas.List.Folds.{find-append}
use Rattle.std.proofs.lemmas.List.Elements.{All-nil, All-cons, All-head, All-tail, All-append}
use Rattle.tv_model.specs.declared.node.Id.{Id}
use Rattle.tv_model.specs.declared.desc.Dialog.{Dialog}
use Rattle.tv_view.specs.Meaning.{Placed}
use Rattle.tv_machine.specs.State.{LeafState}
use Rattle.tv_machine.specs.Leaves.{PlacedNode, leaf_list}
use Rattle.tv_machine.specs.Dialog.Focus.{Stop, first_free, next_free, others, previous_free, stop_of, stops_of}
use Rattle.tv_machine.specs.Dialog.Rules.{is_among, is_free}
use Rattle.tv_machine.specs.Dialog.Modal.{Modal}
use Rattle.tv_group.specs.declared.focus.Dir.TheVariants.{Backward, Forward}
use Rattle.tv_group.specs.Calls.{after_current, first_in, next_in}
use Rattle.tv_group.specs.Calls as group
use Rattle.tv_machine.specs.Dialog.Lawful.{IsLawfulDialog}
use Rattle.tv_group.specs.Tree.{placed_as, tree_as}
use Rattle.tv_machine.proofs.ListLemmas.{AreApart, bool_cases, find-map, found-passes, has, none-fails, option_cases, others-fail, same-id}
use Rattle.tv_machine.proofs.LeafLemmas.{ids-apart, leaf_id}

-- ---- before and after the first that passes a test

abbrev before : {A : Type 0} → (A → Bool) → List A → List A
before p [] = []
before p (x ∷ xs) = if p x then [] else x ∷ before p xs

abbrev after : {A : Type 0} → (A → Bool) → List A → List A
after p [] = []
after p (x ∷ xs) = if p x then xs else after p xs

take_before : {A : Type 0} (p : A → Bool) (xs : List A) → take (position_or_len p xs) xs ≡ before p xs
take_before p [] = refl
take_before p (x ∷ xs) =
    bool_cases (p x) (λ b. take (cond (not b) (1 + position_or_len p xs) 0) (x ∷ xs) ≡ (if b then [] else x ∷ before p xs))
    (λ is. refl)
    (λ is.
    let next : 1 + position_or_len p xs ≡ suc (position_or_len p xs) = omega arith in
    ap (λ n. take n (x ∷ xs)) next ∙ ap (λ ys. x ∷ ys) (take_before p xs))

drop_after : {A : Type 0} (p : A → Bool) (xs : List A) → drop (position_or_len p xs + 1) xs ≡ after p xs
drop_after p [] = refl
drop_after p (x ∷ xs) =
    bool_cases (p x) (λ b. drop (cond (not b) (1 + position_or_len p xs) 0 + 1) (x ∷ xs) ≡ (if b then xs else after p xs))
    (λ is. refl)
    (λ is.
    let next : (1 + position_or_len p xs) + 1 ≡ suc (position_or_len p xs + 1) = omega arith in
    ap (λ n. drop n (x ∷ xs)) next ∙ drop_after p xs)

place_within : {A : Type 0} (p : A → Bool) (xs : List A) → position_or_len p xs ≤ length xs
place_within p [] = omega arith
place_within p (x ∷ xs) =
    let more = place_within p xs in
    bool_cases (p x) (λ b. cond (not b) (1 + position_or_len p xs) 0 ≤ suc (length xs)) (λ is. omega arith) (λ is. omega (arith, more))

place_is : {A : Type 0} (p : A → Bool) (xs : List A) → unwrap_or (position p xs) (length xs) ≡ position_or_len p xs
place_is p xs =
    let within = place_within p xs in
    bool_cases (nat_lt (position_or_len p xs) (length xs))
    (λ b. unwrap_or (cond b (Some (position_or_len p xs)) None) (length xs) ≡ position_or_len p xs)
    (λ is. refl)
    (λ is. let past : length xs ≤ position_or_len p xs = ltb-false (position_or_len p xs) (length xs) is in omega (arith, within))

others_are : (focus : Id) (stops : List Stop)
    → others stops focus ≡ after (λ stop. stop.id.0 == focus.0) stops ++ before (λ stop. stop.id.0 == focus.0) stops
others_are focus stops =
    let p = λ (stop : Stop). stop.id.0 == focus.0 in
    ap (λ n. drop (n + 1) stops ++ take n stops) (place_is p stops)
    ∙ ap (λ ys. ys ++ take (position_or_len p stops) stops) (drop_after p stops)
    ∙ ap (λ ys. after p stops ++ ys) (take_before p stops)

after_map : {A B : Type 0} (f : A → B) (p : B → Bool) (xs : List A) → after p (map f xs) ≡ map f (after (λ x. p (f x)) xs)
after_map f p [] = refl
after_map f p (x ∷ xs) =
    bool_cases (p (f x)) (λ b. (if b then map f xs else after p (map f xs)) ≡ map f (if b then xs else after (λ y. p (f y)) xs))
    (λ is. refl) (λ is. after_map f p xs)

before_map : {A B : Type 0} (f : A → B) (p : B → Bool) (xs : List A) → before p (map f xs) ≡ map f (before (λ x. p (f x)) xs)
before_map f p [] = refl
before_map f p (x ∷ xs) =
    bool_cases (p (f x)) (λ b. (if b then [] else f x ∷ before p (map f xs)) ≡ map f (if b then [] else x ∷ before (λ y. p (f y)) xs))
    (λ is. refl) (λ is. ap (λ ys. f x ∷ ys) (before_map f p xs))

current_after : (xs : List Placed) → after_current xs ≡ after (λ x. x.is_current) xs
current_after [] = refl
current_after (x ∷ xs) = ap (λ ys. if x.is_current then xs else ys) (current_after xs)

-- ---- none passes, or one does

after_none : {A : Type 0} (p : A → Bool) (xs : List A) → All (λ x. p x ≡ false) xs → after p xs ≡ []
after_none p [] all = refl
after_none p (x ∷ xs) all =
    ap (λ b. if b then xs else after p xs) (All-head (λ y. p y ≡ false) x xs all) ∙ after_none p xs (All-tail (λ y. p y ≡ false) x xs all)

before_none : {A : Type 0} (p : A → Bool) (xs : List A) → All (λ x. p x ≡ false) xs → before p xs ≡ xs
before_none p [] all = refl
before_none p (x ∷ xs) all =
    ap (λ b. if b then [] else x ∷ before p xs) (All-head (λ y. p y ≡ false) x xs all)
    ∙ ap (λ ys. x ∷ ys) (before_none p xs (All-tail (λ y. p y ≡ false) x xs all))

after_one : {A : Type 0} (p : A → Bool) (xs : List A) (x : A) (ys : List A) → All (λ y. p y ≡ false) xs → p x ≡ true
    → after p (xs ++ x ∷ ys) ≡ ys
after_one p [] x ys all is = ap (λ b. if b then ys else after p ys) is
after_one p (y ∷ xs) x ys all is =
    ap (λ b. if b then xs ++ x ∷ ys else after p (xs ++ x ∷ ys)) (All-head (λ z. p z ≡ false) y xs all)
    ∙ after_one p xs x ys (All-tail (λ z. p z ≡ false) y xs all) is

before_one : {A : Type 0} (p : A → Bool) (xs : List A) (x : A) (ys : List A) → All (λ y. p y ≡ false) xs → p x ≡ true
    → before p (xs ++ x ∷ ys) ≡ xs
before_one p [] x ys all is = ap (λ b. if b then [] else x ∷ before p ys) is
before_one p (y ∷ xs) x ys all is =
    ap (λ b. if b then [] else y ∷ before p (xs ++ x ∷ ys)) (All-head (λ z. p z ≡ false) y xs all)
    ∙ ap (λ zs. y ∷ zs) (before_one p xs x ys (All-tail (λ z. p z ≡ false) y xs all) is)

before_fails : {A : Type 0} (p : A → Bool) (xs : List A) → All (λ x. p x ≡ false) (before p xs)
before_fails p [] = All-nil (λ x. p x ≡ false)
before_fails p (x ∷ xs) =
    bool_cases (p x) (λ b. All (λ y. p y ≡ false) (if b then [] else x ∷ before p xs))
    (λ is. All-nil (λ y. p y ≡ false)) (λ is. All-cons (λ y. p y ≡ false) x (before p xs) is (before_fails p xs))

parts_are : {A : Type 0} (p : A → Bool) (xs : List A) (x : A) → find p xs ≡ Some x → xs ≡ before p xs ++ x ∷ after p xs
parts_are p [] x e = absurd cc
parts_are p (y ∷ xs) x e =
    bool_cases (p y)
    (λ b. cond b (Some y) (find p xs) ≡ Some x → y ∷ xs ≡ (if b then [] else y ∷ before p xs) ++ x ∷ (if b then xs else after p xs))
    (λ is f. let same : y ≡ x = cc in ap (λ z. z ∷ xs) same) (λ is f. ap (λ ys. y ∷ ys) (parts_are p xs x f)) e

-- ---- the other way round

reverse-cons : {A : Type 0} (x : A) (xs : List A) → reverse (x ∷ xs) ≡ reverse xs ++ x ∷ []
reverse-cons x xs = reverse-append (x ∷ []) xs

pub All-reverse : {A : Type 0} (P : A → Type 0) (xs : List A) → All P xs → All P (reverse xs)
All-reverse P [] all = All-nil P
All-reverse P (x ∷ xs) all =
    subst (All P) (sym (reverse-cons x xs))
    (All-append P (reverse xs) (x ∷ []) (All-reverse P xs (All-tail P x xs all)) (All-cons P x [] (All-head P x xs all) (All-nil P)))

pub map-reverse : {A B : Type 0} (f : A → B) (xs : List A) → reverse (map f xs) ≡ map f (reverse xs)
map-reverse f [] = refl
map-reverse f (x ∷ xs) =
    reverse-cons (f x) (map f xs) ∙ ap (λ ys. ys ++ f x ∷ []) (map-reverse f xs) ∙ sym (map-append f (reverse xs) (x ∷ []))
    ∙ ap (map f) (sym (reverse-cons x xs))

turned : {A : Type 0} (xs : List A) (x : A) (ys : List A) → reverse (xs ++ x ∷ ys) ≡ reverse ys ++ x ∷ reverse xs
turned xs x ys =
    reverse-append xs (x ∷ ys) ∙ ap (λ zs. zs ++ reverse xs) (reverse-cons x ys) ∙ append_assoc (reverse ys) (x ∷ []) (reverse xs)

module _ {A : Type 0} (id : A → Id) (i : Id) where
  after_fails : (xs : List A) → AreApart (map id xs) → All (λ x. has id i x ≡ false) (after (has id i) xs)
  after_fails [] apart = All-nil (λ x. has id i x ≡ false)
  after_fails (x ∷ xs) apart =
      bool_cases (has id i x) (λ b. All (λ y. has id i y ≡ false) (if b then xs else after (has id i) xs))
      (λ here. others-fail id xs i (ap (is_among (map id xs)) (sym (same-id (id x) i here)) ∙ apart.0)) (λ there. after_fails xs apart.1)

  -- what is met cyclically is met backwards the other way round
  backwards : (xs : List A) → AreApart (map id xs)
      → after (has id i) (reverse xs) ++ before (has id i) (reverse xs) ≡ reverse (after (has id i) xs ++ before (has id i) xs)
  backwards xs apart =
      let p = has id i in
      option_cases (find p xs) (λ o. after p (reverse xs) ++ before p (reverse xs) ≡ reverse (after p xs ++ before p xs))
      (λ none.
      let fails = none-fails p xs none in
      let turned_fails = All-reverse (λ x. p x ≡ false) xs fails in
      ap (λ ys. ys ++ before p (reverse xs)) (after_none p (reverse xs) turned_fails) ∙ before_none p (reverse xs) turned_fails
      ∙ ap reverse (sym (ap (λ ys. ys ++ before p xs) (after_none p xs fails) ∙ before_none p xs fails)))
      (λ x found.
      let b = before p xs in
      let a = after p xs in
      let whole : reverse xs ≡ reverse a ++ x ∷ reverse b = ap reverse (parts_are p xs x found) ∙ turned b x a in
      let fails = All-reverse (λ y. p y ≡ false) a (after_fails xs apart) in
      let here = found-passes p xs x found in
      ap (λ ys. after p ys ++ before p ys) whole
      ∙ ap (λ ys. ys ++ before p (reverse a ++ x ∷ reverse b)) (after_one p (reverse a) x (reverse b) fails here)
      ∙ ap (λ ys. reverse b ++ ys) (before_one p (reverse a) x (reverse b) fails here)
      ∙ sym (reverse-append a b))

-- ---- the first free one

module _ (free : PlacedNode → Bool) (i : Id) where
  abbrev first : List PlacedNode → Option Id
  first xs = option_map leaf_id (find free xs)

  first-append : (xs ys : List PlacedNode) → first (xs ++ ys) ≡ option_or (first xs) (first ys)
  first-append xs ys = ap (option_map leaf_id) (find-append free xs ys) ∙ of (find free xs)
    where
      of : (o : Option PlacedNode) → option_map leaf_id (option_or o (find free ys)) ≡ option_or (option_map leaf_id o) (first ys)
      of None = refl
      of (Some x) = refl

  abbrev first_at : Bool → PlacedNode → List PlacedNode → Option Id
  first_at b x xs = option_map leaf_id (cond b (Some x) (find free xs))

  -- where none is free behind the focus
  from_before : (xs : List PlacedNode) → first (after (has leaf_id i) xs) ≡ None
      → unwrap_or (first xs) i ≡ unwrap_or (first (before (has leaf_id i) xs)) i
  from_before [] none = refl
  from_before (x ∷ xs) none =
      bool_cases (has leaf_id i x)
      (λ b. first (if b then xs else after (has leaf_id i) xs) ≡ None
      → unwrap_or (first (x ∷ xs)) i ≡ unwrap_or (first (if b then [] else x ∷ before (has leaf_id i) xs)) i)
      (λ here past. bool_cases (free x) (λ f. unwrap_or (first_at f x xs) i ≡ i) (λ f. same-id x.node.id i here)
      (λ f. ap (λ o. unwrap_or o i) past))
      (λ there past. bool_cases (free x) (λ f. unwrap_or (first_at f x xs) i ≡ unwrap_or (first_at f x (before (has leaf_id i) xs)) i)
      (λ f. refl) (λ f. from_before xs past))
      none

  forwards : (xs : List PlacedNode)
      → unwrap_or (option_or (first (after (has leaf_id i) xs)) (first xs)) i
      ≡ unwrap_or (first (after (has leaf_id i) xs ++ before (has leaf_id i) xs)) i
  forwards xs =
      option_cases (first (after (has leaf_id i) xs))
      (λ o. unwrap_or (option_or o (first xs)) i ≡ unwrap_or (option_or o (first (before (has leaf_id i) xs))) i)
      (λ none. from_before xs none) (λ x some. refl)
      ∙ ap (λ o. unwrap_or o i) (sym (first-append (after (has leaf_id i) xs) (before (has leaf_id i) xs)))

-- ---- the tree

option_then : {A B C : Type 0} (g : B → C) (f : A → B) (o : Option A) → option_map g (option_map f o) ≡ option_map (λ x. g (f x)) o
option_then g f None = refl
option_then g f (Some x) = refl

module _ (d : Dialog) (ruled : List LeafState) (m : Modal) where
  abbrev here : PlacedNode → Bool
  here = has leaf_id m.focus

  placed_first : (xs : List PlacedNode) → group.first_free_leaf (map (placed_as d ruled m) xs) ≡ first (is_free d ruled) m.focus xs
  placed_first xs =
      ap (option_map (λ x. x.leaf.node.id)) (find-map (placed_as d ruled m) (λ x. group.is_free_control x.leaf) xs)
      ∙ option_then (λ x. x.leaf.node.id) (placed_as d ruled m) (find (is_free d ruled) xs)

  stops_first : (xs : List PlacedNode) → first_free (map (stop_of d ruled) xs) ≡ first (is_free d ruled) m.focus xs
  stops_first xs =
      ap (option_map (λ stop. stop.id)) (find-map (stop_of d ruled) (λ stop. stop.is_free) xs)
      ∙ option_then (λ stop. stop.id) (stop_of d ruled) (find (is_free d ruled) xs)

  next_first : (xs : List PlacedNode)
      → group.first_free_leaf (after_current (map (placed_as d ruled m) xs)) ≡ first (is_free d ruled) m.focus (after here xs)
  next_first xs =
      ap group.first_free_leaf (current_after (map (placed_as d ruled m) xs) ∙ after_map (placed_as d ruled m) (λ x. x.is_current) xs)
      ∙ placed_first (after here xs)

  other_stops : others (stops_of d ruled) m.focus
      ≡ map (stop_of d ruled) (after here (leaf_list d.views) ++ before here (leaf_list d.views))
  other_stops =
      let p = λ (stop : Stop). stop.id.0 == m.focus.0 in
      let xs = leaf_list d.views in
      others_are m.focus (stops_of d ruled) ∙ ap (λ ys. ys ++ before p (stops_of d ruled)) (after_map (stop_of d ruled) p xs)
      ∙ ap (λ ys. map (stop_of d ruled) (after here xs) ++ ys) (before_map (stop_of d ruled) p xs)
      ∙ sym (map-append (stop_of d ruled) (after here xs) (before here xs))

  -- the first free control
  pub first-tree : first_in Forward (tree_as d ruled m) ≡ first_free (stops_of d ruled)
  unfolding first_in
  first-tree = placed_first (leaf_list d.views) ∙ sym (stops_first (leaf_list d.views))

  -- the next one, cyclically
  pub next-tree : unwrap_or (option_or (next_in Forward (tree_as d ruled m)) (first_in Forward (tree_as d ruled m))) m.focus
      ≡ next_free (stops_of d ruled) m.focus
  unfolding first_in next_in
  next-tree =
      let xs = leaf_list d.views in
      ap (λ o. unwrap_or (option_or o (group.first_free_leaf (tree_as d ruled m))) m.focus) (next_first xs)
      ∙ ap (λ o. unwrap_or (option_or (first (is_free d ruled) m.focus (after here xs)) o) m.focus) (placed_first xs)
      ∙ forwards (is_free d ruled) m.focus xs
      ∙ ap (λ o. unwrap_or o m.focus) (sym (ap first_free other_stops ∙ stops_first (after here xs ++ before here xs)))

  -- the previous one, cyclically
  pub previous-tree : IsLawfulDialog d
      → unwrap_or (option_or (next_in Backward (tree_as d ruled m)) (first_in Backward (tree_as d ruled m))) m.focus
      ≡ previous_free (stops_of d ruled) m.focus
  unfolding first_in next_in
  previous-tree lawful =
      let xs = leaf_list d.views in
      let placed = map-reverse (placed_as d ruled m) xs in
      let cyclic = after here xs ++ before here xs in
      ap (λ ys. unwrap_or (option_or (group.first_free_leaf (after_current ys)) (group.first_free_leaf ys)) m.focus) placed
      ∙ ap (λ o. unwrap_or (option_or o (group.first_free_leaf (map (placed_as d ruled m) (reverse xs)))) m.focus) (next_first (reverse xs))
      ∙ ap (λ o. unwrap_or (option_or (first (is_free d ruled) m.focus (after here (reverse xs))) o) m.focus) (placed_first (reverse xs))
      ∙ forwards (is_free d ruled) m.focus (reverse xs)
      ∙ ap (λ ys. unwrap_or (first (is_free d ruled) m.focus ys) m.focus) (backwards leaf_id m.focus xs (ids-apart d lawful))
      ∙ ap (λ o. unwrap_or o m.focus)
      (sym (ap (λ stops. first_free (reverse stops)) other_stops ∙ ap first_free (map-reverse (stop_of d ruled) cyclic)
      ∙ stops_first (reverse cyclic)))
