-- Items of one owner have numbers in one of two parts.
use Rattle.std.proofs.Common.{◌≡◌, ℕ, ◌+◌, ◌≤◌, Bool, true, false, ◌&&◌, ◌||◌, ◌==◌, nat_le, List, [], filter, ◌∷◌, fold, max, subst, refl, sym, ap, inl, inr, arith}
use Rattle.std.specs.List.{All}
use Rattle.std.proofs.lemmas.Bool.{and_parts, and_from, cases_lt, eq-eqb, eqb-true, le-leb, leb-true, or_left, or_right}
use Rattle.std.proofs.lemmas.List.Elements.{All-cons, All-nil, All-same, filter_passes}
use Rattle.tv_overlaps.specs.declared.placed.Placed.{Placed}
use Rattle.tv_overlaps.specs.Marks.{AreMarked, collide, collide_as_siblings, is_related, is_owned}
use Rattle.tv_overlaps.proofs.HitLemmas.{hit_nothing, hit_same, hit_split, marked_none, within}

record Owned (first last : ℕ) (item : Placed) : Type 0 where
  from : first ≤ item.owner
  to : item.owner ≤ last

owned_says : (first last : ℕ) (item : Placed) → is_owned first last item ≡ true → Owned first last item
owned_says first last item e = let f : (nat_le first item.owner ≡ true) × (nat_le item.owner last ≡ true) = and_parts (nat_le first item.owner) (nat_le item.owner last) e in
    record { from = leb-true first item.owner f.0; to = leb-true item.owner last f.1 }

owned_holds : (first last : ℕ) (item : Placed) → first ≤ item.owner → item.owner ≤ last → is_owned first last item ≡ true
owned_holds first last item f t = and_from (nat_le first item.owner) (nat_le item.owner last) (le-leb first item.owner f) (le-leb item.owner last t)

true_twice : (a b : Bool) → (a || b) ≡ true → ((a && true) || (b && true)) ≡ true
true_twice true b e = refl
true_twice false true e = refl
true_twice false false e = e

false_twice : (a b : Bool) → ((a && false) || (b && false)) ≡ false
false_twice true true = refl
false_twice true false = refl
false_twice false true = refl
false_twice false false = refl

-- both in one part, or of two owners
either : (same c p q r s : Bool) → (same ≡ true → ((p && q) || (r && s)) ≡ true)
    → (same && c) ≡ (((p && q) && (same && c)) || ((r && s) && (same && c)))
either true true p q r s h = sym (true_twice (p && q) (r && s) (h refl))
either true false p q r s h = sym (false_twice (p && q) (r && s))
either false c p q r s h = sym (false_twice (p && q) (r && s))

module _ (first middle last : ℕ) where
  in_part : (one other : Placed) → is_owned first last one ≡ true → is_owned first last other ≡ true
      → collide_as_siblings one other ≡ (within (is_owned first middle) collide_as_siblings one other || within (is_owned (middle + 1) last) collide_as_siblings one other)
  in_part one other i o =
      let a = owned_says first last one i in let b = owned_says first last other o in
      either (one.owner == other.owner) (collide one other) (is_owned first middle one) (is_owned first middle other) (is_owned (middle + 1) last one) (is_owned (middle + 1) last other)
      (λ e. let same : one.owner ≡ other.owner = eqb-true one.owner other.owner e in
      elim (cases_lt middle one.owner) [
        | inl less ↦ or_right (is_owned first middle one && is_owned first middle other) (is_owned (middle + 1) last one && is_owned (middle + 1) last other)
            (and_from (is_owned (middle + 1) last one) (is_owned (middle + 1) last other)
            (owned_holds (middle + 1) last one (omega arith) (omega arith)) (owned_holds (middle + 1) last other (omega arith) (omega arith)))
        | inr least ↦ or_left (is_owned first middle one && is_owned first middle other) (is_owned (middle + 1) last one && is_owned (middle + 1) last other)
            (and_from (is_owned first middle one) (is_owned first middle other)
            (owned_holds first middle one (omega arith) (omega arith)) (owned_holds first middle other (omega arith) (omega arith)))
      ])

  pub split_owners : (items : List Placed) → All (λ item. is_owned first last item ≡ true) items → (place : ℕ)
      → is_related collide_as_siblings place [] items ≡ (is_related (λ _ _. false) place [] items
      || (is_related collide_as_siblings place [] (filter (is_owned first middle) items) || is_related collide_as_siblings place [] (filter (is_owned (middle + 1) last) items)))
  split_owners items all place = hit_split collide_as_siblings (λ _ _. false) (is_owned first middle) (is_owned (middle + 1) last) place
      (λ item. is_owned first last item ≡ true) in_part items all

pub nobody_marked : (items : List Placed) (marks : List Bool) → AreMarked (λ _ _. false) items marks marks
nobody_marked items marks = marked_none (λ _ _. false) items marks (λ place. hit_nothing place [] items)

-- where there is one owner only
pub one_owner : (first last : ℕ) → last ≤ first → (items : List Placed) → All (λ item. is_owned first last item ≡ true) items → (place : ℕ)
    → is_related collide_as_siblings place [] items ≡ is_related collide place [] items
one_owner first last least items all place = hit_same collide_as_siblings collide place (λ item. is_owned first last item ≡ true)
    (λ one other i o. let a = owned_says first last one i in let b = owned_says first last other o in
    ap (λ t. t && collide one other) (eq-eqb one.owner other.owner (omega arith)))
    [] items (λ k d less. absurd (omega arith)) all

pub owned_part : (first last : ℕ) (items these : List Placed) → these ≡ filter (is_owned first last) items → All (λ item. is_owned first last item ≡ true) these
owned_part first last items these e = All-same (λ item. is_owned first last item ≡ true) these (filter (is_owned first last) items) e (filter_passes (is_owned first last) items)

-- ---- the greatest number

abbrev last_of : ℕ → List Placed → ℕ
last_of = fold (λ last item. max last item.owner)

last_above : (least : ℕ) (items : List Placed) → least ≤ last_of least items
last_above least [] = omega arith
last_above least (x ∷ items) = let h = last_above (max least x.owner) items in omega arith

all_below : (least : ℕ) (items : List Placed) → All (λ item. is_owned 0 (last_of least items) item ≡ true) items
all_below least [] = All-nil (λ item. is_owned 0 least item ≡ true)
all_below least (x ∷ items) = let h = last_above (max least x.owner) items in
    All-cons (λ item. is_owned 0 (last_of (max least x.owner) items) item ≡ true) x items
    (owned_holds 0 (last_of (max least x.owner) items) x (omega arith) (omega arith)) (all_below (max least x.owner) items)

pub all_owned : (last : ℕ) (items these : List Placed) → last ≡ fold (λ last item. max last item.owner) 0 items → these ≡ items → All (λ item. is_owned 0 last item ≡ true) these
all_owned last items these e same = All-same (λ item. is_owned 0 last item ≡ true) these items same
    (subst (λ (n : ℕ). All (λ item. is_owned 0 n item ≡ true) items) (sym e) (all_below 0 items))
