-- Items that stand in a relation to an earlier one.
use Rattle.std.proofs.Common.{◌≡◌, ℕ, ◌<◌, arith, length, get_or, Bool, true, false, cond, Result, Ok, Err, ◌&&◌, ◌||◌, ◌==◌, List, [], ◌∷◌, ◌++◌, filter, refl, sym, ap, ◌∙◌}
use Rattle.std.specs.List.{list_any, All}
use Rattle.std.specs.Result.{OnOk}
use Rattle.std.proofs.lemmas.List.Elements.{All-nil, All-cons, All-head, All-tail, All-push, filter-append}
use Rattle.std.proofs.lemmas.List.{append-nil}
use Rattle.tv_overlaps.specs.declared.placed.Placed.{Placed}
use Rattle.std.proofs.lemmas.Bool.{or_parts}
use Rattle.tv_overlaps.specs.declared.span.Span.{Span}
use Rattle.tv_overlaps.specs.Marks.{AreMarked, clash, collide_filling, span_covers, is_related, meets}
use Rattle.tv_model.proofs.TestLemmas.{any_none, any_or, or_assoc, or_false, or_swap}

any_same : (p q : Placed → Bool) (P : Placed → Type 0) → ((x : Placed) → P x → p x ≡ q x) → (xs : List Placed) → All P xs → list_any p xs ≡ list_any q xs
any_same p q P same [] all = refl
any_same p q P same (x ∷ xs) all = ap (λ b. b || list_any p xs) (same x (All-head P x xs all)) ∙ ap (λ b. q x || b) (any_same p q P same xs (All-tail P x xs all))

and_or : (a b c : Bool) → (a && (b || c)) ≡ ((a && b) || (a && c))
and_or true b c = refl
and_or false b c = refl

pub any_filter : {A : Type 0} (p q : A → Bool) (xs : List A) → list_any q (filter p xs) ≡ list_any (λ x. p x && q x) xs
any_filter p q [] = refl
any_filter p q (x ∷ xs) =
    elim (p x) as (λ b. list_any q (cond b (x ∷ filter p xs) (filter p xs)) ≡ ((b && q x) || list_any (λ x. p x && q x) xs))
    [ true ↦ ap (λ b. q x || b) (any_filter p q xs) | false ↦ any_filter p q xs ]

-- ---- the same relation between those items
pub hit_same : (R S : Placed → Placed → Bool) (place : ℕ) (P : Placed → Type 0) → ((one other : Placed) → P one → P other → R one other ≡ S one other)
    → (seen items : List Placed) → All P seen → All P items → is_related R place seen items ≡ is_related S place seen items
hit_same R S place P same seen [] before all = refl
hit_same R S place P same seen (x ∷ xs) before all =
    let now : P x = All-head P x xs all in
    ap (λ b. ((x.place == place) && b) || is_related R place (seen ++ x ∷ []) xs) (any_same (λ other. R other x) (λ other. S other x) P (λ other h. same other x h now) seen before)
    ∙ ap (λ b. ((x.place == place) && list_any (λ other. S other x) seen) || b)
    (hit_same R S place P same (seen ++ x ∷ []) xs (All-push P seen x before now) (All-tail P x xs all))

-- ---- one of two relations
pub hit_or : (R S : Placed → Placed → Bool) (place : ℕ) (seen items : List Placed)
    → is_related (λ one other. R one other || S one other) place seen items ≡ (is_related R place seen items || is_related S place seen items)
hit_or R S place seen [] = refl
hit_or R S place seen (x ∷ xs) =
    let later : Bool = is_related (λ one other. R one other || S one other) place (seen ++ x ∷ []) xs in
    ap (λ b. ((x.place == place) && b) || later) (any_or (λ other. R other x) (λ other. S other x) seen)
    ∙ ap (λ b. b || later) (and_or (x.place == place) (list_any (λ other. R other x) seen) (list_any (λ other. S other x) seen))
    ∙ ap (λ b. (((x.place == place) && list_any (λ other. R other x) seen) || ((x.place == place) && list_any (λ other. S other x) seen)) || b) (hit_or R S place (seen ++ x ∷ []) xs)
    ∙ or_swap ((x.place == place) && list_any (λ other. R other x) seen) ((x.place == place) && list_any (λ other. S other x) seen) (is_related R place (seen ++ x ∷ []) xs) (is_related S place (seen ++ x ∷ []) xs)

-- ---- some of the items
abbrev pub within : (Placed → Bool) → (Placed → Placed → Bool) → Placed → Placed → Bool
within p R one other = (p one && p other) && R one other

and_true : (a b : Bool) → ((a && true) && b) ≡ (a && b)
and_true true b = refl
and_true false b = refl

and_false : (a b : Bool) → ((a && false) && b) ≡ false
and_false true b = refl
and_false false b = refl

nothing : (a b : Bool) → ((a && false) || b) ≡ b
nothing true b = refl
nothing false b = refl

module _ (p : Placed → Bool) (R : Placed → Placed → Bool) (place : ℕ) where
  -- what is kept of an item and those after it
  kept : (b : Bool) (seen : List Placed) (x : Placed) (xs : List Placed) → p x ≡ b
      → is_related R place (filter p (seen ++ x ∷ [])) (filter p xs) ≡ is_related (within p R) place (seen ++ x ∷ []) xs
      → is_related R place (filter p seen) (cond b (x ∷ filter p xs) (filter p xs)) ≡ is_related (within p R) place seen (x ∷ xs)
  kept true seen x xs e later =
      let one : filter p (seen ++ x ∷ []) ≡ filter p seen ++ x ∷ [] = filter-append p seen (x ∷ []) ∙ ap (λ b. filter p seen ++ cond b (x ∷ []) []) e in
      let now : list_any (λ other. R other x) (filter p seen) ≡ list_any (λ other. within p R other x) seen =
      any_filter p (λ other. R other x) seen
      ∙ sym (any_same (λ other. within p R other x) (λ other. p other && R other x) (λ _. Unit {0}) (λ other _. ap (λ b. (p other && b) && R other x) e ∙ and_true (p other) (R other x)) seen (λ _ _ _. tt)) in
      ap (λ b. ((x.place == place) && b) || is_related R place (filter p seen ++ x ∷ []) (filter p xs)) now
      ∙ ap (λ list. ((x.place == place) && list_any (λ other. within p R other x) seen) || is_related R place list (filter p xs)) (sym one)
      ∙ ap (λ b. ((x.place == place) && list_any (λ other. within p R other x) seen) || b) later
  kept false seen x xs e later =
      let one : filter p (seen ++ x ∷ []) ≡ filter p seen ++ [] = filter-append p seen (x ∷ []) ∙ ap (λ b. filter p seen ++ cond b (x ∷ []) []) e in
      let now : list_any (λ other. within p R other x) seen ≡ false =
      any_none (λ other. within p R other x) (λ other. ap (λ b. (p other && b) && R other x) e ∙ and_false (p other) (R other x)) seen in
      ap (λ list. is_related R place list (filter p xs)) (sym (one ∙ append-nil (filter p seen)))
      ∙ later
      ∙ sym (ap (λ b. ((x.place == place) && b) || is_related (within p R) place (seen ++ x ∷ []) xs) now ∙ nothing (x.place == place) (is_related (within p R) place (seen ++ x ∷ []) xs))

  pub hit_filter : (seen items : List Placed) → is_related R place (filter p seen) (filter p items) ≡ is_related (within p R) place seen items
  hit_filter seen [] = refl
  hit_filter seen (x ∷ xs) = kept (p x) seen x xs refl (hit_filter (seen ++ x ∷ []) xs)

-- ---- a relation that is settled for all items, or else in one of two parts of them
pub hit_split : (R S : Placed → Placed → Bool) (p q : Placed → Bool) (place : ℕ) (P : Placed → Type 0)
    → ((one other : Placed) → P one → P other → R one other ≡ (S one other || (within p R one other || within q R one other)))
    → (items : List Placed) → All P items
    → is_related R place [] items ≡ (is_related S place [] items || (is_related R place [] (filter p items) || is_related R place [] (filter q items)))
hit_split R S p q place P same items all =
    hit_same R (λ one other. S one other || (within p R one other || within q R one other)) place P same [] items (All-nil P) all
    ∙ hit_or S (λ one other. within p R one other || within q R one other) place [] items
    ∙ ap (λ b. is_related S place [] items || b) (hit_or (within p R) (within q R) place [] items
    ∙ ap (λ b. b || is_related (within q R) place [] items) (sym (hit_filter p R place [] items))
    ∙ ap (λ b. is_related R place [] (filter p items) || b) (sym (hit_filter q R place [] items)))

-- ---- nothing is hit

pub hit_few : (R : Placed → Placed → Bool) (place : ℕ) (items : List Placed) → length items < 2 → is_related R place [] items ≡ false
hit_few R place [] few = refl
hit_few R place (x ∷ []) few = nothing (x.place == place) false
hit_few R place (x ∷ y ∷ items) few = absurd (omega arith)

pub hit_nothing : (place : ℕ) (seen items : List Placed) → is_related (λ _ _. false) place seen items ≡ false
hit_nothing place seen [] = refl
hit_nothing place seen (x ∷ xs) =
    ap (λ b. ((x.place == place) && b) || is_related (λ _ _. false) place (seen ++ x ∷ []) xs) (any_none (λ _. false) (λ _. refl) seen)
    ∙ nothing (x.place == place) (is_related (λ _ _. false) place (seen ++ x ∷ []) xs)
    ∙ hit_nothing place (seen ++ x ∷ []) xs

pub hit_none : (R : Placed → Placed → Bool) (place : ℕ) (P : Placed → Type 0) → ((one other : Placed) → P one → P other → R one other ≡ false)
    → (items : List Placed) → All P items → is_related R place [] items ≡ false
hit_none R place P none items all = hit_same R (λ _ _. false) place P none [] items (All-nil P) all ∙ hit_nothing place [] items

all_false : (p : Placed → Bool) (xs : List Placed) → list_any p xs ≡ false → All (λ x. p x ≡ false) xs
all_false p [] e = All-nil (λ x. p x ≡ false)
all_false p (x ∷ xs) e = let f : (p x ≡ false) × (list_any p xs ≡ false) = or_parts (p x) (list_any p xs) e in
    All-cons (λ x. p x ≡ false) x xs f.0 (all_false p xs f.1)

-- where none fills the rows
pub none_filling : (rows : Span) (place : ℕ) (items : List Placed) → list_any (λ item. span_covers item.rows rows) items ≡ false → is_related (collide_filling rows) place [] items ≡ false
none_filling rows place items e = hit_none (collide_filling rows) place (λ item. span_covers item.rows rows ≡ false)
    (λ one other f g. ap (λ b. (b || span_covers other.rows rows) && (meets one.columns other.columns && clash one other)) f ∙ ap (λ b. b && (meets one.columns other.columns && clash one other)) g)
    items (all_false (λ item. span_covers item.rows rows) items e)

-- ---- marks

pub marked_none : (R : Placed → Placed → Bool) (items : List Placed) (marks : List Bool) → ((place : ℕ) → is_related R place [] items ≡ false) → AreMarked R items marks marks
marked_none R items marks none = record {
  len = refl;
  marks = λ place _. sym (ap (λ b. get_or marks place false || b) (none place) ∙ or_false (get_or marks place false));
}

pub marked_same : (R S : Placed → Placed → Bool) (items : List Placed) (old new : List Bool) → ((place : ℕ) → is_related R place [] items ≡ is_related S place [] items) → AreMarked S items old new → AreMarked R items old new
marked_same R S items old new same m = record {
  len = m.len;
  marks = λ place less. m.marks place less ∙ ap (λ b. get_or old place false || b) (sym (same place));
}

pub marked_split : (R S : Placed → Placed → Bool) (p q : Placed → Bool) (items these those : List Placed) (old one two new : List Bool)
    → ((place : ℕ) → is_related R place [] items ≡ (is_related S place [] items || (is_related R place [] (filter p items) || is_related R place [] (filter q items))))
    → these ≡ filter p items → those ≡ filter q items
    → AreMarked S items old one → AreMarked R these one two → AreMarked R those two new → AreMarked R items old new
marked_split R S p q items these those old one two new split these-are those-are a b c = record {
  len = c.len ∙ b.len ∙ a.len;
  marks = λ place less.
      c.marks place (omega (arith, a.len, b.len))
      ∙ ap (λ t. t || is_related R place [] those) (b.marks place (omega (arith, a.len)))
      ∙ ap (λ t. (t || is_related R place [] these) || is_related R place [] those) (a.marks place less)
      ∙ or_assoc (get_or old place false || is_related S place [] items) (is_related R place [] these) (is_related R place [] those)
      ∙ or_assoc (get_or old place false) (is_related S place [] items) (is_related R place [] these || is_related R place [] those)
      ∙ ap (λ list. get_or old place false || (is_related S place [] items || (is_related R place [] list || is_related R place [] those))) these-are
      ∙ ap (λ list. get_or old place false || (is_related S place [] items || (is_related R place [] (filter p items) || is_related R place [] list))) those-are
      ∙ ap (λ t. get_or old place false || t) (sym (split place));
}

-- where the last part ended well
pub all_parts : {A E : Type 0} {P Q : Type 0} (result : Result A E) → (P → Q) → OnOk result P → OnOk result Q
all_parts (Ok x) h p = h p
all_parts (Err e) h p = p
