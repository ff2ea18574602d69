-- One pass over items that marks those that clash with an earlier one.
use Rattle.std.proofs.Common.{◌≡◌, ℕ, ◌+◌, ◌-◌, ◌<◌, ◌≤◌, max, Bool, true, false, cond, ◌&&◌, ◌||◌, ◌==◌, nat_lt, List, [], ◌∷◌, ◌++◌, length, get_or, set, take, drop, pos, refl, sym, ap, ◌∙◌, inl, inr, arith}
use Rattle.std.specs.List.{list_any}
use Rattle.std.proofs.lemmas.Bool.{eq-eqb, ne_eqb, cases_eq}
use Rattle.std.proofs.lemmas.Bool.Decides.{nat_tests}
use Rattle.std.proofs.lemmas.List.{get_or-set_same, get_or-set_other, take_more, drop_more}
use Rattle.std.proofs.lemmas.List.Recursion.{max_push}
use Rattle.tv_overlaps.specs.declared.placed.Placed.{Placed}
use Rattle.tv_overlaps.specs.declared.span.Span.{Span}
use Rattle.tv_overlaps.specs.Heaviest.{at_least}
use Rattle.tv_overlaps.specs.Marks.{collide_wide, span_covers, is_related}
use Rattle.tv_model.proofs.TestLemmas.{and_false, or_assoc, or_false, or_true}

-- ---- what one pass knows

-- the greatest weight of those that are asked for, or 0
abbrev pub heaviest : (Placed → Bool) → List Placed → ℕ
heaviest asked [] = 0
heaviest asked (x ∷ xs) = max (at_least (asked x) x.weight) (heaviest asked xs)

-- an item beside one of which it is known whether it fills the rows and the columns
abbrev pub fits_beside : Span → Span → Bool → Bool → Placed → Bool
fits_beside rows columns fills wide item = (span_covers item.rows rows || fills) && (span_covers item.columns columns || wide)

-- what a list gives past its end
abbrev pub blank : Placed
blank = record { place = 0; owner = 0; rows = record { low = pos 0; high = pos 0 }; columns = record { low = pos 0; high = pos 0 }; weight = 0 }

-- ---- marks

marked : (marks : List Bool) (at place : ℕ) (hit : Bool) → at < length marks
    → get_or (cond hit (set marks at true) marks) place false ≡ (get_or marks place false || ((at == place) && hit))
marked marks at place false less = sym (ap (λ b. get_or marks place false || b) (and_false (at == place)) ∙ or_false (get_or marks place false))
marked marks at place true less = elim (cases_eq at place) [
  | inl e ↦ ap (λ k. get_or (set marks at true) k false) (sym e) ∙ get_or-set_same marks at true false less
      ∙ sym (ap (λ b. get_or marks place false || (b && true)) (eq-eqb at place e) ∙ or_true (get_or marks place false))
  | inr ne ↦ get_or-set_other marks at place true false (λ e. ne (sym e))
      ∙ sym (ap (λ b. get_or marks place false || (b && true)) (ne_eqb at place ne) ∙ or_false (get_or marks place false))
]

max_swap : (m n : ℕ) → max m n ≡ max n m
max_swap m n = omega arith

module _ (R : Placed → Placed → Bool) (items : List Placed) (old marks : List Bool) (i : ℕ) (d x : Placed) (within : i < length items) (x-is : x ≡ get_or items i d) where
  -- what is still to be found, from one item on
  left : (place : ℕ) → is_related R place (take i items) (drop i items) ≡ (((x.place == place) && list_any (λ other. R other x) (take i items)) || is_related R place (take (i + 1) items) (drop (i + 1) items))
  left place =
      ap (is_related R place (take i items)) (drop_more items i d within ∙ ap (λ item. item ∷ drop (i + 1) items) (sym x-is))
      ∙ ap (λ list. ((x.place == place) && list_any (λ other. R other x) (take i items)) || is_related R place list (drop (i + 1) items)) (sym (take_more items i d within ∙ ap (λ item. take i items ++ item ∷ []) (sym x-is)))

  pub hit_turn : (hit : Bool) (place : ℕ) → x.place < length marks → hit ≡ list_any (λ other. R other x) (take i items)
      → (get_or marks place false || is_related R place (take i items) (drop i items)) ≡ (get_or old place false || is_related R place [] items)
      → (get_or (cond hit (set marks x.place true) marks) place false || is_related R place (take (i + 1) items) (drop (i + 1) items)) ≡ (get_or old place false || is_related R place [] items)
  hit_turn hit place less e before =
      ap (λ b. b || is_related R place (take (i + 1) items) (drop (i + 1) items)) (marked marks x.place place hit less)
      ∙ or_assoc (get_or marks place false) ((x.place == place) && hit) (is_related R place (take (i + 1) items) (drop (i + 1) items))
      ∙ ap (λ b. get_or marks place false || (((x.place == place) && b) || is_related R place (take (i + 1) items) (drop (i + 1) items))) e
      ∙ ap (λ b. get_or marks place false || b) (sym (left place))
      ∙ before

  pub heaviest_turn : (asked : Placed → Bool) → heaviest asked (take (i + 1) items) ≡ max (at_least (asked x) x.weight) (heaviest asked (take i items))
  heaviest_turn asked =
      ap (heaviest asked) (take_more items i d within ∙ ap (λ item. take i items ++ item ∷ []) (sym x-is))
      ∙ max_push (heaviest asked) (λ item. at_least (asked item) item.weight) refl (λ _ _. refl) (take i items) x
      ∙ max_swap (heaviest asked (take i items)) (at_least (asked x) x.weight)

-- ---- the heaviest stands for all

lt_max : (c m n : ℕ) → nat_lt c (max m n) ≡ (nat_lt c m || nat_lt c n)
lt_max c m n = grind (arith, nat_tests)

lt_room : (m w : ℕ) → w ≤ 3 → nat_lt (3 - w) m ≡ nat_lt 3 (m + w)
lt_room m w less = grind (arith, nat_tests)

lt_none : (w : ℕ) → w ≤ 3 → nat_lt (3 - w) 0 ≡ false
lt_none w less = grind (arith, nat_tests)

weighed : (a b : Bool) (m w : ℕ) → w ≤ 3 → nat_lt (3 - w) (at_least (a && b) m) ≡ (a && (b && nat_lt 3 (m + w)))
weighed true true m w less = lt_room m w less
weighed true false m w less = lt_none w less
weighed false b m w less = lt_none w less

pub heaviest_is : (a b : Placed → Bool) (w : ℕ) → w ≤ 3 → (seen : List Placed)
    → nat_lt (3 - w) (heaviest (λ other. a other && b other) seen) ≡ list_any (λ other. a other && (b other && nat_lt 3 (other.weight + w))) seen
heaviest_is a b w less [] = lt_none w less
heaviest_is a b w less (x ∷ xs) =
    lt_max (3 - w) (at_least (a x && b x) x.weight) (heaviest (λ other. a other && b other) xs)
    ∙ ap (λ c. c || nat_lt (3 - w) (heaviest (λ other. a other && b other) xs)) (weighed (a x) (b x) x.weight w less)
    ∙ ap (λ c. (a x && (b x && nat_lt 3 (x.weight + w))) || c) (heaviest_is a b w less xs)

pub beside_is : (fills wide : Bool) (rows columns : Span) (seen : List Placed) (any wider filling both : ℕ)
    → any ≡ heaviest (fits_beside rows columns true true) seen → filling ≡ heaviest (fits_beside rows columns false true) seen
    → wider ≡ heaviest (fits_beside rows columns true false) seen → both ≡ heaviest (fits_beside rows columns false false) seen
    → cond fills (cond wide any wider) (cond wide filling both) ≡ heaviest (fits_beside rows columns fills wide) seen
beside_is true true rows columns seen any wider filling both a f w b = a
beside_is true false rows columns seen any wider filling both a f w b = w
beside_is false true rows columns seen any wider filling both a f w b = f
beside_is false false rows columns seen any wider filling both a f w b = b

-- whether an item is marked, by the heaviest before it
pub marked_is : (rows columns : Span) (x : Placed) (seen : List Placed) (fills wide : Bool) (beside any wider filling both : ℕ)
    → x.weight ≤ 3 → fills ≡ span_covers x.rows rows → wide ≡ span_covers x.columns columns
    → beside ≡ cond fills (cond wide any wider) (cond wide filling both)
    → any ≡ heaviest (fits_beside rows columns true true) seen → filling ≡ heaviest (fits_beside rows columns false true) seen
    → wider ≡ heaviest (fits_beside rows columns true false) seen → both ≡ heaviest (fits_beside rows columns false false) seen
    → nat_lt (3 - x.weight) beside ≡ list_any (λ other. collide_wide rows columns other x) seen
marked_is rows columns x seen fills wide beside any wider filling both less f w b one two three four =
    ap (nat_lt (3 - x.weight)) (b ∙ beside_is fills wide rows columns seen any wider filling both one two three four)
    ∙ ap (λ t. nat_lt (3 - x.weight) (heaviest (fits_beside rows columns t wide) seen)) f
    ∙ ap (λ t. nat_lt (3 - x.weight) (heaviest (fits_beside rows columns (span_covers x.rows rows) t) seen)) w
    ∙ heaviest_is (λ other. span_covers other.rows rows || span_covers x.rows rows) (λ other. span_covers other.columns columns || span_covers x.columns columns) x.weight less seen

pub asked_any : (a b : Bool) → true ≡ ((a || true) && (b || true))
asked_any true b = sym (or_true b)
asked_any false b = sym (or_true b)

pub asked_filling : (a b : Bool) → a ≡ ((a || false) && (b || true))
asked_filling true b = sym (or_true b)
asked_filling false b = refl

pub asked_wide : (a b : Bool) → b ≡ ((a || true) && (b || false))
asked_wide true b = sym (or_false b)
asked_wide false b = sym (or_false b)

pub asked_both : (a b : Bool) → (a && b) ≡ ((a || false) && (b || false))
asked_both true b = sym (or_false b)
asked_both false b = refl
