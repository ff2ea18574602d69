-- Siblings by their numbers.
use Rattle.std.proofs.Common.{◌≡◌, inl, inr, ℕ, zero, suc, ◌+◌, ◌<◌, ◌≤◌, ◌==◌, cond, List, [], ◌∷◌, ◌++◌, take, zip, get_or, length, reverse, Option, Some, None, refl, sym, ap, ◌∙◌, subst, arith}
use Rattle.std.proofs.lemmas.Bool.{cases_eq, cases_lt, cond-true, cond-false, ne_eqb, eq-eqb}
use Rattle.std.proofs.lemmas.List.{get_or_append_left, get_or_push, length_push, reverse-append}
use Rattle.tv_model.specs.declared.node.Node.{Node}
use Rattle.tv_model.specs.Description.Panes.{earlier_siblings}
use Rattle.tv_overlaps.specs.Standing.{AreFirstPlaces, AreSiblingsNumbered, IsLastAbove, IsFirstSibling, depth_at, numbered, number_after}
use Rattle.tv_overlaps.proofs.GoingBackLemmas.{back_more, level, level_above, level_over, level_same, numbered_one, numbered_over}
use Rattle.tv_overlaps.proofs.DepthLemmas.{depth_is}

-- the numbers of the first views
abbrev pub AreFirstNumbers : List ℕ → List Node → Type 0
AreFirstNumbers numbers views = (i : ℕ) → i < length numbers → IsFirstSibling numbers views i (get_or numbers i 0)

-- the two cases of a number: that of the last sibling, or its own place where the view is the first
data Numbering (numbers : List ℕ) (views : List Node) (place number : ℕ) : Type 0 where
  after : (last : ℕ) → last < place → depth_at views last ≡ depth_at views place → ((k : ℕ) → suc last ≤ k → k < place → depth_at views place < depth_at views k) → number ≡ get_or numbers last 0 → Numbering numbers views place number
  under : (last : ℕ) → last < place → depth_at views last < depth_at views place → ((k : ℕ) → suc last ≤ k → k < place → depth_at views place < depth_at views k) → number ≡ place → Numbering numbers views place number
  first : ((k : ℕ) → 0 ≤ k → k < place → depth_at views place < depth_at views k) → number ≡ place → Numbering numbers views place number

numbering : (numbers : List ℕ) (views : List Node) (place number : ℕ) (last : Option ℕ) → IsLastAbove views (suc (depth_at views place)) place last → number ≡ number_after numbers views place last → Numbering numbers views place number
numbering numbers views place number None above e = first (λ k _ less. above k less) e
numbering numbers views place number (Some last) above e = elim (cases_eq (depth_at views last) (depth_at views place)) [
  | inl same ↦ after last above.0 same above.2 (e ∙ cond-true (depth_at views last == depth_at views place) (get_or numbers last 0) place (eq-eqb (depth_at views last) (depth_at views place) same))
  | inr other ↦ under last above.0 (omega arith) above.2 (e ∙ cond-false (depth_at views last == depth_at views place) (get_or numbers last 0) place (ne_eqb (depth_at views last) (depth_at views place) other))
]

module _ (numbers : List ℕ) (views : List Node) (same : length numbers ≡ length views) (known : AreFirstNumbers numbers views) where
  abbrev number : ℕ → ℕ
  number i = get_or numbers i 0

  numbering_at : (i : ℕ) → i < length views → Numbering numbers views i (number i)
  numbering_at i less = let k : IsFirstSibling numbers views i (number i) = known i (omega arith) in numbering numbers views i (number i) k.0 k.1 k.2

  -- a number is the place of a view before it or itself, which is as deep
  record IsGroup (i : ℕ) : Type 0 where
    low : number i ≤ i
    level : depth_at views (number i) ≡ depth_at views i
    own : number (number i) ≡ number i

  group_case : (i : ℕ) → ((l : ℕ) → l < i → IsGroup l) → Numbering numbers views i (number i) → IsGroup i
  group_case i before (after last less e deep is) =
      let g : IsGroup last = before last less in
      record { low = let h : number last ≤ last = g.low in omega arith; level = ap (depth_at views) is ∙ g.level ∙ e; own = ap number is ∙ g.own ∙ sym is }
  group_case i before (under last less above deep is) = record { low = omega arith; level = ap (depth_at views) is; own = ap number is }
  group_case i before (first deep is) = record { low = omega arith; level = ap (depth_at views) is; own = ap number is }

  group_below : (bound i : ℕ) → i < bound → i < length views → IsGroup i
  group_below zero i less within = absurd (omega arith)
  group_below (suc bound) i less within = group_case i (λ l lower. group_below bound l (omega arith) (omega arith)) (numbering_at i within)

  group : (i : ℕ) → i < length views → IsGroup i
  group i within = group_below (suc i) i (omega arith) within

  module _ (d : Node) where
    abbrev Agree : ℕ → Type 0
    Agree i = reverse (level (depth_at views i) (reverse (take i views))) ≡ numbered (number i) (take i (zip numbers views))

    none_of : (i : ℕ) → i < length views → number i ≡ i → numbered (number i) (take i (zip numbers views)) ≡ []
    none_of i within is = numbered_over numbers views d (number i) 0 i same (omega arith) (omega arith) (λ k low less e. let h : number k ≤ k = (group k (omega arith)).low in omega arith)

    agree_case : (i : ℕ) → i < length views → ((l : ℕ) → l < i → Agree l) → Numbering numbers views i (number i) → Agree i
    agree_case i within before (first deep is) = ap reverse (level_over views d (depth_at views i) 0 i (omega arith) (omega arith) deep) ∙ sym (none_of i within is)
    agree_case i within before (under last less above deep is) =
        let e : (get_or views last d).depth ≡ depth_at views last = depth_is views last d (omega arith) in
        ap reverse (level_over views d (depth_at views i) (suc last) i (omega arith) (omega arith) deep
        ∙ ap (λ n. level (depth_at views i) (reverse (take n views))) (let f : suc last ≡ last + 1 = omega arith in f)
        ∙ back_more (level (depth_at views i)) views last d (omega arith)
        ∙ level_above (depth_at views i) (get_or views last d) (reverse (take last views)) (omega arith))
        ∙ sym (none_of i within is)
    agree_case i within before (after last less equal deep is) =
        let e : (get_or views last d).depth ≡ depth_at views last = depth_is views last d (omega arith) in
        let f : suc last ≡ last + 1 = omega arith in
        let left : level (depth_at views i) (reverse (take i views)) ≡ get_or views last d ∷ level (depth_at views i) (reverse (take last views)) =
        level_over views d (depth_at views i) (suc last) i (omega arith) (omega arith) deep
        ∙ ap (λ n. level (depth_at views i) (reverse (take n views))) f
        ∙ back_more (level (depth_at views i)) views last d (omega arith)
        ∙ level_same (depth_at views i) (get_or views last d) (reverse (take last views)) (e ∙ equal) in
        let right : numbered (number i) (take i (zip numbers views)) ≡ numbered (number i) (take last (zip numbers views)) ++ get_or views last d ∷ [] =
        numbered_over numbers views d (number i) (suc last) i same (omega arith) (omega arith)
        (λ k low high g.
        let h : depth_at views i < depth_at views k = deep k low high in
        let m : depth_at views k ≡ depth_at views i = sym ((group k (omega arith)).level) ∙ ap (depth_at views) g ∙ (group i within).level in
        omega arith)
        ∙ ap (λ n. numbered (number i) (take n (zip numbers views))) f
        ∙ numbered_one numbers views (number i) last d same (omega arith) (sym is) in
        let agree : Agree last = before last less in
        ap reverse left
        ∙ reverse-append (get_or views last d ∷ []) (level (depth_at views i) (reverse (take last views)))
        ∙ ap (λ depth. reverse (level depth (reverse (take last views))) ++ get_or views last d ∷ []) (sym equal)
        ∙ ap (λ list. list ++ get_or views last d ∷ []) agree
        ∙ ap (λ n. numbered n (take last (zip numbers views)) ++ get_or views last d ∷ []) (sym is)
        ∙ sym right

    agree_below : (bound i : ℕ) → i < bound → i < length views → Agree i
    agree_below zero i less within = absurd (omega arith)
    agree_below (suc bound) i less within = agree_case i within (λ l lower. agree_below bound l (omega arith) (omega arith)) (numbering_at i within)

    agree : (i : ℕ) → i < length views → reverse (earlier_siblings (take i views) (get_or views i d)) ≡ numbered (number i) (take i (zip numbers views))
    agree i within = ap (λ depth. reverse (level depth (reverse (take i views)))) (depth_is views i d within) ∙ agree_below (suc i) i (omega arith) within

  pub all_first : AreFirstPlaces numbers
  all_first i less = let g : IsGroup i = group i (omega arith) in (g.low, g.own)

  pub all_numbered : AreSiblingsNumbered numbers views
  all_numbered = (same, λ i d within. agree d i within)

-- ---- one number more

after_more : (numbers : List ℕ) (views : List Node) (n place : ℕ) (last : Option ℕ) → place ≤ length numbers → IsLastAbove views (suc (depth_at views place)) place last
    → number_after numbers views place last ≡ number_after (numbers ++ n ∷ []) views place last
after_more numbers views n place None within above = refl
after_more numbers views n place (Some last) within above =
    ap (λ m. cond (depth_at views last == depth_at views place) m place) (sym (get_or_append_left numbers (n ∷ []) 0 last (omega (arith, above.0))))

number_more : (numbers : List ℕ) (views : List Node) (n place number : ℕ) → place ≤ length numbers → IsFirstSibling numbers views place number → IsFirstSibling (numbers ++ n ∷ []) views place number
number_more numbers views n place number within is = (is.0, is.1, is.2 ∙ after_more numbers views n place is.0 within is.1)

pub numbers_more : (numbers : List ℕ) (views : List Node) (n place : ℕ) → length numbers ≡ place → AreFirstNumbers numbers views → IsFirstSibling numbers views place n → AreFirstNumbers (numbers ++ n ∷ []) views
numbers_more numbers views n place same known is i less = elim (cases_lt i (length numbers)) [
  | inl below ↦ subst (λ m. IsFirstSibling (numbers ++ n ∷ []) views i m) (sym (get_or_append_left numbers (n ∷ []) 0 i below)) (number_more numbers views n i (get_or numbers i 0) (omega arith) (known i below))
  | inr above ↦
      let length : length (numbers ++ n ∷ []) ≡ length numbers + 1 = length_push numbers n in
      let e : i ≡ place = omega arith in
      let m : get_or (numbers ++ n ∷ []) place 0 ≡ n = get_or_push numbers n 0 place same in
      subst (λ j. IsFirstSibling (numbers ++ n ∷ []) views j (get_or (numbers ++ n ∷ []) j 0)) (sym e)
      (subst (λ m. IsFirstSibling (numbers ++ n ∷ []) views place m) (sym m) (number_more numbers views n place n (omega arith) is))
]
