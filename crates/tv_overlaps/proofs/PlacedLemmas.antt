-- Views are hit where they overlap an earlier sibling and may not.
use Rattle.std.proofs.Common.{◌≡◌, ℕ, zero, suc, ◌+◌, ◌<◌, ◌≤◌, Bool, true, false, cond, ◌&&◌, ◌||◌, ◌==◌, nat_lt, List, [], ◌∷◌, ◌++◌, length, get_or, take, drop, map, filter, reverse, refl, sym, ap, ◌∙◌, append_assoc, arith}
use Rattle.std.specs.List.{All, list_any, zip}
use Rattle.std.proofs.lemmas.Bool.{and_parts, eq-eqb, ne_eqb}
use Rattle.std.proofs.lemmas.List.{append-nil, drop_all, drop_more, get_or_default, nil_from_length, same_lists}
use Rattle.std.proofs.lemmas.List.Elements.{All-cons, All-nil}
use Rattle.std.proofs.lemmas.List.Sorted.{IsPermutation-reverse, list_any-IsPermutation}
use Rattle.std.proofs.lemmas.Slice.Zip.{get_or-zip, length-zip}
use Rattle.tv_model.specs.declared.node.Node.{Node}
use Rattle.tv_model.specs.Description.Nodes.{is_control, is_pane}
use Rattle.tv_model.specs.Faults.Lines.{after_seen}
use Rattle.tv_model.specs.Description.Panes.{earlier_siblings}
use Rattle.tv_model.specs.Description.Rectangles.{has_points, overlap, place_of_node}
use Rattle.tv_model.specs.Faults.Places.{need_own_places, overlaps_earlier}
use Rattle.tv_cells.specs.declared.rect.Rect.{Rect}
use Rattle.tv_overlaps.specs.declared.span.Span.{Span}
use Rattle.tv_overlaps.specs.declared.placed.Placed.{Placed}
use Rattle.tv_model.specs.Faults.Each.{each_after}
use Rattle.tv_overlaps.specs.Marks.{IsPlacedItem, collide_as_siblings, is_related, meets}
use Rattle.tv_overlaps.specs.Placing.{columns, placed_from, placed_view, rows, weight_of}
use Rattle.tv_overlaps.specs.Standing.{AreSiblingsNumbered}
use Rattle.tv_overlaps.proofs.AreaLemmas.{lt_says}
use Rattle.tv_overlaps.proofs.HitLemmas.{any_filter}
use Rattle.tv_model.proofs.TestLemmas.{or_false}
use Rattle.tv_model.proofs.ListLemmas.{any_map}

-- ---- the list of them

placed_next : (owners : List ℕ) (views : List Node) (i : ℕ) (view : Node) → i < length views → length owners ≡ length views → view ≡ get_or views i view
    → placed_from i (drop i (zip owners views)) ≡ placed_from i ((get_or owners i 0, view) ∷ drop (i + 1) (zip owners views))
placed_next owners views i view less long view-is =
    let within : i < length (zip owners views) = omega (arith, length-zip owners views) in
    ap (placed_from i) (drop_more (zip owners views) i (0, view) within
    ∙ ap (λ pair. pair ∷ drop (i + 1) (zip owners views)) (get_or-zip owners views i (0, view) (omega arith) less ∙ ap (λ v. (get_or owners i 0, v)) (sym view-is)))

pub placed_with : (owners : List ℕ) (views : List Node) (i : ℕ) (view : Node) (found all : List Placed) (item : Placed) → i < length views → length owners ≡ length views → view ≡ get_or views i view
    → has_points (place_of_node view) ≡ true → item ≡ placed_view i (get_or owners i 0) view
    → found ++ placed_from i (drop i (zip owners views)) ≡ all
    → (found ++ item ∷ []) ++ placed_from (i + 1) (drop (i + 1) (zip owners views)) ≡ all
placed_with owners views i view found all item less long view-is has item-is before =
    let rest = placed_from (i + 1) (drop (i + 1) (zip owners views)) in
    append_assoc found (item ∷ []) rest
    ∙ ap (λ x. found ++ x ∷ rest) item-is
    ∙ ap (λ b. found ++ cond b (placed_view i (get_or owners i 0) view ∷ rest) rest) (sym has)
    ∙ ap (λ list. found ++ list) (sym (placed_next owners views i view less long view-is))
    ∙ before

pub placed_without : (owners : List ℕ) (views : List Node) (i : ℕ) (view : Node) (found all : List Placed) → i < length views → length owners ≡ length views → view ≡ get_or views i view
    → has_points (place_of_node view) ≡ false
    → found ++ placed_from i (drop i (zip owners views)) ≡ all
    → found ++ placed_from (i + 1) (drop (i + 1) (zip owners views)) ≡ all
placed_without owners views i view found all less long view-is has before =
    let rest = placed_from (i + 1) (drop (i + 1) (zip owners views)) in
    ap (λ b. found ++ cond b (placed_view i (get_or owners i 0) view ∷ rest) rest) (sym has)
    ∙ ap (λ list. found ++ list) (sym (placed_next owners views i view less long view-is))
    ∙ before

pub placed_all : (owners : List ℕ) (views : List Node) (i : ℕ) (found all : List Placed) → length views ≤ i
    → found ++ placed_from i (drop i (zip owners views)) ≡ all → found ≡ all
placed_all owners views i found all past before =
    sym (append-nil found) ∙ ap (λ list. found ++ placed_from i list) (sym (drop_all i (zip owners views) (omega (arith, length-zip owners views)))) ∙ before

pub item_is : (place owner : ℕ) (view : Node) (area : Rect) (down across : Span) (weight : ℕ)
    → area ≡ place_of_node view → down ≡ rows area → across ≡ columns area → weight ≡ weight_of view.kind
    → ◌≡◌ {A = Placed} record { place = place; owner = owner; rows = down; columns = across; weight = weight } (placed_view place owner view)
item_is place owner view area down across weight a d c w =
    let view-of : Span → Span → ℕ → Placed = λ r s n. record { place = place; owner = owner; rows = r; columns = s; weight = n } in
    ap (λ (r : Span). view-of r across weight) (d ∙ ap rows a) ∙ ap (λ (s : Span). view-of (rows (place_of_node view)) s weight) (c ∙ ap columns a) ∙ ap (λ (n : ℕ). view-of (rows (place_of_node view)) (columns (place_of_node view)) n) w

weight_fits : (pane control : Bool) → cond pane 3 (cond control 2 1) ≤ 3
weight_fits true control = omega arith
weight_fits false true = omega arith
weight_fits false false = omega arith

item_of : (count place owner : ℕ) (view : Node) → place < count → has_points (place_of_node view) ≡ true → IsPlacedItem count (placed_view place owner view)
item_of count place owner view less has = let f = and_parts _ _ has in let r = place_of_node view in record {
  place = less;
  rows = lt_says r.a.y r.b.y f.1;
  columns = lt_says r.a.x r.b.x f.0;
  weight = weight_fits (is_pane view.kind) (is_control view.kind);
}

items_next : (count place : ℕ) (pair : ℕ × Node) (rest : List Placed) (b : Bool) → has_points (place_of_node pair.1) ≡ b → place < count → All (IsPlacedItem count) rest → All (IsPlacedItem count) (cond b (placed_view place pair.0 pair.1 ∷ rest) rest)
items_next count place pair rest true has less all = All-cons (IsPlacedItem count) (placed_view place pair.0 pair.1) rest (item_of count place pair.0 pair.1 less has) all
items_next count place pair rest false has less all = all

pub items_placed : (count place : ℕ) (pairs : List (ℕ × Node)) → place + length pairs ≤ count → All (IsPlacedItem count) (placed_from place pairs)
items_placed count place [] fits = All-nil (IsPlacedItem count)
items_placed count place (pair ∷ pairs) fits = items_next count place pair (placed_from (place + 1) pairs) (has_points (place_of_node pair.1)) refl (omega arith) (items_placed count (place + 1) pairs (omega arith))

-- ---- where a view is hit

module _ (R : Placed → Placed → Bool) (k : ℕ) where
  hit_past : (seen : List Placed) (p : ℕ) (pairs : List (ℕ × Node)) → k < p → is_related R k seen (placed_from p pairs) ≡ false
  hit_past seen p [] less = refl
  hit_past seen p (z ∷ pairs) less =
      elim (has_points (place_of_node z.1)) as (λ b. is_related R k seen (cond b (placed_view p z.0 z.1 ∷ placed_from (p + 1) pairs) (placed_from (p + 1) pairs)) ≡ false) [
        | true ↦ ap (λ b. (b && list_any (λ other. R other (placed_view p z.0 z.1)) seen) || is_related R k (seen ++ placed_view p z.0 z.1 ∷ []) (placed_from (p + 1) pairs)) (ne_eqb p k (λ same. omega arith))
            ∙ hit_past (seen ++ placed_view p z.0 z.1 ∷ []) (p + 1) pairs (omega arith)
        | false ↦ hit_past seen (p + 1) pairs (omega arith)
      ]

  pub hit_at : (seen : List Placed) (p j : ℕ) (pairs : List (ℕ × Node)) (d : ℕ × Node) → k ≡ p + j → j < length pairs
      → is_related R k seen (placed_from p pairs)
      ≡ (has_points (place_of_node (get_or pairs j d).1) && list_any (λ other. R other (placed_view k (get_or pairs j d).0 (get_or pairs j d).1)) (seen ++ placed_from p (take j pairs)))
  hit_at seen p j [] d e less = absurd (omega arith)
  hit_at seen p zero (z ∷ pairs) d e less =
      let same : p ≡ k = omega arith in
      elim (has_points (place_of_node z.1)) as (λ b. is_related R k seen (cond b (placed_view p z.0 z.1 ∷ placed_from (p + 1) pairs) (placed_from (p + 1) pairs))
      ≡ (b && list_any (λ other. R other (placed_view k z.0 z.1)) (seen ++ []))) [
        | true ↦ ap (λ b. (b && list_any (λ other. R other (placed_view p z.0 z.1)) seen) || is_related R k (seen ++ placed_view p z.0 z.1 ∷ []) (placed_from (p + 1) pairs)) (eq-eqb p k same)
            ∙ ap (λ b. list_any (λ other. R other (placed_view p z.0 z.1)) seen || b) (hit_past (seen ++ placed_view p z.0 z.1 ∷ []) (p + 1) pairs (omega arith))
            ∙ or_false (list_any (λ other. R other (placed_view p z.0 z.1)) seen)
            ∙ ap (λ (n : ℕ). list_any (λ other. R other (placed_view n z.0 z.1)) seen) same
            ∙ ap (list_any (λ other. R other (placed_view k z.0 z.1))) (sym (append-nil seen))
        | false ↦ hit_past seen (p + 1) pairs (omega arith)
      ]
  hit_at seen p (suc j) (z ∷ pairs) d e less =
      let item = placed_view k (get_or pairs j d).0 (get_or pairs j d).1 in let has = has_points (place_of_node (get_or pairs j d).1) in
      elim (has_points (place_of_node z.1)) as (λ b. is_related R k seen (cond b (placed_view p z.0 z.1 ∷ placed_from (p + 1) pairs) (placed_from (p + 1) pairs))
      ≡ (has_points (place_of_node (get_or pairs j d).1) && list_any (λ other. R other (placed_view k (get_or pairs j d).0 (get_or pairs j d).1)) (seen ++ cond b (placed_view p z.0 z.1 ∷ placed_from (p + 1) (take j pairs)) (placed_from (p + 1) (take j pairs))))) [
        | true ↦ ap (λ b. (b && list_any (λ other. R other (placed_view p z.0 z.1)) seen) || is_related R k (seen ++ placed_view p z.0 z.1 ∷ []) (placed_from (p + 1) pairs)) (ne_eqb p k (λ same. omega arith))
            ∙ hit_at (seen ++ placed_view p z.0 z.1 ∷ []) (p + 1) j pairs d (omega arith) (omega arith)
            ∙ ap (λ list. has && list_any (λ other. R other item) list) (append_assoc seen (placed_view p z.0 z.1 ∷ []) (placed_from (p + 1) (take j pairs)))
        | false ↦ hit_at seen (p + 1) j pairs d (omega arith) (omega arith)
      ]

any_placed : (q : Placed → Bool) (r : ℕ × Node → Bool) → ((place : ℕ) (pair : ℕ × Node) → q (placed_view place pair.0 pair.1) ≡ r pair) → (place : ℕ) (pairs : List (ℕ × Node))
    → list_any q (placed_from place pairs) ≡ list_any (λ pair. has_points (place_of_node pair.1) && r pair) pairs
any_placed q r same place [] = refl
any_placed q r same place (z ∷ pairs) =
    elim (has_points (place_of_node z.1)) as (λ b. list_any q (cond b (placed_view place z.0 z.1 ∷ placed_from (place + 1) pairs) (placed_from (place + 1) pairs)) ≡ ((b && r z) || list_any (λ pair. has_points (place_of_node pair.1) && r pair) pairs)) [
      | true ↦ ap (λ b. b || list_any q (placed_from (place + 1) pairs)) (same place z) ∙ ap (λ b. r z || b) (any_placed q r same (place + 1) pairs)
      | false ↦ any_placed q r same (place + 1) pairs
    ]

any_and : {A : Type 0} (b : Bool) (p : A → Bool) (xs : List A) → (b && list_any p xs) ≡ list_any (λ x. b && p x) xs
any_and true p xs = refl
any_and false p [] = refl
any_and false p (x ∷ xs) = any_and false p xs

any_agree : {A : Type 0} (p q : A → Bool) → ((x : A) → p x ≡ q x) → (xs : List A) → list_any p xs ≡ list_any q xs
any_agree p q same [] = refl
any_agree p q same (x ∷ xs) = ap (λ b. b || list_any p xs) (same x) ∙ ap (λ b. q x || b) (any_agree p q same xs)

-- ---- two views

weighed : (pane other control two : Bool) → nat_lt 3 (cond pane 3 (cond control 2 1) + cond other 3 (cond two 2 1)) ≡ ((pane || other) || (control && two))
weighed true true true true = refl
weighed true true true false = refl
weighed true true false true = refl
weighed true true false false = refl
weighed true false true true = refl
weighed true false true false = refl
weighed true false false true = refl
weighed true false false false = refl
weighed false true true true = refl
weighed false true true false = refl
weighed false true false true = refl
weighed false true false false = refl
weighed false false true true = refl
weighed false false true false = refl
weighed false false false true = refl
weighed false false false false = refl

regroup : (hs hr e mr mc c : Bool) → (hs && (hr && (e && (mr && (mc && c))))) ≡ (e && (c && ((hr && hs) && (mc && mr))))
regroup true true true true true true = refl
regroup true true true true false true = refl
regroup true true true false true true = refl
regroup true true true false false true = refl
regroup true true true true true false = refl
regroup true true true true false false = refl
regroup true true true false true false = refl
regroup true true true false false false = refl
regroup true true false mr mc true = refl
regroup true true false mr mc false = refl
regroup true false true mr mc true = refl
regroup true false true mr mc false = refl
regroup true false false mr mc true = refl
regroup true false false mr mc false = refl
regroup false true true mr mc true = refl
regroup false true true mr mc false = refl
regroup false true false mr mc true = refl
regroup false true false mr mc false = refl
regroup false false true mr mc true = refl
regroup false false true mr mc false = refl
regroup false false false mr mc true = refl
regroup false false false mr mc false = refl

-- what may not share a point with a view
abbrev bars : Node → Node → Bool
bars node other = need_own_places other.kind node.kind && overlap (place_of_node other) (place_of_node node)

two_views : (place number : ℕ) (node : Node) (pair : ℕ × Node)
    → (has_points (place_of_node node) && (has_points (place_of_node pair.1) && collide_as_siblings (placed_view 0 pair.0 pair.1) (placed_view place number node))) ≡ ((pair.0 == number) && bars node pair.1)
two_views place number node pair =
    let r = place_of_node pair.1 in let s = place_of_node node in
    regroup (has_points s) (has_points r) (pair.0 == number) (meets (rows r) (rows s)) (meets (columns r) (columns s)) (nat_lt 3 (weight_of pair.1.kind + weight_of node.kind))
    ∙ ap (λ b. (pair.0 == number) && (b && overlap r s)) (weighed (is_pane pair.1.kind) (is_pane node.kind) (is_control pair.1.kind) (is_control node.kind))

-- ---- all views

module _ (numbers : List ℕ) (views : List Node) (are : AreSiblingsNumbered numbers views) where
  pub hit_is : (i : ℕ) (d : Node) → i < length views → is_related collide_as_siblings i [] (placed_from 0 (zip numbers views)) ≡ overlaps_earlier (take i views) (get_or views i d)
  hit_is i d less =
      let node = get_or views i d in let number = get_or numbers i 0 in let pairs = zip numbers views in
      let at : get_or pairs i (0, d) ≡ (number, node) = get_or-zip numbers views i (0, d) (omega (arith, are.0)) less in
      let within : i < length pairs = omega (arith, length-zip numbers views, are.0) in
      hit_at collide_as_siblings i [] 0 i pairs (0, d) (omega arith) within
      ∙ ap (λ (pair : ℕ × Node). has_points (place_of_node pair.1) && list_any (λ other. collide_as_siblings other (placed_view i pair.0 pair.1)) (placed_from 0 (take i pairs))) at
      ∙ ap (λ b. has_points (place_of_node node) && b)
      (any_placed (λ other. collide_as_siblings other (placed_view i number node)) (λ pair. collide_as_siblings (placed_view 0 pair.0 pair.1) (placed_view i number node)) (λ place pair. refl) 0 (take i pairs))
      ∙ any_and (has_points (place_of_node node)) (λ pair. has_points (place_of_node pair.1) && collide_as_siblings (placed_view 0 pair.0 pair.1) (placed_view i number node)) (take i pairs)
      ∙ any_agree (λ pair. has_points (place_of_node node) && (has_points (place_of_node pair.1) && collide_as_siblings (placed_view 0 pair.0 pair.1) (placed_view i number node))) (λ pair. (pair.0 == number) && bars node pair.1) (two_views i number node) (take i pairs)
      ∙ sym (any_filter (λ pair. pair.0 == number) (λ pair. bars node pair.1) (take i pairs))
      ∙ sym (any_map (bars node) (λ (pair : ℕ × Node). pair.1) (filter (λ pair. pair.0 == number) (take i pairs)))
      ∙ ap (list_any (bars node)) (sym (are.1 i d less))
      ∙ sym (list_any-IsPermutation (bars node) (earlier_siblings (take i views) node) (reverse (earlier_siblings (take i views) node)) (IsPermutation-reverse (earlier_siblings (take i views) node)))

-- ---- each item after those before it

each_long : {A : Type 0} (p : List A → A → Bool) (seen xs : List A) → length (map (λ pair. p pair.0 pair.1) (after_seen seen xs)) ≡ length xs
each_long p seen [] = refl
each_long p seen (x ∷ xs) = ap suc (each_long p (seen ++ x ∷ []) xs)

each_at : {A : Type 0} (p : List A → A → Bool) (seen xs : List A) (i : ℕ) (d : Bool) (e : A) → i < length xs → get_or (map (λ pair. p pair.0 pair.1) (after_seen seen xs)) i d ≡ p (seen ++ take i xs) (get_or xs i e)
each_at p seen [] i d e less = absurd (omega arith)
each_at p seen (x ∷ xs) zero d e less = ap (λ list. p list x) (sym (append-nil seen))
each_at p seen (x ∷ xs) (suc i) d e less = each_at p (seen ++ x ∷ []) xs i d e (omega arith) ∙ ap (λ list. p list (get_or xs i e)) (append_assoc seen (x ∷ []) (take i xs))

pub each_is : (p : List Node → Node → Bool) (views : List Node) (marks : List Bool) → length marks ≡ length views
    → ((i : ℕ) (d : Node) → i < length views → get_or marks i false ≡ p (take i views) (get_or views i d)) → marks ≡ each_after p views
each_is p [] marks long all = nil_from_length marks long
each_is p (view ∷ views) marks long all = same_lists marks (each_after p (view ∷ views)) (long ∙ sym (each_long p [] (view ∷ views)))
    (λ k d less. let within : k < length (view ∷ views) = omega arith in get_or_default marks k d false less ∙ all k view within ∙ sym (each_at p [] (view ∷ views) k d view within))
