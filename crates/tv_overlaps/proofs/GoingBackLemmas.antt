-- Going back over views.
use Rattle.std.proofs.Common.{◌≡◌, ℕ, zero, suc, ◌+◌, ◌-◌, ◌<◌, ◌≤◌, ◌==◌, Bool, true, false, cond, nat_le, List, [], ◌∷◌, ◌++◌, filter, map, take, zip, get_or, length, reverse, refl, sym, ap, ◌∙◌, arith}
use Rattle.std.specs.List.{prefix_len, take_while}
use Rattle.std.proofs.lemmas.Bool.{cond-true, cond-false, le-leb, lt-leb, ne_eqb, eq-eqb}
use Rattle.std.proofs.lemmas.List.{append-nil, map-append, take_more, reverse-append}
use Rattle.std.proofs.lemmas.List.Elements.{filter-append}
use Rattle.std.proofs.lemmas.Slice.Zip.{get_or-zip, length-zip}
use Rattle.tv_model.specs.declared.node.Node.{Node}
use Rattle.tv_overlaps.specs.Standing.{depth_at, numbered}
use Rattle.tv_overlaps.proofs.DepthLemmas.{depth_is}

-- what each of some steps leaves as it is
steps_leave : {Y : Type 0} (F : ℕ → Y) (from steps : ℕ) → ((k : ℕ) → from ≤ k → k < from + steps → F (k + 1) ≡ F k) → F (from + steps) ≡ F from
steps_leave F from zero same = ap F (omega arith)
steps_leave F from (suc steps) same =
    ap F (let e : from + suc steps ≡ (from + steps) + 1 = omega arith in e) ∙ same (from + steps) (omega arith) (omega arith) ∙ steps_leave F from steps (λ k low high. same k low (omega arith))

pub places_leave : {Y : Type 0} (F : ℕ → Y) (from to : ℕ) → from ≤ to → ((k : ℕ) → from ≤ k → k < to → F (k + 1) ≡ F k) → F to ≡ F from
places_leave F from to low same =
    let e : from + (to - from) ≡ to = omega arith in
    ap F (sym e) ∙ steps_leave F from (to - from) (λ k above below. same k above (omega arith))

pub back_more : {Y : Type 0} (F : List Node → Y) (views : List Node) (i : ℕ) (d : Node) → i < length views → F (reverse (take (i + 1) views)) ≡ F (get_or views i d ∷ reverse (take i views))
back_more F views i d less = ap (λ list. F (reverse list)) (take_more views i d less) ∙ ap F (reverse-append (take i views) (get_or views i d ∷ []))

-- ---- siblings, the last first

abbrev pub level : ℕ → List Node → List Node
level depth views = filter (λ other. other.depth == depth) (take_while (λ other. nat_le depth other.depth) views)

while_yes : {A : Type 0} (p : A → Bool) (x : A) (xs : List A) → p x ≡ true → take_while p (x ∷ xs) ≡ x ∷ take_while p xs
while_yes p x xs e =
    let counted : cond (p x) (1 + prefix_len p xs) 0 ≡ suc (prefix_len p xs) = cond-true (p x) (1 + prefix_len p xs) 0 e ∙ omega arith in
    ap (λ n. take n (x ∷ xs)) counted

while_no : {A : Type 0} (p : A → Bool) (x : A) (xs : List A) → p x ≡ false → take_while p (x ∷ xs) ≡ []
while_no p x xs e = rw e refl

pub level_deeper : (depth : ℕ) (view : Node) (views : List Node) → depth < view.depth → level depth (view ∷ views) ≡ level depth views
level_deeper depth view views deep =
    ap (filter (λ other. other.depth == depth)) (while_yes (λ other. nat_le depth other.depth) view views (le-leb depth view.depth (omega arith)))
    ∙ cond-false (view.depth == depth) _ _ (ne_eqb view.depth depth (λ e. omega arith))

pub level_same : (depth : ℕ) (view : Node) (views : List Node) → view.depth ≡ depth → level depth (view ∷ views) ≡ view ∷ level depth views
level_same depth view views same =
    ap (filter (λ other. other.depth == depth)) (while_yes (λ other. nat_le depth other.depth) view views (le-leb depth view.depth (omega arith)))
    ∙ cond-true (view.depth == depth) _ _ (eq-eqb view.depth depth same)

pub level_above : (depth : ℕ) (view : Node) (views : List Node) → view.depth < depth → level depth (view ∷ views) ≡ []
level_above depth view views above =
    ap (filter (λ other. other.depth == depth)) (while_no (λ other. nat_le depth other.depth) view views (lt-leb depth view.depth above))

pub level_over : (views : List Node) (d : Node) (depth from to : ℕ) → from ≤ to → to ≤ length views → ((k : ℕ) → from ≤ k → k < to → depth < depth_at views k)
    → level depth (reverse (take to views)) ≡ level depth (reverse (take from views))
level_over views d depth from to low within deep =
    places_leave (λ k. level depth (reverse (take k views))) from to low (λ k above below.
    let less : k < length views = omega arith in
    let e : (get_or views k d).depth ≡ depth_at views k = depth_is views k d less in
    let h : depth < depth_at views k = deep k above below in
    back_more (level depth) views k d less ∙ level_deeper depth (get_or views k d) (reverse (take k views)) (omega arith))

-- ---- views of a number

pub pairs_more : (numbers : List ℕ) (views : List Node) (i : ℕ) (d : Node) → length numbers ≡ length views → i < length views
    → take (i + 1) (zip numbers views) ≡ take i (zip numbers views) ++ (get_or numbers i 0, get_or views i d) ∷ []
pairs_more numbers views i d same less =
    take_more (zip numbers views) i (0, d) (rw length-zip (omega arith))
    ∙ ap (λ pair. take i (zip numbers views) ++ pair ∷ []) (get_or-zip numbers views i (0, d) (omega arith) less)

numbered_push : (number : ℕ) (pairs : List (ℕ × Node)) (pair : ℕ × Node) → numbered number (pairs ++ pair ∷ []) ≡ numbered number pairs ++ numbered number (pair ∷ [])
numbered_push number pairs pair = ap (map (λ p. p.1)) (filter-append (λ p. p.0 == number) pairs (pair ∷ [])) ∙ map-append (λ p. p.1) (filter (λ p. p.0 == number) pairs) (filter (λ p. p.0 == number) (pair ∷ []))

pub numbered_other : (numbers : List ℕ) (views : List Node) (number i : ℕ) (d : Node) → length numbers ≡ length views → i < length views
    → (get_or numbers i 0 ≡ number → ⊥) → numbered number (take (i + 1) (zip numbers views)) ≡ numbered number (take i (zip numbers views))
numbered_other numbers views number i d same less other =
    ap (numbered number) (pairs_more numbers views i d same less)
    ∙ numbered_push number (take i (zip numbers views)) (get_or numbers i 0, get_or views i d)
    ∙ ap (λ list. numbered number (take i (zip numbers views)) ++ map (λ p. p.1) list) (cond-false (get_or numbers i 0 == number) ((get_or numbers i 0, get_or views i d) ∷ []) [] (ne_eqb (get_or numbers i 0) number other))
    ∙ append-nil (numbered number (take i (zip numbers views)))

pub numbered_one : (numbers : List ℕ) (views : List Node) (number i : ℕ) (d : Node) → length numbers ≡ length views → i < length views
    → get_or numbers i 0 ≡ number → numbered number (take (i + 1) (zip numbers views)) ≡ numbered number (take i (zip numbers views)) ++ get_or views i d ∷ []
numbered_one numbers views number i d same less one =
    ap (numbered number) (pairs_more numbers views i d same less)
    ∙ numbered_push number (take i (zip numbers views)) (get_or numbers i 0, get_or views i d)
    ∙ ap (λ list. numbered number (take i (zip numbers views)) ++ map (λ p. p.1) list) (cond-true (get_or numbers i 0 == number) ((get_or numbers i 0, get_or views i d) ∷ []) [] (eq-eqb (get_or numbers i 0) number one))

pub numbered_over : (numbers : List ℕ) (views : List Node) (d : Node) (number from to : ℕ) → length numbers ≡ length views → from ≤ to → to ≤ length views → ((k : ℕ) → from ≤ k → k < to → get_or numbers k 0 ≡ number → ⊥)
    → numbered number (take to (zip numbers views)) ≡ numbered number (take from (zip numbers views))
numbered_over numbers views d number from to same low within other =
    places_leave (λ k. numbered number (take k (zip numbers views))) from to low (λ k above below. numbered_other numbers views number k d same (omega arith) (other k above below))
