-- The leaves of a dialog, each after the views before it: the panes that are open at it are those around it.
use Rattle.std.proofs.Common.{◌≡◌, ℕ, ◌+◌, ◌<◌, ◌≤◌, nat_lt, Bool, true, false, not, if◌then◌else◌, List, [], ◌∷◌, ◌++◌, map, filter, reverse, refl, sym, ap, subst, ◌∙◌, arith}
use Rattle.std.specs.List.{All, Any}
use Rattle.std.proofs.lemmas.Bool.{true≢false, false_from_ne_true}
use Rattle.std.proofs.lemmas.Bool.Decides.{nat_tests}
use Rattle.std.proofs.lemmas.List.{reverse-append}
use Rattle.tv_model.specs.declared.node.Node.{Node}
use Rattle.tv_model.specs.Description.Nodes.{is_pane}
use Rattle.tv_model.specs.Description.Panes.{around, panes_around}
use Rattle.tv_model.specs.Faults.Lines.{after_seen}
use Rattle.tv_machine.specs.Leaves.{PlacedNode, leaf_list, leaves_in, open_at}
use Rattle.tv_machine.specs.Leaves as machine
use Rattle.tv_declarations.specs.Spelling.{AreViews, open_panes_after}
use Rattle.tv_machine.proofs.ListLemmas.{bool_cases}

-- ---- cases and numbers

-- what holds of all holds of one that is found
pub of_any : {A : Type 0} (P Q : A → Type 0) (xs : List A) → All P xs → (found : Any Q xs) → P found.1
of_any P Q xs all found = subst P found.3 (all found.0 found.1 found.2)

less-true : (a b : ℕ) → a < b → nat_lt a b ≡ true
less-true a b h = grind (arith, nat_tests)

less-says : (a b : ℕ) → nat_lt a b ≡ true → a < b
less-says a b h = grind (arith, nat_tests)

less-fails : (a b : ℕ) → nat_lt a b ≡ false → b ≤ a
less-fails a b h = grind (arith, nat_tests)

-- ---- a test after another

-- one that passes only what the other passes
filter-stronger : {A : Type 0} (p q : A → Bool) → ((x : A) → p x ≡ true → q x ≡ true) → (xs : List A)
    → filter p (filter q xs) ≡ filter p xs
filter-stronger p q implies [] = refl
filter-stronger p q implies (x ∷ xs) =
    bool_cases (q x) (λ b. filter p (if b then x ∷ filter q xs else filter q xs) ≡ (if p x then x ∷ filter p xs else filter p xs))
    (λ passes. ap (λ ys. if p x then x ∷ ys else ys) (filter-stronger p q implies xs))
    (λ fails. filter-stronger p q implies xs
    ∙ ap (λ b. if b then x ∷ filter p xs else filter p xs)
    (sym (false_from_ne_true (p x) (λ t. true≢false (sym (implies x t) ∙ fails)))))

-- one that passes all that the other passes
filter-weaker : {A : Type 0} (p q : A → Bool) → ((x : A) → q x ≡ true → p x ≡ true) → (xs : List A) → filter p (filter q xs) ≡ filter q xs
filter-weaker p q implies [] = refl
filter-weaker p q implies (x ∷ xs) =
    bool_cases (q x) (λ b. q x ≡ b → filter p (if b then x ∷ filter q xs else filter q xs) ≡ (if b then x ∷ filter q xs else filter q xs))
    (λ is passes. ap (λ b. if b then x ∷ filter p (filter q xs) else filter p (filter q xs)) (implies x passes)
    ∙ ap (λ ys. x ∷ ys) (filter-weaker p q implies xs))
    (λ is fails. filter-weaker p q implies xs)
    refl

open-shallower : (depth inner : ℕ) (panes : List Node) → depth ≤ inner → open_at depth (open_at inner panes) ≡ open_at depth panes
open-shallower depth inner panes le =
    filter-stronger (λ (pane : Node). nat_lt pane.depth depth) (λ pane. nat_lt pane.depth inner)
    (λ pane t. let less : pane.depth < depth = less-says pane.depth depth t in less-true pane.depth inner (omega arith)) panes

open-deeper : (depth outer : ℕ) (panes : List Node) → outer ≤ depth → open_at depth (open_at outer panes) ≡ open_at outer panes
open-deeper depth outer panes le =
    filter-weaker (λ (pane : Node). nat_lt pane.depth depth) (λ pane. nat_lt pane.depth outer)
    (λ pane t. let less : pane.depth < outer = less-says pane.depth outer t in less-true pane.depth depth (omega arith)) panes

-- ---- what is open is what stands around

-- at each depth that a next view may have
abbrev Agree : ℕ → List Node → List Node → Type 0
Agree most back panes = (depth : ℕ) → depth ≤ most → around depth back ≡ open_at depth panes

agree_next : (most : ℕ) (back panes : List Node) (view : Node) → Agree most back panes → view.depth ≤ most → (is : Bool) (depth : ℕ)
    → depth ≤ (if is then view.depth + 1 else view.depth)
    → (if nat_lt view.depth depth then view ∷ around view.depth back else around depth back)
    ≡ open_at depth (if is then view ∷ open_at view.depth panes else open_at view.depth panes)
agree_next most back panes view agree fits true depth le =
    let kept = open_at view.depth panes in
    bool_cases (nat_lt view.depth depth)
    (λ b. (if b then view ∷ around view.depth back else around depth back) ≡ (if b then view ∷ open_at depth kept else open_at depth kept))
    (λ is. let less : view.depth < depth = less-says view.depth depth is in
    ap (λ panes. view ∷ panes) (agree view.depth fits ∙ sym (open-deeper depth view.depth panes (omega arith))))
    (λ is. let less : depth ≤ view.depth = less-fails view.depth depth is in
    agree depth (omega arith) ∙ sym (open-shallower depth view.depth panes less))
agree_next most back panes view agree fits false depth le =
    bool_cases (nat_lt view.depth depth)
    (λ b. (if b then view ∷ around view.depth back else around depth back) ≡ open_at depth (open_at view.depth panes))
    (λ is. let less : view.depth < depth = less-says view.depth depth is in absurd (omega arith))
    (λ is. agree depth (omega arith) ∙ sym (open-shallower depth view.depth panes le))

-- ---- the leaves

-- a view that is no pane, after those before it
abbrev pub is_leaf : List Node × Node → Bool
is_leaf pair = not (is_pane pair.1.kind)

-- with the panes around it
abbrev pub placed_after : List Node × Node → PlacedNode
placed_after pair = record { node = pair.1; panes = panes_around pair.0 pair.1 }

abbrev leaves_after : List (List Node × Node) → List PlacedNode
leaves_after pairs = map placed_after (filter is_leaf pairs)

before_next : (seen : List Node) (view : Node) (panes : List Node) (rest : List PlacedNode) (pairs : List (List Node × Node)) (is : Bool)
    → panes ≡ panes_around seen view → rest ≡ leaves_after pairs
    → (if is then rest else record { node = view; panes = panes } ∷ rest)
    ≡ map placed_after (if not is then (seen, view) ∷ filter is_leaf pairs else filter is_leaf pairs)
before_next seen view panes rest pairs true same more = more
before_next seen view panes rest pairs false same more =
    ap (λ panes. record { node = view; panes = panes } ∷ rest) same ∙ ap (λ leaves. placed_after (seen, view) ∷ leaves) more

leaves-after : (most : ℕ) (seen panes views : List Node) → Agree most (reverse seen) panes → AreViews most views
    → leaves_in panes views ≡ leaves_after (after_seen seen views)
leaves-after most seen panes [] agree are = refl
leaves-after most seen panes (view ∷ views) agree are =
    let back : reverse (seen ++ view ∷ []) ≡ view ∷ reverse seen = reverse-append seen (view ∷ []) in
    let next : Agree (open_panes_after view) (view ∷ reverse seen) (machine.open_after panes view) =
    agree_next most (reverse seen) panes view agree are.1 (is_pane view.kind) in
    before_next seen view (open_at view.depth panes) (leaves_in (machine.open_after panes view) views)
    (after_seen (seen ++ view ∷ []) views) (is_pane view.kind)
    (sym (agree view.depth are.1))
    (leaves-after (open_panes_after view) (seen ++ view ∷ []) (machine.open_after panes view) views
    (subst (λ back. Agree (open_panes_after view) back (machine.open_after panes view)) (sym back) next) are.3)

-- the leaves are the views that are no panes, each with the panes around it
pub leaf_list-after : (views : List Node) → AreViews 0 views → leaf_list views ≡ map placed_after (filter is_leaf (after_seen [] views))
leaf_list-after views are = leaves-after 0 [] [] views (λ depth le. refl) are
