-- The panes that are open at a view, as the code keeps them, and the leaves that are found so.
use Rattle.std.proofs.Common.{◌≡◌, ◌∙◌, ℕ, suc, ◌+◌, ◌<◌, Bool, true, false, List, [], ◌∷◌, ◌++◌, length, get_or, drop, map, refl, sym, ap, add-one, drop-cons, append_assoc, Bor, nat_lt, ◌||◌}
use Rattle.std.specs.List.{AllZip, filter, list_any}
use Rattle.tv_model.specs.declared.node.Id.{Id}
use Rattle.tv_model.specs.declared.node.Node.{Node}
use Rattle.tv_model.specs.Description.Nodes.{has_id, is_pane}
use Rattle.tv_machine.specs.Leaves.{PlacedNode, leaves_in, open_at}

-- ---- what references refer to

-- a pane has the id, where references to the panes are asked
pub any_now : (id : Id) (panes : List (Bor Node)) → list_any (λ pane. has_id id pane.now) panes ≡ list_any (has_id id) (map (λ pane. pane.now) panes)
any_now id [] = refl
any_now id (pane ∷ panes) = ap (λ b. has_id id pane.now || b) (any_now id panes)

kept_now : (b : Bool) (depth : ℕ) (pane : Bor Node) (panes : List (Bor Node)) → nat_lt pane.now.depth depth ≡ b
    → map (λ pane. pane.now) (filter (λ pane. nat_lt pane.now.depth depth) panes) ≡ open_at depth (map (λ pane. pane.now) panes)
    → map (λ pane. pane.now) (filter (λ pane. nat_lt pane.now.depth depth) (pane ∷ panes)) ≡ open_at depth (map (λ pane. pane.now) (pane ∷ panes))
kept_now true depth pane panes e rest = rw e (ap (λ ps. pane.now ∷ ps) rest)
kept_now false depth pane panes e rest = rw e rest

-- the panes that stay open, where the references to the others were dropped
pub open_now : (depth : ℕ) (panes : List (Bor Node))
    → map (λ pane. pane.now) (filter (λ pane. nat_lt pane.now.depth depth) panes) ≡ open_at depth (map (λ pane. pane.now) panes)
open_now depth [] = refl
open_now depth (pane ∷ panes) = kept_now (nat_lt pane.now.depth depth) depth pane panes refl (open_now depth panes)

-- ---- one view more

leaves-pane : (panes : List Node) (view : Node) (views : List Node) → is_pane view.kind ≡ true
    → leaves_in panes (view ∷ views) ≡ leaves_in (view ∷ open_at view.depth panes) views
leaves-pane panes view views e = rw e refl

leaves-leaf : (panes : List Node) (view : Node) (views : List Node) → is_pane view.kind ≡ false
    → leaves_in panes (view ∷ views) ≡ record { node = view; panes = open_at view.depth panes } ∷ leaves_in (open_at view.depth panes) views
leaves-leaf panes view views e = rw e refl

next_view : (views : List Node) (i : ℕ) (view : Node) → i < length views → view ≡ get_or views i view → drop i views ≡ view ∷ drop (i + 1) views
next_view views i view less is = rw add-one (drop-cons views i view less ∙ ap (λ v. v ∷ drop (suc i) views) (sym is))

-- past a pane, which is open from there on
pub past_pane : (leaves whole : List PlacedNode) (panes after views : List Node) (i : ℕ) (view : Node) → i < length views → view ≡ get_or views i view
    → is_pane view.kind ≡ true → after ≡ view ∷ open_at view.depth panes
    → leaves ++ leaves_in panes (drop i views) ≡ whole → leaves ++ leaves_in after (drop (i + 1) views) ≡ whole
past_pane leaves whole panes after views i view less is pane opens so_far =
    ap (λ ps. leaves ++ leaves_in ps (drop (i + 1) views)) opens
    ∙ (ap (λ ls. leaves ++ ls) (sym (ap (leaves_in panes) (next_view views i view less is) ∙ leaves-pane panes view (drop (i + 1) views) pane)) ∙ so_far)

-- past a leaf, which is added to those before it
pub past_leaf : (leaves whole : List PlacedNode) (panes after views : List Node) (i : ℕ) (view : Node) → i < length views → view ≡ get_or views i view
    → is_pane view.kind ≡ false → after ≡ open_at view.depth panes
    → leaves ++ leaves_in panes (drop i views) ≡ whole
    → (leaves ++ record { node = view; panes = open_at view.depth panes } ∷ []) ++ leaves_in after (drop (i + 1) views) ≡ whole
past_leaf leaves whole panes after views i view less is no_pane opens so_far =
    let here : PlacedNode = record { node = view; panes = open_at view.depth panes } in
    let rest : List PlacedNode = leaves_in (open_at view.depth panes) (drop (i + 1) views) in
    let all : leaves_in panes (drop i views) ≡ here ∷ rest
    = ap (leaves_in panes) (next_view views i view less is) ∙ leaves-leaf panes view (drop (i + 1) views) no_pane in
    ap (λ ps. (leaves ++ here ∷ []) ++ leaves_in ps (drop (i + 1) views)) opens
    ∙ (append_assoc leaves (here ∷ []) rest ∙ (ap (λ ls. leaves ++ ls) (sym all) ∙ so_far))

-- ---- what is so of each, and of one more

pub zip_push : {A B : Type 0} (R : A → B → Type 0) (xs : List A) (ys : List B) (x : A) (y : B) → AllZip R xs ys → R x y
    → AllZip R (xs ++ x ∷ []) (ys ++ y ∷ [])
zip_push R [] [] x y all is = (is, tt)
zip_push R [] (z ∷ ys) x y all is = absurd all
zip_push R (z ∷ xs) [] x y all is = absurd all
zip_push R (z ∷ xs) (w ∷ ys) x y all is = (all.0, zip_push R xs ys x y all.1 is)
