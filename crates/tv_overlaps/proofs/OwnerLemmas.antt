-- Owners, found by their places.
use Rattle.std.proofs.Common.{◌≡◌, ℕ, ◌+◌, ◌<◌, ◌≤◌, nat_lt, List, [], ◌∷◌, find, take, get_or, length, reverse, Option, Some, None, sym, ap, ◌∙◌, arith}
use Rattle.std.specs.Prelude.{option_and_then, slice_get}
use Rattle.std.proofs.lemmas.Bool.{cond-true, cond-false, le-ltb, lt-ltb}
use Rattle.std.proofs.lemmas.Option.{slice_get-get_or}
use Rattle.tv_model.specs.declared.node.Node.{Node}
use Rattle.tv_model.specs.Description.Panes.{around, owner_of, panes_around}
use Rattle.tv_overlaps.specs.Standing.{IsLastAbove, IsOwningPane, depth_at}
use Rattle.tv_overlaps.proofs.GoingBackLemmas.{back_more, places_leave}
use Rattle.tv_overlaps.proofs.DepthLemmas.{depth_is}

module _ {Y : Type 0} (F : List Node → Y) (views : List Node) (d : Node) (depth : ℕ) (passed : (view : Node) (list : List Node) → depth ≤ view.depth → F (view ∷ list) ≡ F list) where
  -- views that aren't less deep are passed over
  pub back_over : (from to : ℕ) → from ≤ to → to ≤ length views → ((k : ℕ) → from ≤ k → k < to → depth ≤ depth_at views k) → F (reverse (take to views)) ≡ F (reverse (take from views))
  back_over from to low within deep = places_leave (λ k. F (reverse (take k views))) from to low (λ k above below.
      let less : k < length views = omega arith in
      let e : (get_or views k d).depth ≡ depth_at views k = depth_is views k d less in
      let h : depth ≤ depth_at views k = deep k above below in
      back_more F views k d less ∙ passed (get_or views k d) (reverse (take k views)) (omega arith))

  pub back_to : (last place : ℕ) → IsLastAbove views depth place (Some last) → place ≤ length views → F (reverse (take place views)) ≡ F (get_or views last d ∷ reverse (take last views))
  back_to last place above within =
      back_over (last + 1) place (omega (arith, above.0)) within (λ k low high. above.2 k (omega arith) high) ∙ back_more F views last d (omega (arith, above.0))

  pub back_all : (place : ℕ) → IsLastAbove views depth place None → place ≤ length views → F (reverse (take place views)) ≡ F []
  back_all place above within = back_over 0 place (omega arith) within (λ k low high. above k high)

around_past : (depth : ℕ) (view : Node) (list : List Node) → depth ≤ view.depth → around depth (view ∷ list) ≡ around depth list
around_past depth view list deep = cond-false (nat_lt view.depth depth) _ _ (le-ltb view.depth depth deep)

around_at : (depth : ℕ) (view : Node) (list : List Node) → view.depth < depth → around depth (view ∷ list) ≡ view ∷ around view.depth list
around_at depth view list above = cond-true (nat_lt view.depth depth) _ _ (lt-ltb view.depth depth above)

find_past : (depth : ℕ) (view : Node) (list : List Node) → depth ≤ view.depth → find (λ other. nat_lt other.depth depth) (view ∷ list) ≡ find (λ other. nat_lt other.depth depth) list
find_past depth view list deep = cond-false (nat_lt view.depth depth) _ _ (le-ltb view.depth depth deep)

find_at : (depth : ℕ) (view : Node) (list : List Node) → view.depth < depth → find (λ other. nat_lt other.depth depth) (view ∷ list) ≡ Some view
find_at depth view list above = cond-true (nat_lt view.depth depth) _ _ (lt-ltb view.depth depth above)

-- the panes around the view at a place: its owner, and those around that
abbrev pub panes_at : List Node → Node → Option ℕ → List Node
panes_at views d None = []
panes_at views d (Some place) = get_or views place d ∷ panes_around (take place views) (get_or views place d)

pub panes_are : (views : List Node) (d : Node) (place : ℕ) (owner : Option ℕ) → place < length views → IsOwningPane views place owner → panes_around (take place views) (get_or views place d) ≡ panes_at views d owner
panes_are views d place None within owns =
    ap (λ depth. around depth (reverse (take place views))) (depth_is views place d within)
    ∙ back_all (around (depth_at views place)) views d (depth_at views place) (around_past (depth_at views place)) place owns (omega arith)
panes_are views d place (Some last) within owns =
    let e : (get_or views last d).depth ≡ depth_at views last = depth_is views last d (omega (arith, owns.0)) in
    ap (λ depth. around depth (reverse (take place views))) (depth_is views place d within)
    ∙ back_to (around (depth_at views place)) views d (depth_at views place) (around_past (depth_at views place)) last place owns (omega arith)
    ∙ around_at (depth_at views place) (get_or views last d) (reverse (take last views)) (omega (arith, owns.1))

pub owner_is : (views : List Node) (d : Node) (place : ℕ) (owner : Option ℕ) → place < length views → IsOwningPane views place owner → option_and_then (slice_get views) owner ≡ owner_of (take place views) (get_or views place d)
owner_is views d place None within owns =
    sym (ap (λ depth. find (λ other. nat_lt other.depth depth) (reverse (take place views))) (depth_is views place d within)
    ∙ back_all (find (λ other. nat_lt other.depth (depth_at views place))) views d (depth_at views place) (find_past (depth_at views place)) place owns (omega arith))
owner_is views d place (Some last) within owns =
    let e : (get_or views last d).depth ≡ depth_at views last = depth_is views last d (omega (arith, owns.0)) in
    slice_get-get_or views last d (omega (arith, owns.0))
    ∙ sym (ap (λ depth. find (λ other. nat_lt other.depth depth) (reverse (take place views))) (depth_is views place d within)
    ∙ back_to (find (λ other. nat_lt other.depth (depth_at views place))) views d (depth_at views place) (find_past (depth_at views place)) last place owns (omega arith)
    ∙ find_at (depth_at views place) (get_or views last d) (reverse (take last views)) (omega (arith, owns.1)))
