-- No leaf of a dialog whose views lie in what is around them sticks out of a pane around it.
use Rattle.std.proofs.Common.{◌≡◌, ℕ, nat_lt, IsTrue, if◌then◌else◌, List, [], ◌∷◌, ◌++◌, filter, find, Some, reverse, refl, sym, subst}
use Rattle.std.specs.List.{All}
use Rattle.std.proofs.lemmas.List.{reverse-append}
use Rattle.std.proofs.lemmas.List.Elements.{All-nil, All-cons, All-head, All-tail, All-filter, All-map}
use Rattle.tv_cells.specs.declared.rect.Rect.{Rect}
use Rattle.tv_model.specs.declared.node.Node.{Node}
use Rattle.tv_model.specs.Description.Panes.{around, owner_of, panes_around, room_in}
use Rattle.tv_model.specs.Description.Rectangles.{is_within, place_of_node}
use Rattle.tv_model.specs.Faults.Lines.{after_seen}
use Rattle.tv_machine.specs.Dialog.Lawful.{LiesIn, LiesInside}
use Rattle.tv_machine.specs.Leaves.{leaf_list}
use Rattle.tv_declarations.specs.Spelling.{AreViews}
use Rattle.tv_faults.specs.Sound.Places.{AreInside}
use Rattle.tv_faults.specs.Sound.Places as points
use Rattle.tv_faults.proofs.SeenLemmas.{is_leaf, leaf_list-after, placed_after}
use Rattle.tv_overlaps.proofs.AreaLemmas.{within_points}
use Rattle.tv_machine.proofs.ListLemmas.{bool_cases}

-- the points of the first lie in the second
within : (r s : Rect) → points.IsPartOf r s → IsTrue (is_within r s)
within r s lies = (within_points (is_within r s) r s refl).1 lies

module _ (frame : Node) where
  -- going back over views, each lies in the panes around it
  abbrev Placed : List Node → Type 0
  Placed [] = Unit {0}
  Placed (view ∷ earlier) = LiesIn frame view (around view.depth earlier) × Placed earlier

  -- a view lies in all that is around it where it lies in the innermost
  lies_in : (view : Node) (depth : ℕ) (back : List Node) → Placed back
      → IsTrue (is_within (place_of_node view) (room_in frame (find (λ other. nat_lt other.depth depth) back)))
      → LiesIn frame view (around depth back)
  lies_in view depth [] placed lies = lies
  lies_in view depth (other ∷ back) placed lies =
      bool_cases (nat_lt other.depth depth)
      (λ b. IsTrue
      (is_within (place_of_node view) (room_in frame (if b then Some other else find (λ other. nat_lt other.depth depth) back)))
      → LiesIn frame view (if b then other ∷ around other.depth back else around depth back))
      (λ is lies. (lies, placed.0))
      (λ is lies. lies_in view depth back placed.1 lies)
      lies

  abbrev LiesInRoom : List Node × Node → Type 0
  LiesInRoom pair = points.IsPartOf (place_of_node pair.1) (room_in frame (owner_of pair.0 pair.1))

  abbrev LiesAround : List Node × Node → Type 0
  LiesAround pair = LiesIn frame pair.1 (panes_around pair.0 pair.1)

  lie_around : (seen views : List Node) → Placed (reverse seen) → All LiesInRoom (after_seen seen views)
      → All LiesAround (after_seen seen views)
  lie_around seen [] placed lie = All-nil LiesAround
  lie_around seen (view ∷ views) placed lie =
      let rest = after_seen (seen ++ view ∷ []) views in
      let back : reverse (seen ++ view ∷ []) ≡ view ∷ reverse seen = reverse-append seen (view ∷ []) in
      let here : LiesIn frame view (around view.depth (reverse seen)) =
      lies_in view view.depth (reverse seen) placed
      (within (place_of_node view) (room_in frame (owner_of seen view)) (All-head LiesInRoom (seen, view) rest lie)) in
      All-cons LiesAround (seen, view) rest here
      (lie_around (seen ++ view ∷ []) views (subst Placed (sym back) (here, placed)) (All-tail LiesInRoom (seen, view) rest lie))

  pub leaves_lie : (views : List Node) → AreViews 0 views → AreInside frame views → All (LiesInside frame) (leaf_list views)
  leaves_lie views are inside =
      let pairs = after_seen [] views in
      subst (All (LiesInside frame)) (sym (leaf_list-after views are))
      (All-map (LiesInside frame) placed_after (filter is_leaf pairs)
      (All-filter is_leaf LiesAround pairs (lie_around [] views tt inside)))
