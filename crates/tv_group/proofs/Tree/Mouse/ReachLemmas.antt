-- A leaf of a dialog has a point exactly where the machine says so, and then so have all groups around it.
use Rattle.std.proofs.Common.{◌≡◌, ◌≤◌, ◌+◌, ℤ, pos, ◌+ℤ◌, ◌-ℤ◌, Bool, true, false, not, ◌&&◌, ◌||◌, if◌then◌else◌, List, [], ◌∷◌, length, All, refl, sym, ap, ◌∙◌, arith, int_le, int_lt}
use Rattle.std.proofs.lemmas.Bool.{and_from, and_parts, true_from_ne_false}
use Rattle.std.proofs.lemmas.Int.{ints}
use Rattle.std.proofs.lemmas.List.Elements.{All-nil, All-cons, All-head, All-tail, All-filter, All-weaker}
use Rattle.std.specs.Int.{int_gap}
use Rattle.std.specs.Int.Signed.{le_z, lt_z}
use Rattle.std.specs.List.{filter}
use Rattle.tv_cells.specs.Layers.{is_in}
use Rattle.tv_cells.specs.Rectangle.{IsIn}
use Rattle.tv_cells.specs.declared.rect.Point.{Point}
use Rattle.tv_cells.specs.declared.rect.Rect.{Rect}
use Rattle.tv_cells.proofs.LayerLemmas.{is_in_true, is_in_false}
use Rattle.tv_model.specs.declared.desc.Dialog.{Dialog}
use Rattle.tv_model.specs.declared.node.Node.{Node}
use Rattle.tv_model.specs.Description.LawfulNodes.{IsLimited}
use Rattle.tv_model.specs.Description.Nodes.{height_of, is_pane}
use Rattle.tv_model.specs.Description.Rectangles.{has_points, interior, is_within, place_of_node, whole_area}
use Rattle.tv_machine.specs.State.{LeafState}
use Rattle.tv_machine.specs.Leaves.{PlacedNode, column_in, row_in, rect_on, leaves_in, leaf_list, open_at}
use Rattle.tv_machine.specs.Dialog.Modal.{Modal}
use Rattle.tv_machine.specs.Dialog.Mouse as mouse
use Rattle.tv_group.specs.Handling.{point_reaches}
use Rattle.tv_group.specs.Outline.{body_bounds}
use Rattle.tv_machine.specs.Dialog.Lawful.{IsLawfulDialog, LiesIn, LiesInside}
use Rattle.tv_group.specs.Ready.{IsPointOf}
use Rattle.tv_group.specs.Tree.{around_of, leaf_as}
use Rattle.tv_group.proofs.Tree.Mouse.PlaceLemmas.{HasCorner, IsSeen, around-cons, around_panes, column_from, gap_moved, has_all, has_all-append, le_moved, lt_moved, reaches-parts, row_from, seen, seen_point}

-- ---- rectangles

in_holds : (r : Rect) (x y : ℤ) → IsIn r x y → is_in r x y ≡ true
in_holds r x y i = true_from_ne_false (is_in r x y) (λ e. is_in_false r x y e i)

record IsInside (r s : Rect) : Type 0 where
  left : le_z s.a.x r.a.x ≡ true
  right : le_z r.b.x s.b.x ≡ true
  top : le_z s.a.y r.a.y ≡ true
  bottom : le_z r.b.y s.b.y ≡ true

inside_says : (r s : Rect) → ((int_le s.a.x r.a.x && int_le r.b.x s.b.x) && (int_le s.a.y r.a.y && int_le r.b.y s.b.y)) ≡ true
    → IsInside r s
inside_says r s e =
    let f : ((int_le s.a.x r.a.x && int_le r.b.x s.b.x) ≡ true) × ((int_le s.a.y r.a.y && int_le r.b.y s.b.y) ≡ true) = and_parts
    (int_le s.a.x r.a.x && int_le r.b.x s.b.x) (int_le s.a.y r.a.y && int_le r.b.y s.b.y) e in
    let g : (int_le s.a.x r.a.x ≡ true) × (int_le r.b.x s.b.x ≡ true) = and_parts (int_le s.a.x r.a.x) (int_le r.b.x s.b.x) f.0 in
    let h : (int_le s.a.y r.a.y ≡ true) × (int_le r.b.y s.b.y ≡ true) = and_parts (int_le s.a.y r.a.y) (int_le r.b.y s.b.y) f.1 in
    record { left = g.0; right = g.1; top = h.0; bottom = h.1 }

inside_in : (r s : Rect) (x y : ℤ) → IsInside r s → IsIn r x y → IsIn s x y
inside_in r s x y f i = record {
  after_left = grind (arith, ints, f.left);
  before_right = grind (arith, ints, f.right);
  after_top = grind (arith, ints, f.top);
  before_bottom = grind (arith, ints, f.bottom);
}

points_hold : (r : Rect) (x y : ℤ) → IsIn r x y → has_points r ≡ true
points_hold r x y i = and_from (int_lt r.a.x r.b.x) (int_lt r.a.y r.b.y) (grind (arith, ints)) (grind (arith, ints))

pub within_in : (r s : Rect) (x y : ℤ) → is_within r s ≡ true → IsIn r x y → IsIn s x y
within_in r s x y e i =
    inside_in r s x y (inside_says r s
    (ap (λ b. not b || ((int_le s.a.x r.a.x && int_le r.b.x s.b.x) && (int_le s.a.y r.a.y && int_le r.b.y s.b.y)))
    (sym (points_hold r x y i)) ∙ e)) i

-- ---- the panes around a leaf

-- the leaf and the panes around it have corners within the limits, and there are few panes
pub record IsPlacedWell (leaf : PlacedNode) : Type 0 where
  pub corner : HasCorner leaf.node
  pub panes : All HasCorner leaf.panes
  pub few : length leaf.panes ≤ 64

filter_short : (p : Node → Bool) (xs : List Node) → length (filter p xs) ≤ length xs
filter_short p [] = omega arith
filter_short p (x ∷ xs) =
    let h = filter_short p xs in
    elim (p x) as (λ b. length (if b then x ∷ filter p xs else filter p xs) ≤ length (x ∷ xs)) [
      | true ↦ omega (arith, h)
      | false ↦ omega
          (arith, h)
    ]

placed_in : (panes views : List Node) → All HasCorner panes → All HasCorner views → length panes + length views ≤ 64
    → All IsPlacedWell (leaves_in panes views)
placed_in panes [] before all few = All-nil IsPlacedWell
placed_in panes (view ∷ views) before all few =
    let here : HasCorner view = All-head HasCorner view views all in
    let open' : List Node = open_at view.depth panes in
    let corners : All HasCorner open' = All-filter _ HasCorner panes before in
    let short : length open' ≤ length panes = filter_short _ panes in
    let rest : All HasCorner views = All-tail HasCorner view views all in
    elim (is_pane view.kind) as (λ b. All IsPlacedWell (if b then leaves_in (if b then view ∷ open' else open') views
    else record { node = view; panes = open' } ∷ leaves_in (if b then view ∷ open' else open') views)) [
      | true ↦ placed_in (view ∷ open') views (All-cons HasCorner view open' here corners) rest (omega (arith, few, short))
      | false ↦ All-cons IsPlacedWell (record { node = view; panes = open' }) (leaves_in open' views)
          (record { corner = here; panes = corners; few = omega (arith, few, short) })
          (placed_in open' views corners rest (omega (arith, few, short)))
    ]

corner_of_limited : (node : Node) → IsLimited node → HasCorner node
corner_of_limited node l = record { x = record { low = l.x.0; high = l.x.1 }; y = record { low = l.y.0; high = l.y.1 } }

pub placed_well : (d : Dialog) → IsLawfulDialog d → All IsPlacedWell (leaf_list d.views)
placed_well d l =
    placed_in [] d.views (All-nil HasCorner)
    (All-weaker IsLimited HasCorner corner_of_limited d.views (All-tail IsLimited d.node d.views l.limits)) (omega (arith, l.count))

-- ---- a leaf sees a point as the machine does

module _ (d : Dialog) (leaf : PlacedNode) (p : Point) (well : IsPlacedWell leaf) (at : IsPointOf p) where
  abbrev here : Point
  here = seen_point (around_of d leaf) p

  seen_here : IsSeen leaf.panes p here
  seen_here = seen d.node leaf.panes p at well.panes well.few

  pub column-seen : int_gap leaf.node.x here.x ≡ mouse.column_on leaf p
  column-seen =
      ap (λ z. int_gap leaf.node.x z) seen_here.x
      ∙ gap_moved leaf.node.x (column_in leaf.panes (pos 0)) p.x
      ∙ ap (λ z. int_gap z p.x) (sym (column_from leaf.panes leaf.node.x))

  pub row-seen : int_gap leaf.node.y here.y ≡ mouse.row_on leaf p
  row-seen =
      ap (λ z. int_gap leaf.node.y z) seen_here.y
      ∙ gap_moved leaf.node.y (row_in leaf.panes (pos 0)) p.y
      ∙ ap (λ z. int_gap z p.y) (sym (row_from leaf.panes leaf.node.y))

  across : (le_z leaf.node.x here.x && lt_z here.x (leaf.node.x +ℤ leaf.node.w))
      ≡ (le_z (rect_on leaf).a.x p.x && lt_z p.x (rect_on leaf).b.x)
  across =
      let c : ℤ = column_in leaf.panes (pos 0) in
      let e = column_from leaf.panes leaf.node.x in
      let from : (c +ℤ (leaf.node.x +ℤ leaf.node.w)) ≡ (column_in leaf.panes leaf.node.x +ℤ leaf.node.w) = omega (arith, ints, e) in
      ap (λ z. le_z leaf.node.x z && lt_z z (leaf.node.x +ℤ leaf.node.w)) seen_here.x
      ∙ ap (λ b. b && lt_z (p.x -ℤ c) (leaf.node.x +ℤ leaf.node.w)) (le_moved leaf.node.x c p.x ∙ ap (λ z. le_z z p.x) (sym e))
      ∙ ap (λ b. le_z (column_in leaf.panes leaf.node.x) p.x && b) (lt_moved (leaf.node.x +ℤ leaf.node.w) c p.x ∙ ap (λ z. lt_z p.x z) from)

  along : (le_z leaf.node.y here.y && lt_z here.y (leaf.node.y +ℤ height_of leaf.node.kind))
      ≡ (le_z (rect_on leaf).a.y p.y && lt_z p.y (rect_on leaf).b.y)
  along =
      let c : ℤ = row_in leaf.panes (pos 0) in
      let h : ℤ = height_of leaf.node.kind in
      let e = row_from leaf.panes leaf.node.y in
      let from : (c +ℤ (leaf.node.y +ℤ h)) ≡ (row_in leaf.panes leaf.node.y +ℤ h) = omega (arith, ints, e) in
      ap (λ z. le_z leaf.node.y z && lt_z z (leaf.node.y +ℤ h)) seen_here.y
      ∙ ap (λ b. b && lt_z (p.y -ℤ c) (leaf.node.y +ℤ h)) (le_moved leaf.node.y c p.y ∙ ap (λ z. le_z z p.y) (sym e))
      ∙ ap (λ b. le_z (row_in leaf.panes leaf.node.y) p.y && b) (lt_moved (leaf.node.y +ℤ h) c p.y ∙ ap (λ z. lt_z p.y z) from)

  pub inside-seen : is_in (place_of_node leaf.node) here.x here.y ≡ mouse.is_inside leaf p
  inside-seen =
      ap (λ b. b && (le_z leaf.node.y here.y && lt_z here.y (leaf.node.y +ℤ height_of leaf.node.kind))) across
      ∙ ap (λ b. (le_z (rect_on leaf).a.x p.x && lt_z p.x (rect_on leaf).b.x) && b) along

-- ---- who has a point in a leaf has it in all groups around it

in_frame : (owner : Node) (x y x' y' : ℤ) → x' ≡ x -ℤ pos 0 → y' ≡ y -ℤ pos 0 → IsIn (interior owner) x' y' → IsIn (body_bounds owner) x y
in_frame owner x y x' y' e f i =
    record {
      after_left = omega (arith, ints, e);
      before_right = omega (arith, ints, e);
      after_top = omega
          (arith, ints, f);
      before_bottom = omega (arith, ints, f);
    }

in_pane : (pane : Node) (x y x' y' : ℤ) → x' ≡ x -ℤ pane.x → y' ≡ y -ℤ pane.y → IsIn (whole_area pane) x' y' → IsIn (place_of_node pane) x y
in_pane pane x y x' y' e f i =
    record {
      after_left = omega (arith, ints, e);
      before_right = omega (arith, ints, e);
      after_top = omega
          (arith, ints, f);
      before_bottom = omega (arith, ints, f);
    }

reach : (owner view : Node) (panes : List Node) (p : Point) → IsPointOf p → All HasCorner panes → length panes ≤ 64
    → LiesIn owner view panes
    → IsIn (place_of_node view) (seen_point (around_panes owner panes) p).x (seen_point (around_panes owner panes) p).y
    → has_all (around_panes owner panes) p ≡ true
reach owner view [] p at corners few lies i =
    let s : IsSeen [] p (seen_point (around_panes owner []) p) = seen owner [] p at corners few in
    let q : Point = seen_point (around_panes owner []) p in
    and_from (is_in (body_bounds owner) p.x p.y) true
    (in_holds (body_bounds owner) p.x p.y
    (in_frame owner p.x p.y q.x q.y s.x s.y (within_in (place_of_node view) (interior owner) q.x q.y lies i))) refl
reach owner view (pane ∷ panes) p at corners few lies i =
    let rest : All HasCorner panes = All-tail HasCorner pane panes corners in
    let fewer : length panes ≤ 64 = omega arith in
    let q : Point = seen_point (around_panes owner panes) p in
    let q' : Point = seen_point (around_panes owner (pane ∷ panes)) p in
    let s : IsSeen panes p q = seen owner panes p at rest fewer in
    let s' : IsSeen (pane ∷ panes) p q' = seen owner (pane ∷ panes) p at corners few in
    let ex : q'.x ≡ q.x -ℤ pane.x =
    (let e = column_from panes (pane.x +ℤ pos 0) in let f = s.x in let g = s'.x in omega (arith, ints, e, f, g)) in
    let ey : q'.y ≡ q.y -ℤ pane.y =
    (let e = row_from panes (pane.y +ℤ pos 0) in let f = s.y in let g = s'.y in omega (arith, ints, e, f, g)) in
    let inner : IsIn (place_of_node pane) q.x q.y = in_pane pane q.x q.y q'.x q'.y ex ey
    (within_in (place_of_node view) (whole_area pane) q'.x q'.y lies.0 i) in
    ap (λ xs. has_all xs p) (around-cons owner pane panes)
    ∙ has_all-append (around_panes owner panes) (place_of_node pane) p
    ∙ and_from (has_all (around_panes owner panes) p) (is_in (place_of_node pane) q.x q.y)
    (reach owner pane panes p at rest fewer lies.1 inner) (in_holds (place_of_node pane) q.x q.y inner)

and_later : (a b : Bool) → (b ≡ true → a ≡ true) → (a && b) ≡ b
and_later true b f = refl
and_later false true f = f refl
and_later false false f = refl

-- a point reaches a leaf through its groups exactly where the leaf has it
pub reaches-tree : (d : Dialog) (ruled : List LeafState) (m : Modal) (leaf : PlacedNode) (p : Point) → IsPlacedWell leaf
    → LiesInside d.node leaf → IsPointOf p
    → point_reaches p (around_of d leaf) (leaf_as d ruled m leaf) ≡ mouse.is_inside leaf p
reaches-tree d ruled m leaf p well lies at =
    let q : Point = seen_point (around_of d leaf) p in
    reaches-parts p (around_of d leaf) (leaf_as d ruled m leaf)
    ∙ and_later (has_all (around_of d leaf) p) (is_in (place_of_node leaf.node) q.x q.y)
    (λ e. reach d.node leaf.node leaf.panes p at well.panes well.few lies (is_in_true (place_of_node leaf.node) q.x q.y e))
    ∙ inside-seen d leaf p well at
