-- Where a point of a dialog lies, seen from a leaf through the groups around it.
use Rattle.std.proofs.Common.{◌≡◌, ℕ, ◌≤◌, ◌+◌, ◌*◌, ℤ, pos, negsuc, ◌+ℤ◌, ◌-ℤ◌, ◌≤ℤ◌, Bool, true, false, ◌&&◌, List, [], ◌∷◌, ◌++◌, length, All, map, reverse, refl, sym, ap, ◌∙◌, arith}
use Rattle.std.proofs.lemmas.Grind.{reverse_onto}
use Rattle.std.proofs.lemmas.Int.{ints, by_lt_z}
use Rattle.std.proofs.lemmas.List.{map-append}
use Rattle.std.proofs.lemmas.List.Elements.{All-head, All-tail}
use Rattle.std.specs.Int.{int_gap, saturate_signed, w32}
use Rattle.std.specs.Int.Signed.{le_z, lt_z}
use Rattle.tv_cells.specs.Layers.{is_in}
use Rattle.tv_cells.specs.declared.rect.Point.{Point}
use Rattle.tv_cells.specs.declared.rect.Rect.{Rect}
use Rattle.tv_event.specs.declared.event.Event.TheVariants as events
use Rattle.tv_model.specs.declared.node.Node.{Node}
use Rattle.tv_view.specs.Meaning.{Leaf}
use Rattle.tv_model.specs.Description.Rectangles.{place_of_node}
use Rattle.tv_machine.specs.Leaves.{column_in, row_in}
use Rattle.tv_view.specs.Points as points
use Rattle.tv_view.specs.Points.{point_into}
use Rattle.tv_group.specs.Handling.{point_reaches, seen_through}
use Rattle.tv_group.specs.Outline.{body_bounds}
use Rattle.tv_cells.specs.Rectangle.{LiesWithin}
use Rattle.tv_group.specs.Ready.{IsPointOf}

-- ---- coordinates

-- a coordinate that lies so near to 0
saturated : (z : ℤ) → LiesWithin 100000 z → saturate_signed w32 z ≡ z
saturated (pos n) h = ap pos (omega (arith, ints))
saturated (negsuc n) h = ap negsuc (omega (arith, ints))

nearer : (n k : ℕ) (z : ℤ) → n ≤ k → LiesWithin n z → LiesWithin k z
nearer n k z h near = record { low = omega (arith, ints); high = omega (arith, ints) }

moved_near : (n : ℕ) (z c : ℤ) → LiesWithin n z → LiesWithin 132 c → LiesWithin (n + 132) (z -ℤ c)
moved_near n z c near small = record { low = omega (arith, ints); high = omega (arith, ints) }

and_assoc : (a b c : Bool) → ((a && b) && c) ≡ (a && (b && c))
and_assoc true b c = refl
and_assoc false b c = refl

and_true : (b : Bool) → b ≡ (b && true)
and_true true = refl
and_true false = refl

pub same_test : (a b : Bool) → (a ≡ true → b ≡ true) → (b ≡ true → a ≡ true) → a ≡ b
same_test true b f g = sym (f refl)
same_test false true f g = g refl
same_test false false f g = refl

pub le_moved : (a c x : ℤ) → le_z a (x -ℤ c) ≡ le_z (c +ℤ a) x
le_moved a c x = same_test (le_z a (x -ℤ c)) (le_z (c +ℤ a) x) (λ h. grind (arith, ints)) (λ h. grind (arith, ints))

pub lt_moved : (a c x : ℤ) → lt_z (x -ℤ c) a ≡ lt_z x (c +ℤ a)
lt_moved a c x = same_test (lt_z (x -ℤ c) a) (lt_z x (c +ℤ a)) (λ h. grind (arith, ints)) (λ h. grind (arith, ints))

gap_above : (a b : ℤ) → a ≤ℤ b → pos (int_gap a b) ≡ b -ℤ a
gap_above (pos a) (pos b) h = omega (arith, ints)
gap_above (pos a) (negsuc b) h = omega (arith, ints)
gap_above (negsuc a) (pos b) h = omega (arith, ints)
gap_above (negsuc a) (negsuc b) h = omega (arith, ints)

gap_below : (a b : ℤ) → b ≤ℤ a → int_gap a b ≡ 0
gap_below (pos a) (pos b) h = omega (arith, ints)
gap_below (pos a) (negsuc b) h = refl
gap_below (negsuc a) (pos b) h = omega (arith, ints)
gap_below (negsuc a) (negsuc b) h = omega (arith, ints)

pub gap_moved : (a c x : ℤ) → int_gap a (x -ℤ c) ≡ int_gap (c +ℤ a) x
gap_moved a c x =
    by_lt_z a (x -ℤ c)
    (λ h. let e = gap_above a (x -ℤ c) (omega (arith, ints)) in let f = gap_above (c +ℤ a) x (omega (arith, ints)) in
    omega (arith, ints, e, f))
    (λ h. gap_below a (x -ℤ c) h ∙ sym (gap_below (c +ℤ a) x (omega (arith, ints))))

-- ---- points

-- a point, seen through groups from the outermost in
abbrev pub seen_point : List Rect → Point → Point
seen_point [] p = p
seen_point (bounds ∷ around) p = seen_point around (point_into bounds p)

-- every group has the point
abbrev pub has_all : List Rect → Point → Bool
has_all [] p = true
has_all (bounds ∷ around) p = is_in bounds p.x p.y && has_all around (point_into bounds p)

pub down-seen : (around : List Rect) (p : Point) → seen_through around (events.Down p) ≡ events.Down (seen_point around p)
down-seen [] p = refl
down-seen (bounds ∷ around) p = down-seen around (point_into bounds p)

pub move-seen : (around : List Rect) (p : Point) → seen_through around (events.Move p) ≡ events.Move (seen_point around p)
move-seen [] p = refl
move-seen (bounds ∷ around) p = move-seen around (point_into bounds p)

pub up-seen : (around : List Rect) (p : Point) → seen_through around (events.Up p) ≡ events.Up (seen_point around p)
up-seen [] p = refl
up-seen (bounds ∷ around) p = up-seen around (point_into bounds p)

pub reaches-parts : (p : Point) (around : List Rect) (leaf : Leaf)
    → point_reaches p around leaf ≡ (has_all around p && points.leaf_has_point leaf (seen_point around p))
reaches-parts p [] leaf = refl
reaches-parts p (bounds ∷ around) leaf =
    ap (λ b. is_in bounds p.x p.y && b) (reaches-parts (point_into bounds p) around leaf)
    ∙ sym (and_assoc (is_in bounds p.x p.y) (has_all around (point_into bounds p))
    (points.leaf_has_point leaf (seen_point around (point_into bounds p))))

pub seen-append : (around : List Rect) (r : Rect) (p : Point) → seen_point (around ++ r ∷ []) p ≡ point_into r (seen_point around p)
seen-append [] r p = refl
seen-append (bounds ∷ around) r p = seen-append around r (point_into bounds p)

pub has_all-append : (around : List Rect) (r : Rect) (p : Point)
    → has_all (around ++ r ∷ []) p ≡ (has_all around p && is_in r (seen_point around p).x (seen_point around p).y)
has_all-append [] r p = sym (and_true (is_in r p.x p.y))
has_all-append (bounds ∷ around) r p =
    ap (λ b. is_in bounds p.x p.y && b) (has_all-append around r (point_into bounds p))
    ∙ sym (and_assoc (is_in bounds p.x p.y) (has_all around (point_into bounds p))
    (is_in r (seen_point around (point_into bounds p)).x (seen_point around (point_into bounds p)).y))

-- ---- panes

-- the groups around what stands in these panes, from the innermost out
abbrev pub around_panes : Node → List Node → List Rect
around_panes owner panes = body_bounds owner ∷ map place_of_node (reverse panes)

pub around-cons : (owner pane : Node) (panes : List Node)
    → around_panes owner (pane ∷ panes) ≡ around_panes owner panes ++ place_of_node pane ∷ []
around-cons owner pane panes =
    ap (λ xs. body_bounds owner ∷ map place_of_node xs) (reverse_onto panes pane [])
    ∙ ap (λ xs. body_bounds owner ∷ xs) (map-append place_of_node (reverse panes) (pane ∷ []))

pub column_from : (panes : List Node) (z : ℤ) → column_in panes z ≡ column_in panes (pos 0) +ℤ z
column_from [] z = omega (arith, ints)
column_from (pane ∷ panes) z =
    let e = column_from panes (pane.x +ℤ z) in let f = column_from panes (pane.x +ℤ pos 0) in omega (arith, ints, e, f)

pub row_from : (panes : List Node) (z : ℤ) → row_in panes z ≡ row_in panes (pos 0) +ℤ z
row_from [] z = omega (arith, ints)
row_from (pane ∷ panes) z =
    let e = row_from panes (pane.y +ℤ z) in let f = row_from panes (pane.y +ℤ pos 0) in omega (arith, ints, e, f)

-- the point q is p, seen from the corner of the innermost of so many panes
pub record IsSeen (panes : List Node) (p q : Point) : Type 0 where
  pub x : q.x ≡ p.x -ℤ column_in panes (pos 0)
  pub y : q.y ≡ p.y -ℤ row_in panes (pos 0)
  pub near_x : LiesWithin (20000 + 132 * length panes) q.x
  pub near_y : LiesWithin (20000 + 132 * length panes) q.y

-- a corner within the limits of descriptions
pub record HasCorner (node : Node) : Type 0 where
  pub x : LiesWithin 132 node.x
  pub y : LiesWithin 132 node.y

pub into_x : (r : Rect) (n : ℕ) (p : Point) → n ≤ 90000 → LiesWithin n p.x → LiesWithin 132 r.a.x → (point_into r p).x ≡ p.x -ℤ r.a.x
into_x r n p few near small = saturated (p.x -ℤ r.a.x)
    (nearer (n + 132) 100000 (p.x -ℤ r.a.x) (omega arith) (moved_near n p.x r.a.x near small))

pub into_y : (r : Rect) (n : ℕ) (p : Point) → n ≤ 90000 → LiesWithin n p.y → LiesWithin 132 r.a.y → (point_into r p).y ≡ p.y -ℤ r.a.y
into_y r n p few near small = saturated (p.y -ℤ r.a.y)
    (nearer (n + 132) 100000 (p.y -ℤ r.a.y) (omega arith) (moved_near n p.y r.a.y near small))

none : LiesWithin 132 (pos 0)
none = record { low = omega (arith, ints); high = omega (arith, ints) }

near_as : (n : ℕ) (y z : ℤ) → y ≡ z → LiesWithin n z → LiesWithin n y
near_as n y z e near = record { low = omega (arith, ints); high = omega (arith, ints) }

pub seen : (owner : Node) (panes : List Node) (p : Point) → IsPointOf p → All HasCorner panes → length panes ≤ 64
    → IsSeen panes p (seen_point (around_panes owner panes) p)
seen owner [] p at corners few =
    let ex : (point_into (body_bounds owner) p).x ≡ p.x -ℤ pos 0 = into_x (body_bounds owner) 20000 p (omega arith) at.x none in
    let ey : (point_into (body_bounds owner) p).y ≡ p.y -ℤ pos 0 = into_y (body_bounds owner) 20000 p (omega arith) at.y none in
    record {
      x = ex;
      y = ey;
      near_x = near_as 20000 _ p.x (omega (arith, ints, ex)) at.x;
      near_y = near_as 20000 _ p.y
          (omega (arith, ints, ey)) at.y;
    }
seen owner (pane ∷ panes) p at corners few =
    let before : IsSeen panes p (seen_point (around_panes owner panes) p) = seen owner panes p at (All-tail HasCorner pane panes corners)
    (omega arith) in
    let here : HasCorner pane = All-head HasCorner pane panes corners in
    let q : Point = seen_point (around_panes owner panes) p in
    let e : seen_point (around_panes owner (pane ∷ panes)) p ≡ point_into (place_of_node pane) q =
    ap (λ xs. seen_point xs p) (around-cons owner pane panes) ∙ seen-append (around_panes owner panes) (place_of_node pane) p in
    let ex : (seen_point (around_panes owner (pane ∷ panes)) p).x ≡ q.x -ℤ pane.x =
    ap (λ (r : Point). r.x) e ∙ into_x (place_of_node pane) (20000 + 132 * length panes) q (omega arith) before.near_x here.x in
    let ey : (seen_point (around_panes owner (pane ∷ panes)) p).y ≡ q.y -ℤ pane.y =
    ap (λ (r : Point). r.y) e ∙ into_y (place_of_node pane) (20000 + 132 * length panes) q (omega arith) before.near_y here.y in
    record {
      x = ex ∙ (let f = column_from panes (pane.x +ℤ pos 0) in let g = before.x in omega (arith, ints, f, g));
      y = ey ∙ (let f = row_from panes (pane.y +ℤ pos 0) in let g = before.y in omega (arith, ints, f, g));
      near_x = near_as _ _ _ ex (nearer _ _ _ (omega arith) (moved_near _ q.x pane.x before.near_x here.x));
      near_y = near_as _ _ _ ey (nearer _ _ _ (omega arith) (moved_near _ q.y pane.y before.near_y here.y));
    }
