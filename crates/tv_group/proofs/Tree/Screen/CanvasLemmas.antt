-- The canvas of a leaf through the groups around it, which cut nothing of it.
use Rattle.std.proofs.Common.{◌≡◌, ℕ, ◌≤◌, ◌+◌, ◌*◌, ℤ, pos, neg_ℤ, ◌+ℤ◌, ◌-ℤ◌, ◌≤ℤ◌, ◌&&◌, List, [], ◌∷◌, ◌++◌, length, All, map, reverse, true, refl, sym, ap, ◌∙◌, arith, subst}
use Rattle.std.specs.Prelude.{if◌then◌else◌}
use Rattle.std.proofs.lemmas.Bool.{and_from}
use Rattle.std.proofs.lemmas.Int.{ints}
use Rattle.std.proofs.lemmas.List.Elements.{All-head, All-tail}
use Rattle.std.specs.Int.Signed.{le_z}
use Rattle.tv_cells.specs.Canvas.{sub}
use Rattle.tv_cells.specs.Rectangle.{IsIn, shifted}
use Rattle.tv_cells.specs.declared.rect.Point.{Point}
use Rattle.tv_cells.specs.declared.rect.Rect.{Rect}
use Rattle.tv_cells.specs.declared.canvas.Canvas.{Canvas}
use Rattle.tv_cells.proofs.RectangleLemmas.{in_cut}
use Rattle.tv_model.specs.declared.node.Node.{Node}
use Rattle.tv_view.specs.Meaning.{Leaf}
use Rattle.tv_model.specs.Description.Rectangles.{interior, place_of_node, whole_area}
use Rattle.tv_machine.specs.Leaves.{column_in, row_in}
use Rattle.tv_view.specs.declared.env.Env.{Env}
use Rattle.tv_view.specs.Drawing.{is_near, layers_in, leaf_layers}
use Rattle.tv_group.specs.Outline.{body_bounds}
use Rattle.tv_group.proofs.ListLemmas.{map-snoc, reverse-step}
use Rattle.tv_machine.specs.Dialog.Lawful.{LiesIn}
use Rattle.tv_group.proofs.Tree.Mouse.ReachLemmas.{within_in}

-- ---- canvases through groups

-- a canvas cut by groups from the outermost in
abbrev pub canvas_in : Canvas → List Rect → Canvas
canvas_in c [] = c
canvas_in c (bounds ∷ around) = canvas_in (sub c bounds) around

-- no corner on the way lies too far away
abbrev pub AreNear : Canvas → List Rect → Type 0
AreNear c [] = Unit {0}
AreNear c (bounds ∷ around) = (is_near (sub c bounds).origin ≡ true) × AreNear (sub c bounds) around

canvas-append : (c : Canvas) (around : List Rect) (r : Rect) → canvas_in c (around ++ r ∷ []) ≡ sub (canvas_in c around) r
canvas-append c [] r = refl
canvas-append c (bounds ∷ around) r = canvas-append (sub c bounds) around r

near-append : (c : Canvas) (around : List Rect) (r : Rect) → AreNear c around → is_near (sub (canvas_in c around) r).origin ≡ true
    → AreNear c (around ++ r ∷ [])
near-append c [] r before here = (here, tt)
near-append c (bounds ∷ around) r before here = (before.0, near-append (sub c bounds) around r before.1 here)

-- a leaf is drawn through the canvas of the innermost group
pub layers-near : (env : Env) (c : Canvas) (around : List Rect) (leaf : Leaf) → AreNear c around
    → layers_in env c around leaf ≡ leaf_layers env (canvas_in c around) leaf
layers-near env c [] leaf near = refl
layers-near env c (bounds ∷ around) leaf near =
    ap (λ b. if b then layers_in env (sub c bounds) around leaf else []) near.0 ∙ layers-near env (sub c bounds) around leaf near.1

-- it shows no more than the canvas does
pub clip-in : (c : Canvas) (around : List Rect) (x y : ℤ) → IsIn (canvas_in c around).clip x y → IsIn c.clip x y
clip-in c [] x y i = i
clip-in c (bounds ∷ around) x y i = ((in_cut c.clip (shifted bounds c.origin) x y).0 (clip-in (sub c bounds) around x y i)).0

-- ---- panes

-- the groups around what stands in these panes, which are listed from the innermost out
abbrev pub groups_of : Node → List Node → List Rect
groups_of owner panes = body_bounds owner ∷ map place_of_node (reverse panes)

groups-cons : (owner pane : Node) (panes : List Node) → groups_of owner (pane ∷ panes) ≡ groups_of owner panes ++ place_of_node pane ∷ []
groups-cons owner pane panes =
    ap (λ xs. body_bounds owner ∷ map place_of_node xs) (reverse-step pane panes)
    ∙ ap (λ xs. body_bounds owner ∷ xs) (map-snoc place_of_node (reverse panes) pane)

canvas-cons : (c : Canvas) (owner pane : Node) (panes : List Node)
    → canvas_in c (groups_of owner (pane ∷ panes)) ≡ sub (canvas_in c (groups_of owner panes)) (place_of_node pane)
canvas-cons c owner pane panes =
    ap (canvas_in c) (groups-cons owner pane panes) ∙ canvas-append c (groups_of owner panes) (place_of_node pane)

-- ---- corners

pub column-sum : (panes : List Node) (z : ℤ) → column_in panes z ≡ column_in panes (pos 0) +ℤ z
column-sum [] z = omega (arith, ints)
column-sum (pane ∷ panes) z =
    let e = column-sum panes (pane.x +ℤ z) in let f = column-sum panes (pane.x +ℤ pos 0) in omega (arith, ints, e, f)

pub row-sum : (panes : List Node) (z : ℤ) → row_in panes z ≡ row_in panes (pos 0) +ℤ z
row-sum [] z = omega (arith, ints)
row-sum (pane ∷ panes) z =
    let e = row-sum panes (pane.y +ℤ z) in let f = row-sum panes (pane.y +ℤ pos 0) in omega (arith, ints, e, f)

pub origin-x : (c : Canvas) (owner : Node) (panes : List Node)
    → (canvas_in c (groups_of owner panes)).origin.x ≡ c.origin.x +ℤ column_in panes (pos 0)
origin-x c owner [] = omega (arith, ints)
origin-x c owner (pane ∷ panes) =
    ap (λ k. k.origin.x) (canvas-cons c owner pane panes)
    ∙ (let e = origin-x c owner panes in let f = column-sum panes (pane.x +ℤ pos 0) in omega (arith, ints, e, f))

pub origin-y : (c : Canvas) (owner : Node) (panes : List Node)
    → (canvas_in c (groups_of owner panes)).origin.y ≡ c.origin.y +ℤ row_in panes (pos 0)
origin-y c owner [] = omega (arith, ints)
origin-y c owner (pane ∷ panes) =
    ap (λ k. k.origin.y) (canvas-cons c owner pane panes)
    ∙ (let e = origin-y c owner panes in let f = row-sum panes (pane.y +ℤ pos 0) in omega (arith, ints, e, f))

-- a coordinate so near to 0
pub record IsUpTo (n : ℕ) (z : ℤ) : Type 0 where
  pub low : neg_ℤ (pos n) ≤ℤ z
  pub high : z ≤ℤ pos n

-- a corner so near to that of what it stands in
pub record IsCornerUpTo (n : ℕ) (p : Point) : Type 0 where
  pub x : IsUpTo n p.x
  pub y : IsUpTo n p.y

-- the corner of a pane of a sound description
abbrev pub IsPaneNear : Node → Type 0
IsPaneNear pane = IsCornerUpTo 132 (place_of_node pane).a

le_holds : (a b : ℤ) → a ≤ℤ b → le_z a b ≡ true
le_holds a b h = grind (arith, ints)

near_axis : (n : ℕ) (z : ℤ) → n ≤ 100000 → IsUpTo n z → (le_z (neg_ℤ (pos 100000)) z && le_z z (pos 100000)) ≡ true
near_axis n z few at =
    and_from (le_z (neg_ℤ (pos 100000)) z) (le_z z (pos 100000))
    (le_holds (neg_ℤ (pos 100000)) z (omega (arith, ints, at.low))) (le_holds z (pos 100000) (omega (arith, ints, at.high)))

near_corner : (n : ℕ) (p : Point) → n ≤ 100000 → IsCornerUpTo n p → is_near p ≡ true
near_corner n p few at =
    and_from (le_z (neg_ℤ (pos 100000)) p.x && le_z p.x (pos 100000)) (le_z (neg_ℤ (pos 100000)) p.y && le_z p.y (pos 100000))
    (near_axis n p.x few at.x) (near_axis n p.y few at.y)

moved : (n : ℕ) (z by : ℤ) → IsUpTo n z → IsUpTo 132 by → IsUpTo (n + 132) (by +ℤ z)
moved n z by at small = record { low = omega (arith, ints, at.low, small.low); high = omega (arith, ints, at.high, small.high) }

moved_corner : (n : ℕ) (c : Canvas) (r : Rect) → IsCornerUpTo n c.origin → IsCornerUpTo 132 r.a → IsCornerUpTo (n + 132) (sub c r).origin
moved_corner n c r at small = record { x = moved n c.origin.x r.a.x at.x small.x; y = moved n c.origin.y r.a.y at.y small.y }

-- the canvas of a leaf in few panes isn't far away, and no group around it is
pub record IsReached (c : Canvas) (owner : Node) (panes : List Node) : Type 0 where
  pub corner : IsCornerUpTo (432 + 132 * length panes) (canvas_in c (groups_of owner panes)).origin
  pub near : AreNear c (groups_of owner panes)

none : IsUpTo 132 (pos 0)
none = record { low = omega (arith, ints); high = omega (arith, ints) }

pub panes-reached : (c : Canvas) (owner : Node) (panes : List Node) → IsCornerUpTo 300 c.origin → All IsPaneNear panes → length panes ≤ 64
    → IsReached c owner panes
panes-reached c owner [] at corners few =
    let here : IsCornerUpTo (300 + 132) (sub c (body_bounds owner)).origin =
    moved_corner 300 c (body_bounds owner) at (record { x = none; y = none }) in
    record { corner = here; near = (near_corner 432 (sub c (body_bounds owner)).origin (omega arith) here, tt) }
panes-reached c owner (pane ∷ panes) at corners few =
    let before : IsReached c owner panes = panes-reached c owner panes at (All-tail IsPaneNear pane panes corners) (omega arith) in
    let k : Canvas = canvas_in c (groups_of owner panes) in
    let n : ℕ = 432 + 132 * length panes in
    let here : IsCornerUpTo (n + 132) (sub k (place_of_node pane)).origin =
    moved_corner n k (place_of_node pane) before.corner (All-head IsPaneNear pane panes corners) in
    let more : n + 132 ≡ 432 + 132 * length (pane ∷ panes) = omega arith in
    record {
      corner = subst (λ q. IsCornerUpTo (432 + 132 * length (pane ∷ panes)) q.origin) (sym (canvas-cons c owner pane panes))
          (subst (λ j. IsCornerUpTo j (sub k (place_of_node pane)).origin) more here);
      near = subst (AreNear c) (sym (groups-cons owner pane panes))
          (near-append c (groups_of owner panes) (place_of_node pane) before.near
          (near_corner (n + 132) (sub k (place_of_node pane)).origin (omega arith) here));
    }

-- ---- what lies inside isn't cut

unshifted : (r : Rect) (o : Point) (x y : ℤ) → IsIn (shifted r o) x y → IsIn r (x -ℤ o.x) (y -ℤ o.y)
unshifted r o x y i = record {
  after_left = omega (arith, ints, i.after_left);
  before_right = omega (arith, ints, i.before_right);
  after_top = omega (arith, ints, i.after_top);
  before_bottom = omega (arith, ints, i.before_bottom);
}

-- inside the frame is in the body, and in a pane's area is in the pane
frame_in : (owner : Node) (o : Point) (x y : ℤ) → IsIn (interior owner) (x -ℤ (pos 0 +ℤ o.x)) (y -ℤ (pos 0 +ℤ o.y))
    → IsIn (shifted (body_bounds owner) o) x y
frame_in owner o x y i = record {
  after_left = omega (arith, ints, i.after_left);
  before_right = omega (arith, ints, i.before_right);
  after_top = omega (arith, ints, i.after_top);
  before_bottom = omega (arith, ints, i.before_bottom);
}

pane_in : (pane : Node) (o : Point) (x y : ℤ) → IsIn (whole_area pane) (x -ℤ (pane.x +ℤ o.x)) (y -ℤ (pane.y +ℤ o.y))
    → IsIn (shifted (place_of_node pane) o) x y
pane_in pane o x y i = record {
  after_left = omega (arith, ints, i.after_left);
  before_right = omega (arith, ints, i.before_right);
  after_top = omega (arith, ints, i.after_top);
  before_bottom = omega (arith, ints, i.before_bottom);
}

-- where the canvas shows what lies in the body, no group cuts a view that lies in them all
pub view-uncut : (c : Canvas) (owner view : Node) (panes : List Node) → LiesIn owner view panes → (x y : ℤ)
    → (IsIn (shifted (body_bounds owner) c.origin) x y → IsIn c.clip x y)
    → IsIn (shifted (place_of_node view) (canvas_in c (groups_of owner panes)).origin) x y
    → IsIn (canvas_in c (groups_of owner panes)).clip x y
view-uncut c owner view [] lies x y opens i =
    let o : Point = (sub c (body_bounds owner)).origin in
    let at : IsIn (shifted (body_bounds owner) c.origin) x y =
    frame_in owner c.origin x y (within_in (place_of_node view) (interior owner) (x -ℤ o.x) (y -ℤ o.y) lies
    (unshifted (place_of_node view) o x y i)) in
    (in_cut c.clip (shifted (body_bounds owner) c.origin) x y).1 (opens at, at)
view-uncut c owner view (pane ∷ panes) lies x y opens i =
    let k : Canvas = canvas_in c (groups_of owner panes) in
    let e : canvas_in c (groups_of owner (pane ∷ panes)) ≡ sub k (place_of_node pane) = canvas-cons c owner pane panes in
    let o : Point = (sub k (place_of_node pane)).origin in
    let seen : IsIn (shifted (place_of_node view) o) x y = subst (λ q. IsIn (shifted (place_of_node view) q.origin) x y) e i in
    let at : IsIn (shifted (place_of_node pane) k.origin) x y =
    pane_in pane k.origin x y (within_in (place_of_node view) (whole_area pane) (x -ℤ o.x) (y -ℤ o.y) lies.0
    (unshifted (place_of_node view) o x y seen)) in
    subst (λ q. IsIn q.clip x y) (sym e)
    ((in_cut k.clip (shifted (place_of_node pane) k.origin) x y).1 (view-uncut c owner pane panes lies.1 x y opens at, at))
