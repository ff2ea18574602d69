-- What damage has.
use Rattle.std.proofs.Common.{◌≡◌, ◌↔◌, ℕ, ℤ, pos, ◌+ℤ◌, ◌-ℤ◌, ◌≤ℤ◌, ◌<◌, ◌+◌, Bool, true, false, ◌&&◌, ◌||◌, List, [], ◌∷◌, ◌++◌, All, length, get_or, set, zero, suc, take, drop, refl, sym, ◌∙◌, arith, inl, inr, ◌⊎◌}
use Rattle.std.specs.List.{list_any, refill}
use Rattle.std.specs.Int.Signed.{le_z}
use Rattle.std.proofs.lemmas.Int.{ints, clamps}
use Rattle.std.proofs.lemmas.List.Folds.{list_any_at, list_any_more}
use Rattle.std.proofs.lemmas.List.{get_or-set_same, length-set, take-append-le, take_all}
use Rattle.std.proofs.lemmas.List.Elements.{All-get_or, All-set}
use Rattle.tv_cells.specs.Damage.{Grows, HasAll, HasMoved, HasWithin, Holds, IsPart, IsSolid, has, hull, is_part, seen_within}
use Rattle.tv_cells.specs.Layers.{is_in}
use Rattle.tv_cells.specs.Rectangle.{IsIn, shifted}
use Rattle.tv_cells.specs.declared.rect.Point.{Point}
use Rattle.tv_cells.specs.declared.rect.Rect.{Rect}
use Rattle.tv_cells.proofs.LayerLemmas.{is_in_true, is_in_false, le_true}

-- ---- tests

pub or_left : (a b : Bool) → a ≡ true → (a || b) ≡ true
or_left true b e = refl
or_left false b e = absurd cc

pub or_right : (a b : Bool) → b ≡ true → (a || b) ≡ true
or_right true b e = refl
or_right false b e = e

pub or_split : (a b : Bool) → (a || b) ≡ true → (a ≡ true) ⊎ (b ≡ true)
or_split true b e = inl refl
or_split false b e = inr e

is_in-at : (r : Rect) (x y : ℤ) (b : Bool) → is_in r x y ≡ b → IsIn r x y → is_in r x y ≡ true
is_in-at r x y true e i = e
is_in-at r x y false e i = absurd (is_in_false r x y e i)

pub is_in-true : (r : Rect) (x y : ℤ) → IsIn r x y → is_in r x y ≡ true
is_in-true r x y i = is_in-at r x y (is_in r x y) refl i

-- ---- rectangles

-- the corners of a part
pub record IsWithin (r s : Rect) : Type 0 where
  pub left : s.a.x ≤ℤ r.a.x
  pub right : r.b.x ≤ℤ s.b.x
  pub top : s.a.y ≤ℤ r.a.y
  pub bottom : r.b.y ≤ℤ s.b.y

corners-part : (r s : Rect) → IsWithin r s → IsPart r s
corners-part r s w = record {
  each = λ x y i. record {
    after_left = omega (arith, ints, i.after_left, w.left);
    before_right = omega (arith, ints, i.before_right, w.right);
    after_top = omega (arith, ints, i.after_top, w.top);
    before_bottom = omega (arith, ints, i.before_bottom, w.bottom);
  };
}

pub part-corners : (r s : Rect) → IsSolid r → IsPart r s → IsWithin r s
part-corners r s solid part =
    let first = part.each r.a.x r.a.y (record { after_left = omega (arith, ints); before_right = solid.across; after_top = omega (arith, ints); before_bottom = solid.down }) in
    let last = part.each (r.b.x -ℤ pos 1) (r.b.y -ℤ pos 1)
    (record { after_left = omega (arith, ints, solid.across); before_right = omega (arith, ints); after_top = omega (arith, ints, solid.down); before_bottom = omega (arith, ints) }) in
    record {
      left = first.after_left;
      right = omega (arith, ints, last.before_right);
      top = first.after_top;
      bottom = omega (arith, ints, last.before_bottom);
    }

hull-left : (r s : Rect) → IsPart r (hull r s)
hull-left r s = corners-part r (hull r s) (record { left = omega (arith, ints, clamps); right = omega (arith, ints, clamps); top = omega (arith, ints, clamps); bottom = omega (arith, ints, clamps) })

hull-right : (r s : Rect) → IsPart s (hull r s)
hull-right r s = corners-part s (hull r s) (record { left = omega (arith, ints, clamps); right = omega (arith, ints, clamps); top = omega (arith, ints, clamps); bottom = omega (arith, ints, clamps) })

hull-part : (r s q : Rect) → IsSolid r → IsSolid s → IsPart r q → IsPart s q → IsPart (hull r s) q
hull-part r s q solid other p part =
    let i = part-corners r q solid p in let j = part-corners s q other part in
    corners-part (hull r s) q (record {
      left = omega (arith, ints, clamps, i.left, j.left);
      right = omega (arith, ints, clamps, i.right, j.right);
      top = omega (arith, ints, clamps, i.top, j.top);
      bottom = omega (arith, ints, clamps, i.bottom, j.bottom);
    })

hull-solid : (r s : Rect) → IsSolid r → IsSolid (hull r s)
hull-solid r s solid = record { across = omega (arith, ints, clamps, solid.across); down = omega (arith, ints, clamps, solid.down) }

-- ---- lists of rectangles

pub has-left : (xs ys : List Rect) (x y : ℤ) → has xs x y ≡ true → has (xs ++ ys) x y ≡ true
has-left [] ys x y e = absurd cc
has-left (r ∷ xs) ys x y e = elim (or_split (is_in r x y) (has xs x y) e) [
  | inl here ↦ or_left (is_in r x y) (has (xs ++ ys) x y) here
  | inr there ↦ or_right (is_in r x y) (has (xs ++ ys) x y) (has-left xs ys x y there)
]

pub has-right : (xs ys : List Rect) (x y : ℤ) → has ys x y ≡ true → has (xs ++ ys) x y ≡ true
has-right [] ys x y e = e
has-right (r ∷ xs) ys x y e = or_right (is_in r x y) (has (xs ++ ys) x y) (has-right xs ys x y e)

pub has-split : (xs ys : List Rect) (x y : ℤ) → has (xs ++ ys) x y ≡ true → (has xs x y ≡ true) ⊎ (has ys x y ≡ true)
has-split [] ys x y e = inr e
has-split (r ∷ xs) ys x y e = elim (or_split (is_in r x y) (has (xs ++ ys) x y) e) [
  | inl here ↦ inl (or_left (is_in r x y) (has xs x y) here)
  | inr there ↦ elim (has-split xs ys x y there) [
    | inl left ↦ inl (or_right (is_in r x y) (has xs x y) left)
    | inr right ↦ inr right
  ]
]

pub has-one : (r : Rect) (x y : ℤ) → IsIn r x y → has (r ∷ []) x y ≡ true
has-one r x y i = or_left (is_in r x y) false (is_in-true r x y i)

pub one-has : (r : Rect) (x y : ℤ) → has (r ∷ []) x y ≡ true → IsIn r x y
one-has r x y e = elim (or_split (is_in r x y) false e) [ inl here ↦ is_in_true r x y here | inr none ↦ absurd cc ]

-- ---- growth

pub grows-none : (rect : Rect) (rects : List Rect) → Grows rect rects rects
grows-none rect rects = record { kept = λ x y e. e; within = λ r h p. h }

pub grows-then : (rect : Rect) (old mid new : List Rect) → Grows rect old mid → Grows rect mid new → Grows rect old new
grows-then rect old mid new p q = record { kept = λ x y e. q.kept x y (p.kept x y e); within = λ r h part. q.within r (p.within r h part) part }

part-then : {q r s : Rect} → IsPart q r → IsPart r s → IsPart q s
part-then p t = record { each = λ x y i. t.each x y (p.each x y i) }

pub grows-part : (rect more : Rect) (old new : List Rect) → IsPart rect more → Grows rect old new → Grows more old new
grows-part rect more old new part p = record { kept = p.kept; within = λ r h t. p.within r h (part-then part t) }

pub pushed-grows : (rect : Rect) (old new : List Rect) → new ≡ old ++ rect ∷ [] → Grows rect old new
pushed-grows rect old new e = record {
  kept = λ x y h. rw e (has-left old (rect ∷ []) x y h);
  within = λ r h part. record {
    each = λ x y t. elim (has-split old (rect ∷ []) x y (rw e at t)) [
      | inl was ↦ h.each x y was
      | inr is ↦ part.each x y (one-has rect x y is)
    ];
  };
}

-- ---- a rectangle that takes the place of another

has-item : (rects : List Rect) (i : ℕ) (d : Rect) (x y : ℤ) → i < length rects → IsIn (get_or rects i d) x y → has rects x y ≡ true
has-item rects i d x y h e = list_any_at (λ r. is_in r x y) rects i d h (is_in-true (get_or rects i d) x y e)

set-kept : (rects : List Rect) (i : ℕ) (d s : Rect) (x y : ℤ) → i < length rects → IsPart (get_or rects i d) s → has rects x y ≡ true → has (set rects i s) x y ≡ true
set-kept [] i d s x y h part e = absurd cc
set-kept (r ∷ rects) zero d s x y h part e = elim (or_split (is_in r x y) (has rects x y) e) [
  | inl here ↦ or_left (is_in s x y) (has rects x y) (is_in-true s x y (part.each x y (is_in_true r x y here)))
  | inr there ↦ or_right (is_in s x y) (has rects x y) there
]
set-kept (r ∷ rects) (suc i) d s x y h part e = elim (or_split (is_in r x y) (has rects x y) e) [
  | inl here ↦ or_left (is_in r x y) (has (set rects i s) x y) here
  | inr there ↦ or_right (is_in r x y) (has (set rects i s) x y) (set-kept rects i d s x y (omega arith) part there)
]

set-split : (rects : List Rect) (i : ℕ) (s : Rect) (x y : ℤ) → has (set rects i s) x y ≡ true → (has rects x y ≡ true) ⊎ IsIn s x y
set-split [] i s x y e = absurd cc
set-split (r ∷ rects) zero s x y e = elim (or_split (is_in s x y) (has rects x y) e) [
  | inl here ↦ inr (is_in_true s x y here)
  | inr there ↦ inl (or_right (is_in r x y) (has rects x y) there)
]
set-split (r ∷ rects) (suc i) s x y e = elim (or_split (is_in r x y) (has (set rects i s) x y) e) [
  | inl here ↦ inl (or_left (is_in r x y) (has rects x y) here)
  | inr there ↦ elim (set-split rects i s x y there) [
    | inl was ↦ inl (or_right (is_in r x y) (has rects x y) was)
    | inr is ↦ inr is
  ]
]

-- what a write through the slice leaves
pub set-written : (rects was front : List Rect) (i : ℕ) (d s rect : Rect) → was ≡ rects → front ≡ rects → s ≡ hull (get_or was i d) rect
    → refill (length rects) rects (set front i s) ≡ set rects i (hull (get_or rects i d) rect)
set-written rects was front i d s rect read lent is =
    let new = set rects i s in
    let long = length-set rects i s in
    let same : refill (length rects) rects new ≡ new = take-append-le (length rects) new (drop (length new) rects) (omega arith) ∙ take_all (length rects) new (omega arith) in
    rw lent (same ∙ rw (is, read) refl)

pub hulled-solid : (rects : List Rect) (i : ℕ) (d rect : Rect) → i < length rects → All IsSolid rects → All IsSolid (set rects i (hull (get_or rects i d) rect))
hulled-solid rects i d rect h solid = All-set IsSolid rects i (hull (get_or rects i d) rect) (hull-solid (get_or rects i d) rect (All-get_or IsSolid rects i d h solid)) solid

pub hulled-all : (rects : List Rect) (i : ℕ) (d rect : Rect) → i < length rects → HasAll rect (set rects i (hull (get_or rects i d) rect))
hulled-all rects i d rect h = record {
  each = λ x y e.
      let s = hull (get_or rects i d) rect in
      has-item (set rects i s) i d x y (rw length-set h) (rw get_or-set_same ((hull-right (get_or rects i d) rect).each x y e));
}

pub hulled-grows : (rects : List Rect) (i : ℕ) (d rect : Rect) → i < length rects → All IsSolid rects → IsSolid rect → Grows rect rects (set rects i (hull (get_or rects i d) rect))
hulled-grows rects i d rect h solid other =
    let s = hull (get_or rects i d) rect in
    record {
      kept = λ x y e. set-kept rects i d s x y h (hull-left (get_or rects i d) rect) e;
      within = λ r holds part.
          let here : IsPart (get_or rects i d) r = record { each = λ x y e. holds.each x y (has-item rects i d x y h e) } in
          let whole = hull-part (get_or rects i d) rect r (All-get_or IsSolid rects i d h solid) other here part in
          record { each = λ x y e. elim (set-split rects i s x y e) [ inl was ↦ holds.each x y was | inr is ↦ whole.each x y is ] };
    }

-- ---- a rectangle that lies in another

and_left : (a b : Bool) → (a && b) ≡ true → a ≡ true
and_left true b e = refl
and_left false b e = absurd cc

and_right : (a b : Bool) → (a && b) ≡ true → b ≡ true
and_right true b e = e
and_right false b e = absurd cc

is_part-part : (r s : Rect) → is_part r s ≡ true → IsPart r s
is_part-part r s e =
    let across = and_left (le_z s.a.x r.a.x && le_z r.b.x s.b.x) (le_z s.a.y r.a.y && le_z r.b.y s.b.y) e in
    let down = and_right (le_z s.a.x r.a.x && le_z r.b.x s.b.x) (le_z s.a.y r.a.y && le_z r.b.y s.b.y) e in
    let left = and_left (le_z s.a.x r.a.x) (le_z r.b.x s.b.x) across in
    let right = and_right (le_z s.a.x r.a.x) (le_z r.b.x s.b.x) across in
    let top = and_left (le_z s.a.y r.a.y) (le_z r.b.y s.b.y) down in
    let bottom = and_right (le_z s.a.y r.a.y) (le_z r.b.y s.b.y) down in
    corners-part r s (record { left = le_true _ _ left; right = le_true _ _ right; top = le_true _ _ top; bottom = le_true _ _ bottom })

pub part-all : (rect : Rect) (rects : List Rect) → list_any (is_part rect) rects ≡ true → HasAll rect rects
part-all rect [] e = absurd cc
part-all rect (r ∷ rects) e = elim (or_split (is_part rect r) (list_any (is_part rect) rects) e) [
  | inl here ↦ record { each = λ x y i. or_left (is_in r x y) (has rects x y) (is_in-true r x y ((is_part-part rect r here).each x y i)) }
  | inr there ↦ let rest = part-all rect rects there in record { each = λ x y i. or_right (is_in r x y) (has rects x y) (rest.each x y i) }
]

pub empty-all : (rect : Rect) (rects : List Rect) → (IsSolid rect → ⊥) → HasAll rect rects
empty-all rect rects empty = record {
  each = λ x y i. absurd (empty (record { across = omega (arith, ints, i.after_left, i.before_right); down = omega (arith, ints, i.after_top, i.before_bottom) }));
}

-- ---- frames

pub within-seen : (r frame : Rect) (x y : ℤ) → IsIn r x y → IsIn frame (x +ℤ frame.a.x) (y +ℤ frame.a.y) → IsIn (seen_within r frame) (x +ℤ frame.a.x) (y +ℤ frame.a.y)
within-seen r frame x y i f = record {
  after_left = omega (arith, ints, clamps, i.after_left, f.after_left, f.before_right);
  before_right = omega (arith, ints, clamps, i.before_right, f.after_left, f.before_right);
  after_top = omega (arith, ints, clamps, i.after_top, f.after_top, f.before_bottom);
  before_bottom = omega (arith, ints, clamps, i.before_bottom, f.after_top, f.before_bottom);
}

pub within-part : (r frame : Rect) → IsPart (seen_within r frame) frame
within-part r frame = record {
  each = λ x y i. record {
    after_left = omega (arith, ints, clamps, i.after_left, i.before_right);
    before_right = omega (arith, ints, clamps, i.after_left, i.before_right);
    after_top = omega (arith, ints, clamps, i.after_top, i.before_bottom);
    before_bottom = omega (arith, ints, clamps, i.after_top, i.before_bottom);
  };
}

-- ---- loops over rectangles

has-taken : (rects : List Rect) (i : ℕ) (d : Rect) (x y : ℤ) → i < length rects → has (take (i + 1) rects) x y ≡ true → (has (take i rects) x y ≡ true) ⊎ (is_in (get_or rects i d) x y ≡ true)
has-taken rects i d x y h e = or_split (has (take i rects) x y) (is_in (get_or rects i d) x y) (sym (list_any_more (λ r. is_in r x y) rects i d h) ∙ e)

pub within-none : (frame : Rect) (rects : List Rect) → HasWithin frame [] rects
within-none frame rects = record { each = λ x y e f. absurd cc }

pub within-next : (frame cut : Rect) (inner : List Rect) (i : ℕ) (d : Rect) (mid new : List Rect) → i < length inner
    → ((x y : ℤ) → IsIn (get_or inner i d) x y → IsIn frame (x +ℤ frame.a.x) (y +ℤ frame.a.y) → IsIn cut (x +ℤ frame.a.x) (y +ℤ frame.a.y))
    → HasWithin frame (take i inner) mid → HasAll cut new → Grows cut mid new → HasWithin frame (take (i + 1) inner) new
within-next frame cut inner i d mid new h seen done all grown = record {
  each = λ x y e f. elim (has-taken inner i d x y h e) [
    | inl before ↦ grown.kept (x +ℤ frame.a.x) (y +ℤ frame.a.y) (done.each x y before f)
    | inr here ↦ all.each (x +ℤ frame.a.x) (y +ℤ frame.a.y) (seen x y (is_in_true (get_or inner i d) x y here) f)
  ];
}

-- ---- rectangles that are moved

pub moved-none : (by : Point) (rects : List Rect) → HasMoved by [] rects
moved-none by rects = record { each = λ x y e. absurd cc }

pub moved-next : (by : Point) (moved : Rect) (other : List Rect) (i : ℕ) (d : Rect) (mid new : List Rect) → i < length other
    → ((x y : ℤ) → IsIn moved (x +ℤ by.x) (y +ℤ by.y) ↔ IsIn (get_or other i d) x y)
    → HasMoved by (take i other) mid → HasAll moved new → Grows moved mid new → HasMoved by (take (i + 1) other) new
moved-next by moved other i d mid new h is done all grown = record {
  each = λ x y e. elim (has-taken other i d x y h e) [
    | inl before ↦ grown.kept (x +ℤ by.x) (y +ℤ by.y) (done.each x y before)
    | inr here ↦ all.each (x +ℤ by.x) (y +ℤ by.y) ((is x y).1 (is_in_true (get_or other i d) x y here))
  ];
}

-- a moved rectangle lies in what holds them all, moved
pub moved-part : (by : Point) (moved r : Rect) (other : List Rect) (i : ℕ) (d : Rect) → i < length other
    → moved ≡ shifted (get_or other i d) by → Holds r other → IsPart moved (shifted r by)
moved-part by moved r other i d h is holds = record {
  each = λ x y e.
      let at : IsIn (shifted (get_or other i d) by) x y = rw (← is) e in
      let in_r = holds.each (x -ℤ by.x) (y -ℤ by.y) (has-item other i d (x -ℤ by.x) (y -ℤ by.y) h
      (record { after_left = omega (arith, ints, at.after_left); before_right = omega (arith, ints, at.before_right); after_top = omega (arith, ints, at.after_top); before_bottom = omega (arith, ints, at.before_bottom) })) in
      record { after_left = omega (arith, ints, in_r.after_left); before_right = omega (arith, ints, in_r.before_right); after_top = omega (arith, ints, in_r.after_top); before_bottom = omega (arith, ints, in_r.before_bottom) };
}
