-- Places as sets of points.
use Rattle.std.proofs.Common.{◌≡◌, ◌↔◌, ◌⊎◌, inl, inr, IsTrue, Bool, true, false, not, ◌&&◌, ◌||◌, ℤ, pos, ◌-ℤ◌, ◌≤ℤ◌, ◌<ℤ◌, int_le, int_lt, sym, ap, ◌∙◌, arith}
use Rattle.std.proofs.lemmas.Bool.{and_parts, and_from, cases_Bool}
use Rattle.std.proofs.lemmas.Int.{ints, clamps}
use Rattle.std.specs.Int.{int_max}
use Rattle.tv_cells.specs.declared.rect.Rect.{Rect}
use Rattle.tv_cells.specs.Rectangle.{IsIn}
use Rattle.tv_model.specs.Description.Rectangles.{has_points, is_within, overlap}

pub rect_is : (p q r s a b c d : ℤ) → p ≡ a → q ≡ b → r ≡ c → s ≡ d
    → ◌≡◌ {A = Rect} record { a = record { x = p; y = q }; b = record { x = r; y = s } } record { a = record { x = a; y = b }; b = record { x = c; y = d } }
rect_is p q r s a b c d e f g h = cc

pub lt_holds : (a b : ℤ) → a <ℤ b → int_lt a b ≡ true
lt_holds a b h = grind (arith, ints)

pub lt_says : (a b : ℤ) → int_lt a b ≡ true → a <ℤ b
lt_says a b h = grind (arith, ints)

pub le_holds : (a b : ℤ) → a ≤ℤ b → int_le a b ≡ true
le_holds a b h = grind (arith, ints)

pub le_says : (a b : ℤ) → int_le a b ≡ true → a ≤ℤ b
le_says a b h = grind (arith, ints)

-- four tests at once
record Four (P Q R S : Type 0) : Type 0 where
  one : P
  two : Q
  three : R
  four : S

four_hold : (p q r s : Bool) → Four (p ≡ true) (q ≡ true) (r ≡ true) (s ≡ true) → ((p && q) && (r && s)) ≡ true
four_hold p q r s f = and_from (p && q) (r && s) (and_from p q f.one f.two) (and_from r s f.three f.four)

four_say : (p q r s : Bool) → ((p && q) && (r && s)) ≡ true → Four (p ≡ true) (q ≡ true) (r ≡ true) (s ≡ true)
four_say p q r s e = let f : ((p && q) ≡ true) × ((r && s) ≡ true) = and_parts (p && q) (r && s) e in
    let g : (p ≡ true) × (q ≡ true) = and_parts p q f.0 in
    let h : (r ≡ true) × (s ≡ true) = and_parts r s f.1 in
    record { one = g.0; two = g.1; three = h.0; four = h.1 }

-- a point lies in it
points_hold : (r : Rect) (x y : ℤ) → IsIn r x y → has_points r ≡ true
points_hold r x y i = and_from (int_lt r.a.x r.b.x) (int_lt r.a.y r.b.y) (lt_holds r.a.x r.b.x (omega (arith, ints))) (lt_holds r.a.y r.b.y (omega (arith, ints)))

record HasPoints (r : Rect) : Type 0 where
  across : r.a.x <ℤ r.b.x
  down : r.a.y <ℤ r.b.y

points_say : (r : Rect) → has_points r ≡ true → HasPoints r
points_say r e = let f : (int_lt r.a.x r.b.x ≡ true) × (int_lt r.a.y r.b.y ≡ true) = and_parts (int_lt r.a.x r.b.x) (int_lt r.a.y r.b.y) e in
    record { across = lt_says r.a.x r.b.x f.0; down = lt_says r.a.y r.b.y f.1 }

abbrev inside : Rect → Rect → Bool
inside r s = (int_le s.a.x r.a.x && int_le r.b.x s.b.x) && (int_le s.a.y r.a.y && int_le r.b.y s.b.y)

record IsInside (r s : Rect) : Type 0 where
  left : s.a.x ≤ℤ r.a.x
  right : r.b.x ≤ℤ s.b.x
  top : s.a.y ≤ℤ r.a.y
  bottom : r.b.y ≤ℤ s.b.y

inside_says : (r s : Rect) → inside r s ≡ true → IsInside r s
inside_says r s e = let f : Four (int_le s.a.x r.a.x ≡ true) (int_le r.b.x s.b.x ≡ true) (int_le s.a.y r.a.y ≡ true) (int_le r.b.y s.b.y ≡ true) = four_say _ _ _ _ e in
    record { left = le_says s.a.x r.a.x f.one; right = le_says r.b.x s.b.x f.two; top = le_says s.a.y r.a.y f.three; bottom = le_says r.b.y s.b.y f.four }

inside_holds : (r s : Rect) → IsInside r s → inside r s ≡ true
inside_holds r s i = four_hold _ _ _ _ (record { one = le_holds s.a.x r.a.x i.left; two = le_holds r.b.x s.b.x i.right; three = le_holds s.a.y r.a.y i.top; four = le_holds r.b.y s.b.y i.bottom })

inside_in : (r s : Rect) → IsInside r s → (x y : ℤ) → IsIn r x y → IsIn s x y
inside_in r s f x y i = record { after_left = omega (arith, ints); before_right = omega (arith, ints); after_top = omega (arith, ints); before_bottom = omega (arith, ints) }

-- the first and the last point show where the sides are
corners : (r s : Rect) → HasPoints r → ((x y : ℤ) → IsIn r x y → IsIn s x y) → IsInside r s
corners r s h all =
    let first : IsIn s r.a.x r.a.y = all r.a.x r.a.y (record { after_left = omega (arith, ints); before_right = omega (arith, ints); after_top = omega (arith, ints); before_bottom = omega (arith, ints) }) in
    let last : IsIn s (r.b.x -ℤ pos 1) (r.b.y -ℤ pos 1) = all (r.b.x -ℤ pos 1) (r.b.y -ℤ pos 1) (record { after_left = omega (arith, ints); before_right = omega (arith, ints); after_top = omega (arith, ints); before_bottom = omega (arith, ints) }) in
    record { left = omega (arith, ints); right = omega (arith, ints); top = omega (arith, ints); bottom = omega (arith, ints) }

within_forward : (r s : Rect) → is_within r s ≡ true → (x y : ℤ) → IsIn r x y → IsIn s x y
within_forward r s e x y i =
    let p : has_points r ≡ true = points_hold r x y i in
    let q : (not true || inside r s) ≡ true = ap (λ b. not b || inside r s) (sym p) ∙ e in
    inside_in r s (inside_says r s q) x y i

within_back : (r s : Rect) → ((x y : ℤ) → IsIn r x y → IsIn s x y) → (has_points r ≡ true) ⊎ (has_points r ≡ false) → is_within r s ≡ true
within_back r s all (inl p) = ap (λ b. not b || inside r s) p ∙ inside_holds r s (corners r s (points_say r p) all)
within_back r s all (inr p) = ap (λ b. not b || inside r s) p

pub within_points : (b : Bool) (r s : Rect) → b ≡ is_within r s → IsTrue b ↔ ((x y : ℤ) → IsIn r x y → IsIn s x y)
within_points b r s e = (λ t. within_forward r s (sym e ∙ t), λ all. e ∙ within_back r s all (cases_Bool (has_points r)))

abbrev crossing : Rect → Rect → Bool
crossing r s = (int_lt r.a.x s.b.x && int_lt s.a.x r.b.x) && (int_lt r.a.y s.b.y && int_lt s.a.y r.b.y)

record IsCrossing (r s : Rect) : Type 0 where
  right : r.a.x <ℤ s.b.x
  left : s.a.x <ℤ r.b.x
  bottom : r.a.y <ℤ s.b.y
  top : s.a.y <ℤ r.b.y

crossing_says : (r s : Rect) → crossing r s ≡ true → IsCrossing r s
crossing_says r s e = let f : Four (int_lt r.a.x s.b.x ≡ true) (int_lt s.a.x r.b.x ≡ true) (int_lt r.a.y s.b.y ≡ true) (int_lt s.a.y r.b.y ≡ true) = four_say _ _ _ _ e in
    record { right = lt_says r.a.x s.b.x f.one; left = lt_says s.a.x r.b.x f.two; bottom = lt_says r.a.y s.b.y f.three; top = lt_says s.a.y r.b.y f.four }

crossing_holds : (r s : Rect) → IsCrossing r s → crossing r s ≡ true
crossing_holds r s i = four_hold _ _ _ _ (record { one = lt_holds r.a.x s.b.x i.right; two = lt_holds s.a.x r.b.x i.left; three = lt_holds r.a.y s.b.y i.bottom; four = lt_holds s.a.y r.b.y i.top })

abbrev Common : Rect → Rect → Type 0
Common r s = (x : ℤ) × (y : ℤ) × IsIn r x y × IsIn s x y

overlap_forward : (r s : Rect) → overlap r s ≡ true → Common r s
overlap_forward r s e =
    let f : ((has_points r && has_points s) ≡ true) × (crossing r s ≡ true) = and_parts (has_points r && has_points s) (crossing r s) e in
    let g : (has_points r ≡ true) × (has_points s ≡ true) = and_parts (has_points r) (has_points s) f.0 in
    let p : HasPoints r = points_say r g.0 in
    let q : HasPoints s = points_say s g.1 in
    let k : IsCrossing r s = crossing_says r s f.1 in (
      int_max r.a.x s.a.x,
      int_max r.a.y s.a.y,
      record { after_left = omega (arith, ints, clamps); before_right = omega (arith, ints, clamps); after_top = omega (arith, ints, clamps); before_bottom = omega (arith, ints, clamps) },
      record { after_left = omega (arith, ints, clamps); before_right = omega (arith, ints, clamps); after_top = omega (arith, ints, clamps); before_bottom = omega (arith, ints, clamps) },
    )

overlap_back : (r s : Rect) (x y : ℤ) → IsIn r x y → IsIn s x y → overlap r s ≡ true
overlap_back r s x y i j = and_from (has_points r && has_points s) (crossing r s)
    (and_from (has_points r) (has_points s) (points_hold r x y i) (points_hold s x y j))
    (crossing_holds r s (record { right = omega (arith, ints); left = omega (arith, ints); bottom = omega (arith, ints); top = omega (arith, ints) }))

pub overlap_points : (b : Bool) (r s : Rect) → b ≡ overlap r s → IsTrue b ↔ ((x : ℤ) × (y : ℤ) × IsIn r x y × IsIn s x y)
overlap_points b r s e = (λ t. overlap_forward r s (sym e ∙ t), λ k. e ∙ overlap_back r s k.0 k.1 k.2 k.3)
