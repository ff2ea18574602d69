-- Points and rectangles from their coordinates, and the points of rectangles.
use Rattle.std.proofs.Common.{◌≡◌, ◌↔◌, ◌==◌, ℕ, ◌-◌, ℤ, pos, negsuc, ◌+ℤ◌, ◌≤ℤ◌, ◌<ℤ◌, Bool, true, false, IsTrue, refl, ◌∙◌, arith}
use Rattle.std.specs.Int.{int_gap}
use Rattle.std.proofs.lemmas.Bool.Decides.{nat_tests}
use Rattle.std.proofs.lemmas.Int.{ints, clamps}
use Rattle.tv_cells.specs.declared.rect.Point.{Point}
use Rattle.tv_cells.specs.declared.rect.Rect.{Rect}
use Rattle.tv_cells.specs.Rectangle.{IsEmpty, IsIn, cut, shifted}

pub point_is : (a b x y : ℤ) → a ≡ x → b ≡ y → ◌≡◌ {A = Point} record { x = a; y = b } record { x = x; y = y }
point_is a b x y e f = cc

pub rect_is : (p q a b : Point) → p ≡ a → q ≡ b → ◌≡◌ {A = Rect} record { a = p; b = q } record { a = a; b = b }
rect_is p q a b e f = cc

-- what is in both is in what they have in common, and the other way round
pub in_cut : (r s : Rect) (x y : ℤ) → IsIn (cut r s) x y ↔ (IsIn r x y × IsIn s x y)
in_cut r s x y = (
  λ i. (
    record { after_left = omega (arith, ints, clamps); before_right = omega (arith, ints, clamps); after_top = omega (arith, ints, clamps); before_bottom = omega (arith, ints, clamps) },
    record { after_left = omega (arith, ints, clamps); before_right = omega (arith, ints, clamps); after_top = omega (arith, ints, clamps); before_bottom = omega (arith, ints, clamps) },
  ),
  λ i. record { after_left = omega (arith, ints, clamps); before_right = omega (arith, ints, clamps); after_top = omega (arith, ints, clamps); before_bottom = omega (arith, ints, clamps) },
)

-- a moved rectangle has the moved points
pub in_shifted : (r : Rect) (by : Point) (x y : ℤ) → IsIn (shifted r by) (x +ℤ by.x) (y +ℤ by.y) ↔ IsIn r x y
in_shifted r by x y = (
  λ i. record { after_left = omega (arith, ints); before_right = omega (arith, ints); after_top = omega (arith, ints); before_bottom = omega (arith, ints) },
  λ i. record { after_left = omega (arith, ints); before_right = omega (arith, ints); after_top = omega (arith, ints); before_bottom = omega (arith, ints) },
)

pub in_cut_is : (q r s : Rect) → q ≡ cut r s → (x y : ℤ) → IsIn q x y ↔ (IsIn r x y × IsIn s x y)
in_cut_is q r s e x y = rw e (in_cut r s x y)

pub in_shifted_is : (q r : Rect) (by : Point) → q ≡ shifted r by → (x y : ℤ) → IsIn q (x +ℤ by.x) (y +ℤ by.y) ↔ IsIn r x y
in_shifted_is q r by e x y = rw e (in_shifted r by x y)

-- how far a number is above another
gap_none : (a b x : ℤ) → int_gap a b ≡ 0 → a ≤ℤ x → x <ℤ b → ⊥
gap_none (pos a) (pos b) x none from before = omega (arith, ints, none, from, before)
gap_none (pos a) (negsuc b) x none from before = omega (arith, ints, from, before)
gap_none (negsuc a) (pos b) x none from before = omega (arith, none)
gap_none (negsuc a) (negsuc b) x none from before = omega (arith, ints, none, from, before)

gap_some : (a b : ℤ) → (int_gap a b ≡ 0 → ⊥) → a <ℤ b
gap_some (pos a) (pos b) is = let above : (b - a ≡ 0 → ⊥) = is in omega (arith, ints, above)
gap_some (pos a) (negsuc b) is = absurd (is refl)
gap_some (negsuc a) (pos b) is = omega (arith, ints)
gap_some (negsuc a) (negsuc b) is = let above : (a - b ≡ 0 → ⊥) = is in omega (arith, ints, above)

no_rows : (r : Rect) → int_gap r.a.y r.b.y ≡ 0 → IsEmpty r
no_rows r none x y i = gap_none r.a.y r.b.y y none i.after_top i.before_bottom

corner_in : (r : Rect) → (int_gap r.a.x r.b.x ≡ 0 → ⊥) → (int_gap r.a.y r.b.y ≡ 0 → ⊥) → IsIn r r.a.x r.a.y
corner_in r across down = record {
  after_left = omega (arith, ints);
  before_right = gap_some r.a.x r.b.x across;
  after_top = omega (arith, ints);
  before_bottom = gap_some r.a.y r.b.y down;
}

rows_decide : (r : Rect) (height : ℕ) (b : Bool) → (int_gap r.a.x r.b.x ≡ 0 → ⊥) → height ≡ int_gap r.a.y r.b.y → (height == 0) ≡ b → IsTrue b ↔ IsEmpty r
rows_decide r height true across is down = (λ _. no_rows r (grind (arith, nat_tests)), λ _. refl)
rows_decide r height false across is down = (λ t. absurd cc, λ empty. absurd (empty r.a.x r.a.y (corner_in r across (grind (arith, nat_tests)))))

-- a rectangle with columns is empty where it has no rows
pub empty_is : (r : Rect) (width height : ℕ) → (width ≡ 0 → ⊥) → width ≡ int_gap r.a.x r.b.x → height ≡ int_gap r.a.y r.b.y → IsTrue (height == 0) ↔ IsEmpty r
empty_is r width height some across down = rows_decide r height (height == 0) (λ none. some (across ∙ none)) down refl
