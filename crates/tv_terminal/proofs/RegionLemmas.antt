-- Rows, rectangles and lists of rectangles, cell by cell.
use Rattle.std.proofs.Common.{◌≡◌, ◌↔◌, ℕ, ℤ, pos, ◌≤ℤ◌, ◌<ℤ◌, ◌+◌, ◌<◌, ◌≤◌, true, List, length, take, get_or, inl, inr, sym, ◌∙◌, arith}
use Rattle.std.proofs.lemmas.Bool.{cases_lt}
use Rattle.std.proofs.lemmas.List.Folds.{list_any_more}
use Rattle.tv_cells.specs.Layers.{is_in}
use Rattle.tv_cells.specs.Picture.{IsPlace, IsOn, IsAlike}
use Rattle.tv_cells.specs.Repainting.{has_cell}
use Rattle.tv_cells.specs.Row.{IsInRow}
use Rattle.tv_cells.specs.declared.rect.Rect.{Rect}
use Rattle.tv_cells.proofs.LayerLemmas.{is_in_true}
use Rattle.tv_cells.proofs.DamageLemmas.{is_in-true, or_left, or_right, or_split}
use Rattle.tv_io.specs.Writer.{Seen}
use Rattle.tv_io.specs.declared.pen.Pen.{Pen}
use Rattle.tv_terminal.specs.Writing.{Draws}
use Rattle.tv_terminal.specs.declared.hand.Hand.{Hand}
use Rattle.tv_terminal.specs.declared.painter.Painter.{Painter}
use Rattle.tv_cells.specs.Picture.{Picture}
use Rattle.tv_terminal.proofs.DrawLemmas.{draws-along, draws-none, draws-then}
use Rattle.tv_terminal.proofs.SpotLemmas.{place-test, row-test, true-test}

-- columns and rows from some on and before others
pub record IsInSpan (left right top bottom column row : ℕ) : Type 0 where
  pub after : left ≤ column
  pub before : column < right
  pub below : top ≤ row
  pub above : row < bottom

module _ {W : Type 0} {seen : W → Seen} {screen : Picture} {old mid new : Painter} {hand between after : Hand} {x y z : Pen W} where
  pub draws-next_cell : (left at row : ℕ) → left ≤ at → Draws seen (IsInRow left at row) screen old mid hand between x y → Draws seen (IsPlace at row) screen mid new between after y z
      → Draws seen (IsInRow left (at + 1) row) screen old new hand after x z
  draws-next_cell left at row le = draws-then
      (place-test at row)
      (λ a b h. elim (cases_lt a at) [
        | inl lt ↦ inl (record { after = h.after; before = lt; here = h.here })
        | inr ge ↦ inr (omega (arith, h.before), h.here)
      ])
      (λ a b h. record { after = h.after; before = omega (arith, h.before); here = h.here })
      (λ a b h. record { after = omega (arith, h.0); before = omega (arith, h.0); here = h.1 })

  pub draws-next_row : (left right top at : ℕ) → top ≤ at → Draws seen (IsInSpan left right top at) screen old mid hand between x y → Draws seen (IsInRow left right at) screen mid new between after y z
      → Draws seen (IsInSpan left right top (at + 1)) screen old new hand after x z
  draws-next_row left right top at le = draws-then
      (row-test left right at)
      (λ a b h. elim (cases_lt b at) [
        | inl lt ↦ inl (record { after = h.after; before = h.before; below = h.below; above = lt })
        | inr ge ↦ inr (record { after = h.after; before = h.before; here = omega (arith, h.above) })
      ])
      (λ a b h. record { after = h.after; before = h.before; below = h.below; above = omega (arith, h.above) })
      (λ a b h. record { after = h.after; before = h.before; below = omega (arith, h.here); above = omega (arith, h.here) })

  pub draws-next_rect : (rects : List Rect) (i : ℕ) (r : Rect) → i < length rects → Draws seen (λ column row. has_cell (take i rects) column row ≡ true) screen old mid hand between x y
      → Draws seen (λ column row. is_in (get_or rects i r) (pos column) (pos row) ≡ true) screen mid new between after y z
      → Draws seen (λ column row. has_cell (take (i + 1) rects) column row ≡ true) screen old new hand after x z
  draws-next_rect rects i r lt = draws-then
      (λ a b. true-test (is_in (get_or rects i r) (pos a) (pos b)))
      (λ a b h. or_split (has_cell (take i rects) a b) (is_in (get_or rects i r) (pos a) (pos b)) (sym (list_any_more (λ q. is_in q (pos a) (pos b)) rects i r lt) ∙ h))
      (λ a b h. list_any_more (λ q. is_in q (pos a) (pos b)) rects i r lt ∙ or_left (has_cell (take i rects) a b) (is_in (get_or rects i r) (pos a) (pos b)) h)
      (λ a b h. list_any_more (λ q. is_in q (pos a) (pos b)) rects i r lt ∙ or_right (has_cell (take i rects) a b) (is_in (get_or rects i r) (pos a) (pos b)) h)

pub draws-no_row : {W : Type 0} {seen : W → Seen} {screen : Picture} {painter : Painter} (hand : Hand) {x : Pen W} (left row : ℕ) → Draws seen (IsInRow left left row) screen painter painter hand hand x x
draws-no_row hand left row = draws-none hand (λ a b h. absurd (omega (arith, h.after, h.before)))

pub draws-no_rows : {W : Type 0} {seen : W → Seen} {screen : Picture} {painter : Painter} (hand : Hand) {x : Pen W} (left right top : ℕ) → Draws seen (IsInSpan left right top top) screen painter painter hand hand x x
draws-no_rows hand left right top = draws-none hand (λ a b h. absurd (omega (arith, h.below, h.above)))

pub draws-no_rects : {W : Type 0} {seen : W → Seen} {screen : Picture} {painter : Painter} (hand : Hand) {x : Pen W} (rects : List Rect) → Draws seen (λ column row. has_cell (take 0 rects) column row ≡ true) screen painter painter hand hand x x
draws-no_rects hand rects = draws-none hand (λ a b h. absurd cc)

-- ---- a rectangle by its columns and rows on the screen

-- places of a line that lie between two coordinates
abbrev Between : ℤ → ℤ → (length first last : ℕ) → Type 0
Between from to length first last = (p : ℕ) → p < length → ((first ≤ p) × (p < last)) ↔ ((from ≤ℤ pos p) × (pos p <ℤ to))

module _ (r : Rect) (screen : Picture) (left right top bottom : ℕ) (width : right ≤ screen.width) (height : bottom ≤ screen.height)
    (across : Between r.a.x r.b.x screen.width left right) (down : Between r.a.y r.b.y screen.height top bottom) where
  span-in : (a b : ℕ) → IsInSpan left right top bottom a b → is_in r (pos a) (pos b) ≡ true
  span-in a b h =
      let x = (across a (omega (arith, h.before))).0 (h.after, h.before) in
      let y = (down b (omega (arith, h.above))).0 (h.below, h.above) in
      is_in-true r (pos a) (pos b) (record { after_left = x.0; before_right = x.1; after_top = y.0; before_bottom = y.1 })

  in-span : (a b : ℕ) → IsOn screen a b → is_in r (pos a) (pos b) ≡ true → IsInSpan left right top bottom a b
  in-span a b on e =
      let here = is_in_true r (pos a) (pos b) e in
      let x = (across a on.across).1 (here.after_left, here.before_right) in
      let y = (down b on.down).1 (here.after_top, here.before_bottom) in
      record { after = x.0; before = x.1; below = y.0; above = y.1 }

  pub draws-rect : {W : Type 0} {seen : W → Seen} {old new : Painter} {hand after : Hand} {x y : Pen W} → IsAlike old.shown screen
      → Draws seen (IsInSpan left right top bottom) screen old new hand after x y
      → Draws seen (λ column row. is_in r (pos column) (pos row) ≡ true) screen old new hand after x y
  draws-rect alike = draws-along alike span-in in-span
