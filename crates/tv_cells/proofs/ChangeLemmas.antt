-- How changes are put together.
use Rattle.std.proofs.Common.{◌≡◌, ℕ, ℤ, pos, refl, sym, ◌∙◌, ap, inl, inr, ◌⊎◌}
use Rattle.tv_cells.specs.Glyph.{Glyph}
use Rattle.tv_cells.specs.Picture.{Picture, IsOn, IsPlace, Changes}
use Rattle.tv_cells.specs.Canvas.{IsAt}
use Rattle.tv_cells.specs.declared.canvas.Canvas.{Canvas}

-- nothing changes where no place of the screen is in the region
pub changes_none : {Region : ℕ → ℕ → Type 0} {f : ℕ → ℕ → Glyph → Glyph} {p : Picture} → ((column row : ℕ) → IsOn p column row → Region column row → ⊥) → Changes Region f p p
changes_none empty = record {
  size = record { width = refl; height = refl };
  inside = λ column row on here. absurd (empty column row on here);
  outside = λ column row on other. refl;
}

-- two regions that have the same places of the screen
pub changes_along : {Region Other : ℕ → ℕ → Type 0} {f : ℕ → ℕ → Glyph → Glyph} {old new : Picture} → ((column row : ℕ) → IsOn old column row → Region column row → Other column row) → ((column row : ℕ) → IsOn old column row → Other column row → Region column row) → Changes Region f old new → Changes Other f old new
changes_along to back p = record {
  size = p.size;
  inside = λ column row on here. p.inside column row on (back column row on here);
  outside = λ column row on other. p.outside column row on (λ here. other (to column row on here));
}

-- the places of a point that is seen from the origin are one place
pub at_once : {c : Canvas} {x y : ℤ} {column row other below : ℕ} → IsAt c x y column row → IsAt c x y other below → IsPlace column row other below
at_once {column = column} {row = row} {other = other} {below = below} h k =
    let e : pos other ≡ pos column = k.across.away ∙ sym h.across.away in
    let f : pos below ≡ pos row = k.down.away ∙ sym h.down.away in
    (cc, cc)

-- a cell that is set at such a place
pub changes_at : {c : Canvas} {x y : ℤ} {column row : ℕ} {f : ℕ → ℕ → Glyph → Glyph} {old new : Picture} → IsAt c x y column row → Changes (IsPlace column row) f old new → Changes (IsAt c x y) f old new
changes_at at p = changes_along (λ a b on same. rw (same.0, same.1) at) (λ a b on other. at_once at other) p

pub on_new : {Region : ℕ → ℕ → Type 0} {f : ℕ → ℕ → Glyph → Glyph} {old new : Picture} {column row : ℕ} → Changes Region f old new → IsOn old column row → IsOn new column row
on_new p on = record { across = rw p.size.width on.across; down = rw p.size.height on.down }

-- two changes of regions that have no place in common
pub changes_both : {Left Right Whole : ℕ → ℕ → Type 0} {f : ℕ → ℕ → Glyph → Glyph} {old mid new : Picture}
    → ((column row : ℕ) → Left column row → Right column row → ⊥) → ((column row : ℕ) → Whole column row → Left column row ⊎ Right column row)
    → ((column row : ℕ) → Left column row → Whole column row) → ((column row : ℕ) → Right column row → Whole column row)
    → Changes Left f old mid → Changes Right f mid new → Changes Whole f old new
changes_both {f = f} apart parts left right p q = record {
  size = record { width = q.size.width ∙ p.size.width; height = q.size.height ∙ p.size.height };
  inside = λ column row on here. elim (parts column row here) [
    | inl h ↦ q.outside column row (on_new p on) (apart column row h) ∙ p.inside column row on h
    | inr h ↦ q.inside column row (on_new p on) h ∙ ap (f column row) (p.outside column row on (λ k. apart column row k h))
  ];
  outside = λ column row on other. q.outside column row (on_new p on) (λ h. other (right column row h)) ∙ p.outside column row on (λ h. other (left column row h));
}
