-- A cell that is set changes its place alone.
use Rattle.std.proofs.Common.{◌≡◌, ◌≢◌, ℕ, suc, ◌+◌, ◌*◌, ◌<◌, ◌≤◌, length, set, refl, sym, ap, ◌∙◌, arith, inl, inr}
use Rattle.std.proofs.lemmas.Bool.{cases_lt}
use Rattle.std.proofs.lemmas.List.{get_or-set_other, get_or-set_same}
use Rattle.std.proofs.lemmas.Nat.{mul-add-lt}
use Rattle.std.proofs.Math.Nat.{mul-le-mul_right}
use Rattle.tv_cells.specs.Glyph.{Glyph, blank}
use Rattle.tv_cells.specs.Picture.{Picture, IsOn, IsPlace, Changes, cell_at}

-- two places in a grid are one index only if they are one place
row_same : (w x y a b : ℕ) → x < w → a < w → y < b → y * w + x ≡ b * w + a → ⊥
row_same w x y a b lx la lt e = let h : suc y * w ≤ b * w = mul-le-mul_right w lt in omega (arith, h)

place_same : (w x y a b : ℕ) → x < w → a < w → y * w + x ≡ b * w + a → (x ≡ a) × (y ≡ b)
place_same w x y a b lx la e =
    let rows : y ≡ b = elim (cases_lt y b) [
      | inl lt ↦ absurd (row_same w x y a b lx la lt e)
      | inr le ↦ elim (cases_lt b y) [ inl gt ↦ absurd (row_same w a b x y la lx gt (sym e)) | inr ge ↦ omega arith ]
    ] in
    let columns : y * w + x ≡ y * w + a = e ∙ ap (λ (r : ℕ). r * w + a) (sym rows) in
    (omega arith, rows)

abbrev with_cell : Picture → ℕ → ℕ → Glyph → Picture
with_cell p column row cell = record { width = p.width; height = p.height; cells = set p.cells (row * p.width + column) cell }

cell_here : (p : Picture) (x y : ℕ) (cell : Glyph) → length p.cells ≡ p.width * p.height → x < p.width → y < p.height → cell_at (with_cell p x y cell) x y ≡ cell
cell_here p x y cell len lx ly =
    let lt : y * p.width + x < length p.cells = omega (arith, mul-add-lt y p.width x p.height ly lx) in
    get_or-set_same p.cells (y * p.width + x) cell blank lt

cell_elsewhere : (p : Picture) (x y a b : ℕ) (cell : Glyph) → x < p.width → a < p.width → ((a ≡ x) × (b ≡ y) → ⊥) → cell_at (with_cell p x y cell) a b ≡ cell_at p a b
cell_elsewhere p x y a b cell lx la other =
    let apart : b * p.width + a ≢ y * p.width + x = λ e. other (place_same p.width a b x y la lx e) in
    get_or-set_other p.cells (y * p.width + x) (b * p.width + a) cell blank apart

-- the cell in a column and a row is set
pub changes_set : (p : Picture) (x y : ℕ) (cell : Glyph) → length p.cells ≡ p.width * p.height → IsOn p x y → Changes (IsPlace x y) (λ _ _ _. cell) p (with_cell p x y cell)
changes_set p x y cell len here = record {
  size = record { width = refl; height = refl };
  inside = λ column row on at. rw (at.0, at.1) (cell_here p x y cell len here.across here.down);
  outside = λ column row on other. cell_elsewhere p x y column row cell here.across on.across other;
}
