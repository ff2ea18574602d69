-- Whether two screens are the same in a region.
use Rattle.std.specs.Prelude.{◌≡◌, ◌≢◌, ℕ, Bool, true, false}
use Rattle.tv_cells.specs.Picture.{Picture, IsOn, cell_at}

-- each cell in the region is the same
abbrev pub IsSameWithin : (Region : ℕ → ℕ → Type 0) (p q : Picture) → Type 0
IsSameWithin Region p q =
    (column row : ℕ) → IsOn p column row → Region column row → cell_at p column row ≡ cell_at q column row

-- a cell in the region isn't
pub record Differs (Region : ℕ → ℕ → Type 0) (p q : Picture) : Type 0 where
  pub column : ℕ
  pub row : ℕ
  pub on : IsOn p column row
  pub within : Region column row
  pub other : cell_at p column row ≢ cell_at q column row

-- so it is told
abbrev pub IsSaidSame : (Region : ℕ → ℕ → Type 0) (p q : Picture) → Bool → Type 0
IsSaidSame Region p q true = IsSameWithin Region p q
IsSaidSame Region p q false = Differs Region p q
