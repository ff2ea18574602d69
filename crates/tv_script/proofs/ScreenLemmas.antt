-- The lines of a session's screen.
use Rattle.std.proofs.Common.{◌≡◌, ℕ, zero, suc, ◌+◌, ◌<◌, ◌≤◌, List, ◌++◌, refl, ap, ◌∙◌, arith, flat_map, decimal, codes}
use Rattle.std.specs.List.{range_with_len}
use Rattle.tv_cells.specs.Glyph.{Glyph}
use Rattle.tv_cells.specs.Picture.{Picture, cell_at}
use Rattle.tv_model.specs.Log.LogText.{line_of}
use Rattle.tv_machine.specs.Output.{screen_cell, row_text, screen_text, session_text}
use Rattle.tv_machine.specs.Run.{Session}
use Rattle.tv_model.specs.Description.Numbers.{natural}
use Rattle.tv_script.specs.Performed.{IsScreenOf}

-- texts of numbers that are the same for each number of a row
pub flat_map-along : (f g : ℕ → List ℕ) (a n : ℕ) → ((k : ℕ) → a ≤ k → k < a + n → f k ≡ g k) → flat_map f (range_with_len a n) ≡ flat_map g (range_with_len a n)
flat_map-along f g a zero same = refl
flat_map-along f g a (suc n) same =
    let rest = flat_map-along f g (a + 1) n (λ k from to. same k (omega arith) (omega arith)) in
    ap (λ (t : List ℕ). t ++ flat_map f (range_with_len (a + 1) n)) (same a (omega arith) (omega arith)) ∙ ap (λ (t : List ℕ). g a ++ t) rest

module _ (s : Session) (p : Picture) (is : IsScreenOf s p) (word : List ℕ) (cell : Glyph → List ℕ) where
  shown : (column row : ℕ) → column < p.width → row < p.height → cell (cell_at p column row) ≡ cell (screen_cell s column row)
  shown column row across down = ap cell (is.cells.each column row (record { across = across; down = down }))

  rows : (row : ℕ) → row < p.height → row_text cell p.width (cell_at p) row ≡ row_text cell p.width (screen_cell s) row
  rows row down =
      ap (λ cells. line_of (codes ":") (cells ++ codes ":"))
      (flat_map-along (λ column. cell (cell_at p column row)) (λ column. cell (screen_cell s column row)) 0 p.width (λ k from to. shown k row (omega arith) down))

  pub session_text-is : screen_text word cell p.width p.height (cell_at p) ≡ session_text word cell s
  session_text-is =
      ap (λ (t : List ℕ). line_of word (decimal p.width ++ codes " " ++ decimal p.height) ++ t)
      (flat_map-along (row_text cell p.width (cell_at p)) (row_text cell p.width (screen_cell s)) 0 p.height (λ k from to. rows k (omega arith)))
      ∙ ap (λ w. screen_text word cell w p.height (screen_cell s)) is.width
      ∙ ap (λ h. screen_text word cell (natural s.desc.width) h (screen_cell s)) is.height
