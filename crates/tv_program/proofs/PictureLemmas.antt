-- The picture of a session's screen.
use Rattle.std.proofs.Common.{◌≡◌, ℕ, zero, suc, ◌+◌, ◌<◌, ◌≤◌, List, ◌∷◌, ◌++◌, map, refl, ap, ◌∙◌, arith}
use Rattle.std.specs.List.{range_with_len}
use Rattle.tv_cells.specs.Glyph.{Glyph}
use Rattle.tv_cells.specs.Picture.{Picture, cell_at}
use Rattle.tv_machine.specs.Output.{screen_cell}
use Rattle.tv_machine.specs.Run.{Session}
use Rattle.tv_model.specs.Description.Numbers.{natural}
use Rattle.tv_script.specs.Performed.{IsScreenOf}
use Rattle.tv_terminal.specs.Strips.{strips_of}
use Rattle.tv_terminal.specs.Svg.{head_text, margin_element, row_elements, strips_elements, svg_of, svg_text}
use Rattle.tv_program.specs.Pictures.{session_svg}
use Rattle.std.proofs.Common.{codes}
use Rattle.tv_script.proofs.ScreenLemmas.{flat_map-along}

map-along : (f g : ℕ → Glyph) (a n : ℕ) → ((k : ℕ) → a ≤ k → k < a + n → f k ≡ g k) → map f (range_with_len a n) ≡ map g (range_with_len a n)
map-along f g a zero same = refl
map-along f g a (suc n) same =
    let rest = map-along f g (a + 1) n (λ k from to. same k (omega arith) (omega arith)) in
    ap (λ (x : Glyph). x ∷ map f (range_with_len (a + 1) n)) (same a (omega arith) (omega arith)) ∙ ap (λ (t : List Glyph). g a ∷ t) rest

module _ (s : Session) (p : Picture) (is : IsScreenOf s p) where
  same-row : (row : ℕ) → row < p.height → row_elements p.width (cell_at p) row ≡ row_elements p.width (screen_cell s) row
  same-row row down =
      ap (λ (cells : List Glyph). strips_elements 0 row (strips_of cells))
      (map-along (λ column. cell_at p column row) (λ column. screen_cell s column row) 0 p.width (λ k from to. is.cells.each k row (record { across = omega arith; down = down })))

  pub svg_of-session : svg_of p ≡ session_svg s
  svg_of-session =
      ap (λ (rows : List ℕ). head_text p.width p.height ++ margin_element p.width p.height ++ rows ++ codes "</svg>\n")
      (flat_map-along (row_elements p.width (cell_at p)) (row_elements p.width (screen_cell s)) 0 p.height (λ k from to. same-row k (omega arith)))
      ∙ ap (λ (w : ℕ). svg_text w p.height (screen_cell s)) is.width
      ∙ ap (λ (h : ℕ). svg_text (natural s.desc.width) h (screen_cell s)) is.height
