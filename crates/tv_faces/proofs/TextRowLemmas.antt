-- A text that is painted row by row.
use Rattle.std.proofs.Common.{◌≡◌, ◌⊎◌, inl, inr, ◌∙◌, ℕ, zero, suc, ℤ, pos, negsuc, ◌+◌, ◌+ℤ◌, ◌≤ℤ◌, ◌<ℤ◌, List, [], ◌∷◌, drop, slice_index_or, refl, sym, ap, arith}
use Rattle.std.proofs.lemmas.Int.{ints}
use Rattle.std.specs.Int.{int_gap}
use Rattle.tv_cells.specs.Canvas.{Covers, face_at}
use Rattle.tv_cells.specs.Glyph.{Glyph, shown}
use Rattle.tv_cells.specs.Picture.{Picture, Changes}
use Rattle.tv_cells.specs.Rectangle.{sized}
use Rattle.tv_cells.specs.declared.canvas.Canvas.{Canvas}
use Rattle.tv_cells.proofs.ChangeLemmas.{changes_both, changes_none}
use Rattle.tv_model.specs.Screen.Faces.{pieces_of, text_face, text_row}
use Rattle.tv_faces.specs.Looks.{canvas_below}

-- ---- the pieces that are left

drop_suc : (n : ℕ) (xs : List (List ℕ)) → drop (suc n) xs ≡ drop 1 (drop n xs)
drop_suc zero xs = refl
drop_suc (suc n) [] = refl
drop_suc (suc n) (x ∷ xs) = drop_suc n xs

pub left_after : (n : ℕ) (pieces left after : List (List ℕ)) → left ≡ drop n pieces → after ≡ drop 1 left → after ≡ drop (n + 1) pieces
left_after n pieces left after e f =
    let next : suc n ≡ n + 1 = omega arith in
    f ∙ (ap (λ t. drop 1 t) e ∙ (sym (drop_suc n pieces) ∙ ap (λ k. drop k pieces) next))

pub piece_at : (n : ℕ) (pieces : List (List ℕ)) → slice_index_or (drop n pieces) 0 [] ≡ slice_index_or pieces n []
piece_at zero pieces = refl
piece_at (suc n) [] = refl
piece_at (suc n) (piece ∷ pieces) = piece_at n pieces

-- ---- the rows

gap_is : (a : ℤ) (n k : ℕ) → pos n ≡ (a +ℤ pos k) → int_gap a (pos n) ≡ k
gap_is (pos a) n k e = omega (arith, ints, e)
gap_is (negsuc a) n k e = omega (arith, ints, e)

-- the attributes and characters of a text from the canvas's origin on
abbrev pub text_at : Canvas → List ℕ → ℕ → ℕ → ℕ → Glyph → Glyph
text_at c text attr column row under = face_at c (text_face text attr) column row

abbrev pub piece_on : Canvas → List ℕ → ℕ → ℕ → ℕ → Glyph → Glyph
piece_on c piece attr column row under = face_at c (λ x y. shown (text_row piece x) attr) column row

module _ (c : Canvas) (width at : ℕ) where
  abbrev pub Above : ℕ → ℕ → Type 0
  Above column row = Covers c (sized width at) column row

  abbrev pub Here : ℕ → ℕ → Type 0
  Here column row = Covers (canvas_below c at) (sized width 1) column row

  abbrev pub Both : ℕ → ℕ → Type 0
  Both column row = Covers c (sized width (at + 1)) column row

  is_here : (column row : ℕ) → Here column row → pos row ≡ (c.origin.y +ℤ pos at)
  is_here column row h = omega (arith, ints, h.rect.after_top, h.rect.before_bottom)

  apart : (column row : ℕ) → Above column row → Here column row → ⊥
  apart column row above h = omega (arith, ints, above.rect.before_bottom, h.rect.after_top)

  above_both : (column row : ℕ) → Above column row → Both column row
  above_both column row h = record {
    clip = h.clip;
    rect = record { after_left = h.rect.after_left; before_right = h.rect.before_right; after_top = h.rect.after_top; before_bottom = omega (arith, ints, h.rect.before_bottom) };
  }

  here_both : (column row : ℕ) → Here column row → Both column row
  here_both column row h = record {
    clip = h.clip;
    rect = record { after_left = h.rect.after_left; before_right = h.rect.before_right; after_top = omega (arith, ints, h.rect.after_top); before_bottom = omega (arith, ints, h.rect.before_bottom) };
  }

  abbrev EitherOne : (column row : ℕ) → Type 0
  EitherOne column row = Above column row ⊎ Here column row

  parts : (column row : ℕ) → Both column row → ((pos row <ℤ (pos at +ℤ c.origin.y)) ⊎ ((pos at +ℤ c.origin.y) ≤ℤ pos row)) → EitherOne column row
  parts column row h (inl less) = inl (record {
    clip = h.clip;
    rect = record { after_left = h.rect.after_left; before_right = h.rect.before_right; after_top = h.rect.after_top; before_bottom = less };
  })
  parts column row h (inr le) = inr (record {
    clip = h.clip;
    rect = record { after_left = h.rect.after_left; before_right = h.rect.before_right; after_top = omega (arith, ints, le); before_bottom = omega (arith, ints, h.rect.before_bottom) };
  })

  less_or_not : (a b : ℤ) → (a <ℤ b) ⊎ (b ≤ℤ a)
  less_or_not a b = grind (arith, ints)

  pub row_painted : (text piece : List ℕ) (attr : ℕ) (old mid new : Picture) → piece ≡ slice_index_or (pieces_of text) at []
      → Changes Above (text_at c text attr) old mid → Changes Here (piece_on (canvas_below c at) piece attr) mid new → Changes Both (text_at c text attr) old new
  row_painted text piece attr old mid new is above here =
      changes_both apart (λ column row h. parts column row h (less_or_not (pos row) (pos at +ℤ c.origin.y))) above_both here_both above
      (record {
        size = here.size;
        inside = λ column row on h.
            let same : int_gap c.origin.y (pos row) ≡ at = gap_is c.origin.y row at (is_here column row h) in
            rw (same, ← is) (here.inside column row on h);
        outside = here.outside;
      })

-- before the first row
pub none_painted : (c : Canvas) (width : ℕ) (f : ℕ → ℕ → Glyph → Glyph) (p : Picture) → Changes (Covers c (sized width 0)) f p p
none_painted c width f p = changes_none (λ column row on h. omega (arith, ints, h.rect.after_top, h.rect.before_bottom))
