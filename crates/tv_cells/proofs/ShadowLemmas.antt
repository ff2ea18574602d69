-- A shadow is a strip to the right of a rectangle and one below it.
use Rattle.std.proofs.Common.{◌≡◌, ℕ, pos, ◌+ℤ◌, arith, inl, inr, ◌⊎◌}
use Rattle.std.specs.Int.{int_max}
use Rattle.std.proofs.lemmas.Int.{ints, clamps, by_lt_z}
use Rattle.tv_cells.specs.Glyph.{Glyph}
use Rattle.tv_cells.specs.Rectangle.{shifted_point}
use Rattle.tv_cells.specs.Picture.{Picture, Changes}
use Rattle.tv_cells.specs.Canvas.{Covers, IsShadow, aside}
use Rattle.tv_cells.specs.declared.rect.Rect.{Rect}
use Rattle.tv_cells.specs.declared.canvas.Canvas.{Canvas}
use Rattle.tv_cells.proofs.ChangeLemmas.{changes_both}

abbrev pub right_strip : Rect → Rect
right_strip r = record { a = record { x = int_max (r.a.x +ℤ pos 2) r.b.x; y = r.a.y +ℤ pos 1 }; b = shifted_point r.b aside }

abbrev pub lower_strip : Rect → Rect
lower_strip r = record { a = record { x = r.a.x +ℤ pos 2; y = int_max (r.a.y +ℤ pos 1) r.b.y }; b = record { x = int_max (r.a.x +ℤ pos 2) r.b.x; y = r.b.y +ℤ pos 1 } }

module _ (c : Canvas) (r : Rect) (column row : ℕ) where
  strips_apart : Covers c (right_strip r) column row → Covers c (lower_strip r) column row → ⊥
  strips_apart h k = let i = h.rect in let j = k.rect in absurd (omega (arith, ints, clamps, i.after_left, j.before_right))

  right_free : Covers c (right_strip r) column row → IsShadow c r column row
  right_free h = let i = h.rect in record {
    moved = record {
      clip = h.clip;
      rect = record { after_left = omega (arith, ints, clamps); before_right = omega (arith, ints); after_top = omega (arith, ints); before_bottom = omega (arith, ints) };
    };
    free = λ inside. absurd (omega (arith, ints, clamps));
  }

  lower_free : Covers c (lower_strip r) column row → IsShadow c r column row
  lower_free h = let i = h.rect in record {
    moved = record {
      clip = h.clip;
      rect = record { after_left = omega (arith, ints); before_right = omega (arith, ints, clamps); after_top = omega (arith, ints, clamps); before_bottom = omega (arith, ints) };
    };
    free = λ inside. absurd (omega (arith, ints, clamps));
  }

  strips_all : IsShadow c r column row → Covers c (right_strip r) column row ⊎ Covers c (lower_strip r) column row
  strips_all s =
      let i = s.moved.rect in
      by_lt_z (pos column) (r.b.x +ℤ c.origin.x)
      (λ before. inr (record {
        clip = s.moved.clip;
        rect = record { after_left = omega (arith, ints); before_right = omega (arith, ints, clamps); after_top = by_lt_z (pos row) (r.b.y +ℤ c.origin.y) (λ above. absurd (s.free (record { after_left = omega (arith, ints); before_right = before; after_top = omega (arith, ints); before_bottom = above }))) (λ below. omega (arith, ints, clamps)); before_bottom = omega (arith, ints) };
      }))
      (λ after. inl (record {
        clip = s.moved.clip;
        rect = record { after_left = omega (arith, ints, clamps); before_right = omega (arith, ints); after_top = omega (arith, ints); before_bottom = omega (arith, ints) };
      }))

-- the strips are changed one after the other
pub changes_shadow : {c : Canvas} {q s : Rect} (r : Rect) {f : ℕ → ℕ → Glyph → Glyph} {old mid new : Picture} → q ≡ right_strip r → s ≡ lower_strip r → Changes (Covers c q) f old mid → Changes (Covers c s) f mid new → Changes (IsShadow c r) f old new
changes_shadow {c = c} r e d p q = changes_both (strips_apart c r) (strips_all c r) (right_free c r) (lower_free c r) (rw e at p) (rw d at q)
