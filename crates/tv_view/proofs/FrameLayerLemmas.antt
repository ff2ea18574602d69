-- The frame and the shadow of what stands on the desktop: seen from there, and from its own corner.
use Rattle.std.proofs.Common.{◌≡◌, ℕ, ℤ, pos, ◌+ℤ◌, ◌-ℤ◌, ◌∷◌, [], arith}
use Rattle.std.proofs.lemmas.Int.{ints}
use Rattle.tv_cells.specs.Canvas.{aside, sub}
use Rattle.tv_cells.specs.Glyph.{Glyph}
use Rattle.tv_cells.specs.Layers.{Painted, Shadow, ShowsSame}
use Rattle.tv_cells.specs.Rectangle.{IsIn, shifted, sized}
use Rattle.tv_cells.specs.declared.rect.Rect.{Rect}
use Rattle.tv_cells.specs.declared.canvas.Canvas.{Canvas}
use Rattle.tv_cells.proofs.RectangleLemmas.{point_is}
use Rattle.tv_model.specs.Description.Numbers.{natural}
use Rattle.tv_model.specs.Description.Rectangles.{desktop, rect}
use Rattle.tv_machine.specs.Screen.Bodies.{canvas_at}
use Rattle.tv_model.specs.declared.desc.Desc.{Desc}
use Rattle.tv_view.proofs.SameLayerLemmas.{covers_sub, painted_same, resized, shadow_same, sub_covers, unsized}

module _ (d : Desc) (x y w h : ℤ) where
  -- the desktop, seen from the corner of the screen
  abbrev pub desktop_canvas : Canvas
  desktop_canvas = canvas_at (desktop d) (pos 0) (pos 0)

  abbrev pub bounds : Rect
  bounds = rect x y w h

  abbrev pub corner : Canvas
  corner = canvas_at (desktop d) x y

  -- the canvas of what stands there
  abbrev pub inner : Canvas
  inner = sub desktop_canvas bounds

  pub frame_same : (face other : ℕ → ℕ → Glyph) → face ≡ other
      → ShowsSame (Painted inner (natural w) (natural h) face ∷ []) (Painted corner (natural w) (natural h) other ∷ [])
  frame_same face other same =
      painted_same inner corner (natural w) (natural h) face other
      (point_is (x +ℤ pos 0) (y +ℤ pos 0) x y (omega (arith, ints)) (omega (arith, ints))) same
      (λ column row i.
      let c = covers_sub desktop_canvas x y w h column row i in
      record {
        clip = c.clip;
        rect =
            resized x y w h desktop_canvas.origin corner.origin (omega (arith, ints)) (omega (arith, ints)) (pos column) (pos row) c.rect;
      })
      (λ column row i. sub_covers desktop_canvas x y w h column row
      (record {
        clip = i.clip;
        rect =
            unsized x y w h desktop_canvas.origin corner.origin (omega (arith, ints)) (omega (arith, ints)) (pos column) (pos row) i.rect;
      }))

  pub shadows_same : ShowsSame (Shadow desktop_canvas bounds ∷ []) (Shadow corner (sized (natural w) (natural h)) ∷ [])
  shadows_same =
      shadow_same desktop_canvas corner bounds (sized (natural w) (natural h))
      (λ column row i. record {
        clip = i.clip;
        rect =
            aside_in column row (resized_at (pos column -ℤ pos 2) (pos row -ℤ pos 1) (back_from column row i.rect));
      })
      (λ column row i. record {
        clip = i.clip;
        rect =
            aside_out column row (unsized_at (pos column -ℤ pos 2) (pos row -ℤ pos 1) (back_sized column row i.rect));
      })
      (λ column row i. resized_at (pos column) (pos row) i)
      (λ column row i. unsized_at (pos column) (pos row) i)
    where
      resized_at : (p q : ℤ) → IsIn (shifted bounds desktop_canvas.origin) p q
          → IsIn (shifted (sized (natural w) (natural h)) corner.origin) p q
      resized_at p q i = resized x y w h desktop_canvas.origin corner.origin (omega (arith, ints)) (omega (arith, ints)) p q i

      unsized_at : (p q : ℤ) → IsIn (shifted (sized (natural w) (natural h)) corner.origin) p q
          → IsIn (shifted bounds desktop_canvas.origin) p q
      unsized_at p q i = unsized x y w h desktop_canvas.origin corner.origin (omega (arith, ints)) (omega (arith, ints)) p q i

      back_from : (column row : ℕ) → IsIn (shifted (shifted bounds aside) desktop_canvas.origin) (pos column) (pos row)
          → IsIn (shifted bounds desktop_canvas.origin) (pos column -ℤ pos 2) (pos row -ℤ pos 1)
      back_from column row i = record {
        after_left = omega (arith, ints, i.after_left);
        before_right = omega (arith, ints, i.before_right);
        after_top = omega (arith, ints, i.after_top);
        before_bottom = omega (arith, ints, i.before_bottom);
      }

      aside_out : (column row : ℕ) → IsIn (shifted bounds desktop_canvas.origin) (pos column -ℤ pos 2) (pos row -ℤ pos 1)
          → IsIn (shifted (shifted bounds aside) desktop_canvas.origin) (pos column) (pos row)
      aside_out column row i = record {
        after_left = omega (arith, ints, i.after_left);
        before_right = omega (arith, ints, i.before_right);
        after_top = omega (arith, ints, i.after_top);
        before_bottom = omega (arith, ints, i.before_bottom);
      }

      back_sized : (column row : ℕ) → IsIn (shifted (shifted (sized (natural w) (natural h)) aside) corner.origin) (pos column) (pos row)
          → IsIn (shifted (sized (natural w) (natural h)) corner.origin) (pos column -ℤ pos 2) (pos row -ℤ pos 1)
      back_sized column row i = record {
        after_left = omega (arith, ints, i.after_left);
        before_right = omega (arith, ints, i.before_right);
        after_top = omega (arith, ints, i.after_top);
        before_bottom = omega (arith, ints, i.before_bottom);
      }

      aside_in : (column row : ℕ) → IsIn (shifted (sized (natural w) (natural h)) corner.origin) (pos column -ℤ pos 2) (pos row -ℤ pos 1)
          → IsIn (shifted (shifted (sized (natural w) (natural h)) aside) corner.origin) (pos column) (pos row)
      aside_in column row i = record {
        after_left = omega (arith, ints, i.after_left);
        before_right = omega (arith, ints, i.before_right);
        after_top = omega (arith, ints, i.after_top);
        before_bottom = omega (arith, ints, i.before_bottom);
      }
