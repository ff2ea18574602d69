-- What is painted again of a screen: its layers hide all that was there, and are cut by a rectangle one by one.
use Rattle.std.proofs.Common.{◌≡◌, ℕ, ℤ, pos, negsuc, ◌-ℤ◌, ◌≤ℤ◌, ◌<◌, ◌+◌, Bool, true, false, List, [], ◌∷◌, ◌++◌, map, refl, sym, ap, ◌∙◌, subst, arith, inl, inr}
use Rattle.std.specs.Prelude.{is_none}
use Rattle.std.proofs.lemmas.Bool.{cases_lt}
use Rattle.std.proofs.lemmas.Int.{ints}
use Rattle.std.proofs.lemmas.List.{map-append}
use Rattle.tv_cells.specs.Canvas.{Covers}
use Rattle.tv_cells.specs.Glyph.{Glyph, blank}
use Rattle.tv_cells.specs.Layers.{Layer, Lays, Painted, Shows, cell_of, cell_over, covers, is_in}
use Rattle.tv_cells.specs.Picture.{IsOn, Picture, cell_at}
use Rattle.tv_cells.specs.Rectangle.{IsIn, sized}
use Rattle.tv_cells.specs.Repainting.{Hides, clipped}
use Rattle.tv_cells.specs.declared.canvas.Canvas.{Canvas}
use Rattle.tv_cells.specs.declared.rect.Rect.{Rect}
use Rattle.tv_cells.proofs.DamageLemmas.{is_in-true}
use Rattle.tv_cells.proofs.LayerLemmas.{covers_false}
use Rattle.tv_cells.proofs.RepaintingLemmas.{cell-blank, clipped-inside, clipped-outside, covered-hides, laid-cell, over-append}
use Rattle.tv_model.specs.declared.desc.Desc.{Desc}
use Rattle.tv_model.specs.Description.Numbers.{natural}
use Rattle.tv_model.specs.Description.Rectangles.{desktop}
use Rattle.tv_machine.specs.State.{State}
use Rattle.tv_machine.specs.Screen.Bodies.{background_layer, canvas_at, whole_screen}
use Rattle.tv_machine.specs.Screen.Bars.{bar_face, status_face}
use Rattle.tv_machine.specs.Session.Step.{is_item_enabled}
use Rattle.tv_model.specs.Screen.Faces.{background}
use Rattle.tv_machine.specs.Screen.Layers.{bar_layer, box_layers, desktop_layers, layers_of, open_layers, open_place, stack_layers, status_layer}
use Rattle.tv_menu.specs.Lawful.{IsLawfulScreen}
use Rattle.tv_dialogs.specs.Damage.{HidesWithin}
use Rattle.tv_session.specs.Showing.{standing_layers}
use Rattle.tv_view.proofs.LayingLemmas.{lays_as, lays_then}
use Rattle.tv_view.proofs.SameLayerLemmas.{lays_same}

-- ---- a list of layers, cut

pub cut-layers : (d : Desc) (s : State) (r : Rect) → map (clipped r) (layers_of d s)
    ≡ clipped r (bar_layer d s.menu) ∷ clipped r (status_layer d s) ∷ (map (clipped r) (box_layers d s.menu) ++ map (clipped r) (standing_layers d s))
cut-layers d s r =
    ap (λ layers. clipped r (bar_layer d s.menu) ∷ clipped r (status_layer d s) ∷ layers) (map-append (clipped r) (box_layers d s.menu) (standing_layers d s))

cut-standing : (d : Desc) (s : State) (r : Rect) → map (clipped r) (standing_layers d s)
    ≡ map (clipped r) (open_layers d s.overwriting s.dialog) ++ (map (clipped r) (stack_layers d (is_none s.dialog) s.windows) ++ clipped r (background_layer d) ∷ [])
cut-standing d s r =
    map-append (clipped r) (open_layers d s.overwriting s.dialog) (stack_layers d (is_none s.dialog) s.windows ++ background_layer d ∷ [])
    ∙ ap (λ layers. map (clipped r) (open_layers d s.overwriting s.dialog) ++ layers)
    (map-append (clipped r) (stack_layers d (is_none s.dialog) s.windows) (background_layer d ∷ []))

-- ---- all that is below them is hidden

nat-of : (z : ℤ) → pos 0 ≤ℤ z → pos (natural z) ≡ z
nat-of (pos n) h = refl
nat-of (negsuc n) h = absurd (omega (arith, ints, h))

module _ (d : Desc) (s : State) (p : Picture) (size : IsLawfulScreen d.width d.height) (width : p.width ≡ natural d.width) (height : p.height ≡ natural d.height)
    (column row : ℕ) (on : IsOn p column row) where
  wide : pos (natural d.width) ≡ d.width
  wide = nat-of d.width (omega (arith, ints, size.columns.0))

  high : pos (natural d.height) ≡ d.height
  high = nat-of d.height (omega (arith, ints, size.rows.0))

  across : column < natural d.width
  across = subst (λ n. column < n) width on.across

  down : row < natural d.height
  down = subst (λ n. row < n) height on.down

  pub on-whole : IsIn (whole_screen d) (pos column) (pos row)
  on-whole = record {
    after_left = omega (arith, ints);
    before_right = omega (arith, ints, across, wide);
    after_top = omega (arith, ints);
    before_bottom = omega (arith, ints, down, high);
  }

  bar-covers : row ≡ 0 → Covers (canvas_at (whole_screen d) (pos 0) (pos 0)) (sized (natural d.width) 1) column row
  bar-covers top = record {
    clip = on-whole;
    rect = record {
      after_left = omega (arith, ints);
      before_right = omega (arith, ints, across);
      after_top = omega (arith, ints);
      before_bottom = omega (arith, ints, top);
    };
  }

  status-covers : row + 1 ≡ natural d.height → Covers (canvas_at (whole_screen d) (pos 0) (d.height -ℤ pos 1)) (sized (natural d.width) 1) column row
  status-covers last = record {
    clip = on-whole;
    rect = record {
      after_left = omega (arith, ints);
      before_right = omega (arith, ints, across);
      after_top = omega (arith, ints, last, high);
      before_bottom = omega (arith, ints, last, high);
    };
  }

  ground-covers : 0 < row → row + 1 < natural d.height → Covers (canvas_at (desktop d) (pos 0) (pos 0)) (sized (natural d.width) (natural d.height)) column row
  ground-covers below above = record {
    clip = record {
      after_left = omega (arith, ints);
      before_right = omega (arith, ints, across, wide);
      after_top = omega (arith, ints, below);
      before_bottom = omega (arith, ints, above, high);
    };
    rect = record {
      after_left = omega (arith, ints);
      before_right = omega (arith, ints, across);
      after_top = omega (arith, ints);
      before_bottom = omega (arith, ints, down);
    };
  }

  -- what covers the cell hides it, whatever lies over that
  covered : (c : Canvas) (w h : ℕ) (face : ℕ → ℕ → Glyph) (xs ys : List Layer) (under other : Glyph) → Covers c (sized w h) column row
      → cell_over (xs ++ Painted c w h face ∷ ys) column row under ≡ cell_over (xs ++ Painted c w h face ∷ ys) column row other
  covered c w h face xs ys under other is = covered-hides xs ys c w h face column row under other (covers-yes (covers c (sized w h) column row) refl)
    where
      covers-yes : (b : Bool) → covers c (sized w h) column row ≡ b → covers c (sized w h) column row ≡ true
      covers-yes true e = e
      covers-yes false e = absurd (covers_false c (sized w h) column row e is)

  -- the background lies below all else
  over-ground : (xs : List Layer) (under other : Glyph) → 0 < row → row + 1 < natural d.height → cell_over (xs ++ background_layer d ∷ []) column row under ≡ cell_over (xs ++ background_layer d ∷ []) column row other
  over-ground xs under other below above = covered (canvas_at (desktop d) (pos 0) (pos 0)) (natural d.width) (natural d.height) background xs [] under other (ground-covers below above)

  over-desktop : (under other : Glyph) → 0 < row → row + 1 < natural d.height → cell_over (desktop_layers d s) column row under ≡ cell_over (desktop_layers d s) column row other
  over-desktop under other below above =
      let boxes = box_layers d s.menu in
      let opened = open_layers d s.overwriting s.dialog in
      let stack = stack_layers d (is_none s.dialog) s.windows in
      over-append boxes (opened ++ (stack ++ background_layer d ∷ [])) column row under
      ∙ ap (cell_over boxes column row)
      (over-append opened (stack ++ background_layer d ∷ []) column row under
      ∙ ap (cell_over opened column row) (over-ground stack under other below above)
      ∙ sym (over-append opened (stack ++ background_layer d ∷ []) column row other))
      ∙ sym (over-append boxes (opened ++ (stack ++ background_layer d ∷ [])) column row other)

  hidden : (under other : Glyph) → cell_over (layers_of d s) column row under ≡ cell_over (layers_of d s) column row other
  hidden under other =
      elim (cases_lt 0 row) [
        | inr top ↦ covered (canvas_at (whole_screen d) (pos 0) (pos 0)) (natural d.width) 1 (bar_face d (open_place s.menu)) [] (status_layer d s ∷ desktop_layers d s) under other (bar-covers (omega (arith, top)))
        | inl below ↦
            elim (cases_lt (row + 1) (natural d.height)) [
              | inl above ↦ ap (λ cell. cell_over (bar_layer d s.menu ∷ status_layer d s ∷ []) column row cell) (over-desktop under other below above)
              | inr last ↦ covered (canvas_at (whole_screen d) (pos 0) (d.height -ℤ pos 1)) (natural d.width) 1 (status_face d (is_item_enabled d s)) (bar_layer d s.menu ∷ []) (desktop_layers d s) under other (status-covers (omega (arith, last, down)))
            ]
      ]

pub layers-hide : (d : Desc) (s : State) (p : Picture) → IsLawfulScreen d.width d.height → p.width ≡ natural d.width → p.height ≡ natural d.height → Hides (layers_of d s) p
layers-hide d s p size width height = record { each = λ column row on under other. hidden d s p size width height column row on under other }

-- ---- one layer over the other

pub lays-bar : (d : Desc) (s : State) (r : Rect) (old opened boxed lined new : Picture)
    → Lays (map (clipped r) (standing_layers d s)) old opened → Lays (map (clipped r) (box_layers d s.menu)) opened boxed
    → Lays (clipped r (status_layer d s) ∷ []) boxed lined → Lays (clipped r (bar_layer d s.menu) ∷ []) lined new
    → Lays (map (clipped r) (layers_of d s)) old new
lays-bar d s r old opened boxed lined new c e f h =
    lays_as _ _ old new (sym (cut-layers d s r))
    (lays_then _ _ old lined new (lays_then _ _ old boxed lined (lays_then _ _ old opened boxed c e) f) h)

-- what is below the dialog is drawn before it
pub lays-standing : (d : Desc) (s : State) (r : Rect) (old ground windows opened : Picture)
    → Lays (clipped r (background_layer d) ∷ []) old ground → Lays (map (clipped r) (stack_layers d (is_none s.dialog) s.windows)) ground windows
    → Lays (map (clipped r) (open_layers d s.overwriting s.dialog)) windows opened → Lays (map (clipped r) (standing_layers d s)) old opened
lays-standing d s r old ground windows opened a b c =
    lays_as _ _ old opened (sym (cut-standing d s r)) (lays_then _ _ old windows opened (lays_then _ _ old ground windows a b) c)

-- and needn't be where the dialog hides it
module _ (r : Rect) (layers below : List Layer) (hides : HidesWithin r layers) where
  hidden-cell : (column row : ℕ) (under : Glyph) (b : Bool) → is_in r (pos column) (pos row) ≡ b
      → cell_over (map (clipped r) layers) column row under ≡ cell_over (map (clipped r) (layers ++ below)) column row under
  hidden-cell column row under true here =
      clipped-inside r column row layers under here ∙ hides.each column row here under (cell_over below column row under)
      ∙ sym (over-append layers below column row under) ∙ sym (clipped-inside r column row (layers ++ below) under here)
  hidden-cell column row under false out = clipped-outside r column row layers under out ∙ sym (clipped-outside r column row (layers ++ below) under out)

  pub lays-hidden : (old new : Picture) → Lays (map (clipped r) layers) old new → Lays (map (clipped r) (layers ++ below)) old new
  lays-hidden old new laid =
      lays_same (map (clipped r) layers) (map (clipped r) (layers ++ below)) old new
      (record { each = λ column row under. hidden-cell column row under (is_in r (pos column) (pos row)) refl }) laid

-- ---- all of it

pub shows-whole : (d : Desc) (s : State) (old new : Picture) → IsLawfulScreen d.width d.height → old.width ≡ natural d.width → old.height ≡ natural d.height
    → Lays (map (clipped (whole_screen d)) (layers_of d s)) old new → Shows (layers_of d s) new
shows-whole d s old new size width height lays = record { each = each }
  where
    each : (column row : ℕ) → IsOn new column row → cell_at new column row ≡ cell_of (layers_of d s) column row
    each column row on =
        let at : IsOn old column row = record { across = rw lays.size.width at on.across; down = rw lays.size.height at on.down } in
        let bar = on-whole d s old size width height column row at in
        laid-cell (map (clipped (whole_screen d)) (layers_of d s)) old new column row lays at
        ∙ clipped-inside (whole_screen d) column row (layers_of d s) (cell_at old column row) (is_in-true (whole_screen d) (pos column) (pos row) bar)
        ∙ hidden d s old size width height column row at (cell_at old column row) blank
        ∙ sym (cell-blank (layers_of d s) column row)
