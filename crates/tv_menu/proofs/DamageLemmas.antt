-- What rectangles have come in, and what the bars show off them.
use Rattle.std.proofs.Common.{◌≡◌, ◌==◌, ◌∙◌, ℕ, ℤ, pos, ◌+ℤ◌, ◌-ℤ◌, Bool, true, false, List, [], ◌∷◌, ◌++◌, Option, Some, None, All, IsTrue, ◌↔◌, refl, sym, ap, subst, arith}
use Rattle.std.specs.Prelude.{not, slice_get}
use Rattle.std.specs.Option.{option_eq}
use mathlib.Core.Bool.{beq}
use Rattle.std.proofs.lemmas.Bool.Decides.{nat_tests}
use Rattle.std.proofs.lemmas.Int.{ints}
use Rattle.std.proofs.lemmas.List.Elements.{All-cons, All-tail}
use Rattle.tv_cells.specs.Canvas.{aside}
use Rattle.tv_cells.specs.Damage.{AddsAll, Grows, HasAll, Holds, has, with_shadow}
use Rattle.tv_cells.specs.Glyph.{Glyph}
use Rattle.tv_cells.specs.Layers.{Layer, Painted, Shadow, ShowsSame, cell_over, over}
use Rattle.tv_cells.specs.Picture.{Picture}
use Rattle.tv_cells.specs.Rectangle.{shifted, sized}
use Rattle.tv_cells.specs.Repainting.{AreAlike, has_cell}
use Rattle.tv_cells.specs.declared.canvas.Canvas.{Canvas}
use Rattle.tv_cells.specs.declared.rect.Rect.{Rect}
use Rattle.tv_cells.proofs.AddedLemmas.{adds-then, false-true, lacks}
use Rattle.tv_cells.proofs.DamageLemmas.{has-left, has-one, has-right}
use Rattle.tv_model.specs.declared.desc.Desc.{Desc}
use Rattle.tv_model.specs.declared.desc.Menu.{Menu}
use Rattle.tv_model.specs.declared.desc.StatusItem.{StatusItem}
use Rattle.tv_model.specs.Description.Numbers.{natural}
use Rattle.tv_model.specs.Description.Rectangles.{desktop, rect}
use Rattle.tv_model.specs.Screen.Faces.{FaceOf}
use Rattle.tv_machine.specs.Screen.Bodies.{canvas_at, whole_screen}
use Rattle.tv_machine.specs.Screen.Bars.{bar_face, box_face, box_height, box_of, box_width, status_face}
use Rattle.tv_machine.specs.Screen.Layers.{bar_layer, box_layers, open_place, status_layer}
use Rattle.tv_machine.specs.Session.Step.{is_item_enabled}
use Rattle.tv_machine.specs.State.{OpenMenu, State}
use Rattle.tv_menu.specs.Bar.{IsBarOf}
use Rattle.tv_menu.specs.Cells.{is_item_in}
use Rattle.tv_menu.specs.Damage.{bar_row, box_rects, line_row}
use Rattle.tv_menu.specs.Lawful.{IsLawfulStatusItem}
use Rattle.tv_menu.specs.Line.{AreEnabled, IsStatusLineOf}
use Rattle.tv_menu.specs.declared.bars.MenuBar.{MenuBar}
use Rattle.tv_menu.specs.declared.bars.StatusLine.{StatusLine}
use Rattle.tv_menu.proofs.DrawingLemmas.{face_same}
use Rattle.tv_menu.proofs.FaceLemmas.{enabled_same, items_same}
use Rattle.tv_view.proofs.OffLemmas.{painted-off, shadow-off}

-- ---- rectangles that come in

-- what has come in lacks what the damage lacks
pub added-lacks : (rects old new : List Rect) (x y : ℤ) → AddsAll rects old new → has new x y ≡ false → has rects x y ≡ false
added-lacks rects old new x y p off = lacks rects new x y (p.added x y) off

-- more damage
pub alike-more : (p : Picture) (old new : List Rect) (xs ys : List Layer) → ((x y : ℤ) → has old x y ≡ true → has new x y ≡ true) → AreAlike p old xs ys → AreAlike p new xs ys
alike-more p old new xs ys kept alike = record {
  each = λ column row on off under. alike.each column row on (lacks old new (pos column) (pos row) (kept (pos column) (pos row)) off) under;
}

-- the row of the bar may have come in, and two boxes have
pub box-within : (row r : Rect) (xs ys old rowed mid new : List Rect) → Grows row old rowed → AddsAll xs rowed mid → AddsAll ys mid new → Holds r old → Holds r (row ∷ xs ++ ys) → Holds r new
box-within row r xs ys old rowed mid new grown first second h holds =
    let both = adds-then xs ys rowed mid new first second in
    both.grown.within r
    (grown.within r h (record { each = λ x y i. holds.each x y (has-left (row ∷ []) (xs ++ ys) x y (has-one row x y i)) }))
    (record { each = λ x y e. holds.each x y (has-right (row ∷ []) (xs ++ ys) x y e) })

-- ---- a layer off its rectangle

-- a face over its shadow, off its rectangle and off where the shadow lies
block-off : (clip r : Rect) (w h : ℕ) (face : FaceOf) (column row : ℕ) (under : Glyph) → r ≡ rect r.a.x r.a.y (pos w) (pos h) → has (with_shadow r) (pos column) (pos row) ≡ false
    → cell_over (Painted (canvas_at clip r.a.x r.a.y) w h face ∷ Shadow (canvas_at clip r.a.x r.a.y) (sized w h) ∷ []) column row under ≡ under
block-off clip r w h face column row under is off =
    painted-off place w h face column row (over (Shadow place (sized w h)) column row under)
    (λ i. false-true off (has-left (r ∷ []) (shifted r aside ∷ []) (pos column) (pos row) (has-one r (pos column) (pos row) (record {
      after_left = omega (arith, ints, i.rect.after_left);
      before_right = omega (arith, ints, i.rect.before_right, right);
      after_top = omega (arith, ints, i.rect.after_top);
      before_bottom = omega (arith, ints, i.rect.before_bottom, bottom);
    }))))
    ∙ shadow-off place (sized w h) column row under
    (λ i. false-true off (has-right (r ∷ []) (shifted r aside ∷ []) (pos column) (pos row) (has-one (shifted r aside) (pos column) (pos row) (record {
      after_left = omega (arith, ints, i.rect.after_left);
      before_right = omega (arith, ints, i.rect.before_right, right);
      after_top = omega (arith, ints, i.rect.after_top);
      before_bottom = omega (arith, ints, i.rect.before_bottom, bottom);
    }))))
  where
    place : Canvas
    place = canvas_at clip r.a.x r.a.y

    right : r.b.x ≡ (r.a.x +ℤ pos w)
    right = ap (λ q. q.b.x) is

    bottom : r.b.y ≡ (r.a.y +ℤ pos h)
    bottom = ap (λ q. q.b.y) is

-- what shows the same is alike in any damage
same-alike : (p : Picture) (damage : List Rect) (xs ys : List Layer) → ShowsSame xs ys → AreAlike p damage xs ys
same-alike p damage xs ys same = record { each = λ column row on off under. same.each column row under }

-- ---- the bar

module _ (d : Desc) (bar : MenuBar) (of : IsBarOf d bar) (p : Picture) (damage : List Rect) where
  bar-off : (o : Option OpenMenu) (column row : ℕ) (under : Glyph) → HasAll (bar_row bar) damage → has_cell damage column row ≡ false → over (bar_layer d o) column row under ≡ under
  bar-off o column row under all off =
      painted-off (canvas_at (whole_screen d) (pos 0) (pos 0)) (natural d.width) 1 (bar_face d (open_place o)) column row under
      (λ i. false-true off (all.each (pos column) (pos row) (record {
        after_left = i.clip.after_left;
        before_right = omega (arith, ints, i.clip.before_right, of.width);
        after_top = i.clip.after_top;
        before_bottom = omega (arith, ints, i.rect.before_bottom);
      })))

  -- the bar's row has come in
  pub bar-added : (before now : Option OpenMenu) → HasAll (bar_row bar) damage → AreAlike p damage (bar_layer d before ∷ []) (bar_layer d now ∷ [])
  bar-added before now all = record { each = λ column row on off under. bar-off before column row under all off ∙ sym (bar-off now column row under all off) }

  -- the same menu is open
  pub bar-kept : (before now : Option OpenMenu) → open_place before ≡ open_place now → AreAlike p damage (bar_layer d before ∷ []) (bar_layer d now ∷ [])
  bar-kept before now same = record {
    each = λ column row on off under. ap (λ place. over (Painted (canvas_at (whole_screen d) (pos 0) (pos 0)) (natural d.width) 1 (bar_face d place)) column row under) same;
  }

-- ---- the box

box-by : (d : Desc) (o : OpenMenu) (column row : ℕ) (under : Glyph) (menu : Option Menu) → slice_get d.menus o.menu ≡ menu
    → has (with_shadow (box_of d o.menu)) (pos column) (pos row) ≡ false → cell_over (box_layers d (Some o)) column row under ≡ under
box-by d o column row under None is off = rw is refl
box-by d o column row under (Some menu) is off =
    let whole : box_of d o.menu ≡ rect (box_of d o.menu).a.x (box_of d o.menu).a.y (pos (box_width menu)) (pos (box_height menu)) = rw is refl in
    rw is (block-off (desktop d) (box_of d o.menu) (box_width menu) (box_height menu) (box_face menu o.item) column row under whole off)

pub box-off : (d : Desc) (o : Option OpenMenu) (column row : ℕ) (under : Glyph) → has (box_rects d o) (pos column) (pos row) ≡ false → cell_over (box_layers d o) column row under ≡ under
box-off d None column row under off = refl
box-off d (Some o) column row under off = box-by d o column row under (slice_get d.menus o.menu) refl off

-- both boxes have come in
pub boxes-added : (d : Desc) (p : Picture) (before now : Option OpenMenu) (old mid new : List Rect) → AddsAll (box_rects d before) old mid → AddsAll (box_rects d now) mid new
    → AreAlike p new (box_layers d before) (box_layers d now)
boxes-added d p before now old mid new first second = record {
  each = λ column row on off under.
      let both = adds-then (box_rects d before) (box_rects d now) old mid new first second in
      box-off d before column row under (lacks (box_rects d before) new (pos column) (pos row) (λ e. both.added (pos column) (pos row) (has-left (box_rects d before) (box_rects d now) (pos column) (pos row) e)) off)
      ∙ sym (box-off d now column row under (added-lacks (box_rects d now) mid new (pos column) (pos row) second off));
}

-- ---- the status line

module _ (d : Desc) (line : StatusLine) (of : IsStatusLineOf d line) (s t : State) (p : Picture) (damage : List Rect) where
  line-off : (s : State) (column row : ℕ) (under : Glyph) → HasAll (line_row line) damage → has_cell damage column row ≡ false → over (status_layer d s) column row under ≡ under
  line-off s column row under all off =
      painted-off (canvas_at (whole_screen d) (pos 0) (d.height -ℤ pos 1)) (natural d.width) 1 (status_face d (is_item_enabled d s)) column row under
      (λ i. false-true off (all.each (pos column) (pos row) (record {
        after_left = i.clip.after_left;
        before_right = omega (arith, ints, i.clip.before_right, of.width);
        after_top = omega (arith, ints, i.rect.after_top, of.height);
        before_bottom = omega (arith, ints, i.rect.before_bottom, of.height);
      })))

  -- its row has come in
  pub line-added : HasAll (line_row line) damage → AreAlike p damage (status_layer d s ∷ []) (status_layer d t ∷ [])
  line-added all = record { each = λ column row on off under. line-off s column row under all off ∙ sym (line-off t column row under all off) }

  -- the same of its items are enabled
  pub line-kept : (old new : List Bool) → AreEnabled d s old → AreEnabled d t new → All IsLawfulStatusItem line.items → All (λ item. is_item_in old item ≡ is_item_in new item) line.items
      → AreAlike p damage (status_layer d s ∷ []) (status_layer d t ∷ [])
  line-kept old new before after lawful same =
      let sound = subst (All IsLawfulStatusItem) of.items lawful in
      let one = enabled_same d s old before d.status sound in
      let other = enabled_same d t new after d.status sound in
      let still = subst (All (λ item. is_item_in old item ≡ is_item_in new item)) of.items same in
      same-alike p damage (status_layer d s ∷ []) (status_layer d t ∷ [])
      (face_same (canvas_at (whole_screen d) (pos 0) (d.height -ℤ pos 1)) (natural d.width) 1 (status_face d (is_item_enabled d s)) (status_face d (is_item_enabled d t))
      (λ x y. items_same (is_item_enabled d s) (is_item_enabled d t) 0 0 x d.status (λ k e within. sym (one k e within) ∙ still k e within ∙ other k e within)))

beq-same : (a b : Bool) → beq a b ≡ true → a ≡ b
beq-same true true e = refl
beq-same true false e = sym e
beq-same false true e = e
beq-same false false e = refl

-- an item before others: whether it is enabled in both sets, or in neither
pub same-more : (old new : List Bool) (items others : List StatusItem) (item : StatusItem) (b f g : Bool) → items ≡ item ∷ others → f ≡ is_item_in old item → g ≡ is_item_in new item → beq f g ≡ true
    → IsTrue b ↔ All (λ x. is_item_in old x ≡ is_item_in new x) others → IsTrue b ↔ All (λ x. is_item_in old x ≡ is_item_in new x) items
same-more old new items others item b f g is before now same rest =
    let here : is_item_in old item ≡ is_item_in new item = sym before ∙ (beq-same f g same ∙ now) in
    subst (λ xs. IsTrue b ↔ All (λ x. is_item_in old x ≡ is_item_in new x) xs) (sym is) (
      λ h. All-cons (λ x. is_item_in old x ≡ is_item_in new x) item others here (rest.0 h),
      λ all. rest.1 (All-tail (λ x. is_item_in old x ≡ is_item_in new x) item others all),
    )

-- places that pass the test are the same
pub places-same : (a b : Option ℕ) → not (option_eq (λ n m. n == m) a b) ≡ false → a ≡ b
places-same None None e = refl
places-same None (Some m) e = absurd cc
places-same (Some n) None e = absurd cc
places-same (Some n) (Some m) e = ap Some (grind (arith, nat_tests))
