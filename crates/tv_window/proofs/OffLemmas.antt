-- Off its bounds and its shadow a window shows nothing, wherever it stands.
use Rattle.std.proofs.Common.{◌≡◌, ℕ, ℤ, pos, ◌+ℤ◌, ◌-ℤ◌, Bool, false, Option, List, [], ◌∷◌, ◌++◌, All, flat_map, map, reverse, refl, sym, ap, subst, ◌∙◌, arith}
use Rattle.std.proofs.lemmas.Grind.{reverse_onto}
use Rattle.std.proofs.lemmas.Int.{ints}
use Rattle.std.proofs.lemmas.List.Elements.{All-head, All-map, All-push, All-tail, All-weaker}
use Rattle.tv_cells.specs.Canvas.{aside}
use Rattle.tv_cells.specs.Damage.{has, with_shadow}
use Rattle.tv_cells.specs.Glyph.{Glyph}
use Rattle.tv_cells.specs.Layers.{Layer, Painted, Shadow, cell_over, over}
use Rattle.tv_cells.specs.Rectangle.{IsIn, shifted, sized}
use Rattle.tv_cells.specs.Picture.{Picture}
use Rattle.tv_cells.specs.Sheets.{inlaid}
use Rattle.tv_cells.specs.declared.canvas.Canvas.{Canvas}
use Rattle.tv_cells.specs.declared.rect.Point.{Point}
use Rattle.tv_cells.specs.declared.rect.Rect.{Rect}
use Rattle.tv_cells.proofs.DamageLemmas.{has-left, has-one, has-right}
use Rattle.tv_cells.proofs.RepaintingLemmas.{over-append}
use Rattle.tv_model.specs.Screen.Faces.{FaceOf, frame_face, frame_look, static_text_face}
use Rattle.tv_model.specs.Description.Heads.{window_head}
use Rattle.tv_model.specs.Description.Nodes.{height_of}
use Rattle.tv_model.specs.Description.Numbers.{natural}
use Rattle.tv_model.specs.Description.Rectangles.{desktop, interior, place_of_node, rect}
use Rattle.tv_model.specs.declared.desc.Desc.{Desc}
use Rattle.tv_model.specs.declared.desc.Window.{Window}
use Rattle.tv_model.specs.declared.node.Node.{Node}
use Rattle.tv_machine.specs.Leaves.{PlacedNode, leaf_list}
use Rattle.tv_machine.specs.Screen.Bodies.{canvas_at}
use Rattle.tv_machine.specs.Screen.Layers.{window_layers, window_leaf}
use Rattle.tv_palette.specs.Attributes.{attribute_of}
use Rattle.tv_palette.specs.declared.role.Owner.TheVariants as owners
use Rattle.tv_view.proofs.SameLayerLemmas.{unsized}
use Rattle.tv_window.specs.DeclaredWindows.{IsTextInside}
use Rattle.tv_cells.proofs.AddedLemmas.{false-true}
use Rattle.tv_window.proofs.DeclaredWindowLemmas.{bare, bare_list}
use Rattle.tv_view.proofs.OffLemmas.{painted-off, shadow-off}

-- ---- the views

all-reverse : {A : Type 0} (P : A → Type 0) (xs : List A) → All P xs → All P (reverse xs)
all-reverse P [] all = all
all-reverse P (x ∷ xs) all =
    subst (All P) (sym (reverse_onto xs x [])) (All-push P (reverse xs) x (all-reverse P xs (All-tail P x xs all)) (All-head P x xs all))

module _ (d : Desc) (window : Window) (origin : Point) (column row : ℕ) (sheet : Option Picture) where
  abbrev w : ℤ
  w = window.node.w

  abbrev h : ℤ
  h = (window_head window).h

  -- its rectangle where it stands
  abbrev pub own_bounds : Rect
  own_bounds = rect origin.x origin.y w h

  -- the leaf leaves the cell as it is
  abbrev LeavesAlone : PlacedNode → Type 0
  LeavesAlone leaf = (under : Glyph) → cell_over (window_leaf d origin leaf) column row under ≡ under

  text-off : (n : Node) (is : IsTextInside window.node n) → height_of window.node.kind ≡ h → (IsIn own_bounds (pos column) (pos row) → ⊥)
      → (under : Glyph) → over (Painted (canvas_at (desktop d) (origin.x +ℤ n.x) (origin.y +ℤ n.y)) (natural n.w) (natural is.height) (static_text_face owners.Window is.text)) column row under ≡ under
  text-off n is tall out under =
      painted-off place (natural n.w) (natural is.height) (static_text_face owners.Window is.text) column row under
      (λ i.
      let at = unsized n.x n.y n.w is.height origin place.origin (omega (arith, ints)) (omega (arith, ints)) (pos column) (pos row) i.rect in
      let own : place_of_node n ≡ rect n.x n.y n.w is.height = rw is.kind refl in
      let here : IsIn (rect n.x n.y n.w is.height) (pos column -ℤ origin.x) (pos row -ℤ origin.y) = record {
        after_left = omega (arith, ints, at.after_left);
        before_right = omega (arith, ints, at.before_right);
        after_top = omega (arith, ints, at.after_top);
        before_bottom = omega (arith, ints, at.before_bottom);
      } in
      let inner : interior window.node ≡ rect (pos 1) (pos 1) (w -ℤ pos 2) (h -ℤ pos 2) = ap (λ k. rect (pos 1) (pos 1) (w -ℤ pos 2) (k -ℤ pos 2)) tall in
      let within = subst (λ r. IsIn r (pos column -ℤ origin.x) (pos row -ℤ origin.y)) inner
      (is.inside (pos column -ℤ origin.x) (pos row -ℤ origin.y) (subst (λ r. IsIn r (pos column -ℤ origin.x) (pos row -ℤ origin.y)) (sym own) here)) in
      out (record {
        after_left = omega (arith, ints, within.after_left);
        before_right = omega (arith, ints, within.before_right);
        after_top = omega (arith, ints, within.after_top);
        before_bottom = omega (arith, ints, within.before_bottom);
      }))
    where
      place : Canvas
      place = canvas_at (desktop d) (origin.x +ℤ n.x) (origin.y +ℤ n.y)

  leaf-off : (n : Node) → IsTextInside window.node n → height_of window.node.kind ≡ h → (IsIn own_bounds (pos column) (pos row) → ⊥) → LeavesAlone (bare n)
  leaf-off n is tall out under = let only = text-off n is tall out under in rw is.kind only

  leaves-off : (leaves : List PlacedNode) → All LeavesAlone leaves → (under : Glyph) → cell_over (flat_map (window_leaf d origin) leaves) column row under ≡ under
  leaves-off [] alone under = refl
  leaves-off (leaf ∷ leaves) alone under =
      over-append (window_leaf d origin leaf) (flat_map (window_leaf d origin) leaves) column row under
      ∙ All-head LeavesAlone leaf leaves alone (cell_over (flat_map (window_leaf d origin) leaves) column row under)
      ∙ leaves-off leaves (All-tail LeavesAlone leaf leaves alone) under

  abbrev views : List Layer
  views = flat_map (window_leaf d origin) (reverse (leaf_list window.views))

  views-off : All (IsTextInside window.node) window.views → height_of window.node.kind ≡ h → (IsIn own_bounds (pos column) (pos row) → ⊥) → (under : Glyph) → cell_over views column row under ≡ under
  views-off texts tall out under =
      ap (λ leaves. cell_over (flat_map (window_leaf d origin) (reverse leaves)) column row under) (bare_list window.node window.views texts)
      ∙ leaves-off (reverse (map bare window.views))
      (all-reverse LeavesAlone (map bare window.views)
      (All-map LeavesAlone bare window.views (All-weaker (IsTextInside window.node) (λ n. LeavesAlone (bare n)) (λ n is. leaf-off n is tall out) window.views texts)))
      under

  -- ---- the frame and the shadow

  abbrev corner : Canvas
  corner = canvas_at (desktop d) origin.x origin.y

  abbrev frame_in : Bool → FaceOf
  frame_in is_active = inlaid sheet (natural w) (natural h) (frame_face (natural w) (natural h) (window_head window).title (frame_look attribute_of owners.Window (natural (window_head window).number) is_active))

  abbrev framed : Bool → Layer
  framed is_active = Painted corner (natural w) (natural h) (frame_in is_active)

  abbrev shade : Layer
  shade = Shadow corner (sized (natural w) (natural h))

  shown : (is_active : Bool) → window_layers d is_active origin sheet window ≡ views ++ framed is_active ∷ shade ∷ []
  shown is_active = refl

  in-own : (x y : ℤ) → IsIn (shifted (sized (natural w) (natural h)) corner.origin) x y → IsIn own_bounds x y
  in-own x y i =
      let at = unsized origin.x origin.y w h (record { x = pos 0; y = pos 0 }) corner.origin (omega (arith, ints)) (omega (arith, ints)) x y i in
      record {
        after_left = omega (arith, ints, at.after_left);
        before_right = omega (arith, ints, at.before_right);
        after_top = omega (arith, ints, at.after_top);
        before_bottom = omega (arith, ints, at.before_bottom);
      }

  frame-off : (is_active : Bool) → (IsIn own_bounds (pos column) (pos row) → ⊥) → (under : Glyph) → over (framed is_active) column row under ≡ under
  frame-off is_active out under = painted-off corner (natural w) (natural h) (frame_in is_active) column row under (λ i. out (in-own (pos column) (pos row) i.rect))

  shade-off : (IsIn (shifted own_bounds aside) (pos column) (pos row) → ⊥) → (under : Glyph) → over shade column row under ≡ under
  shade-off out under =
      shadow-off corner (sized (natural w) (natural h)) column row under
      (λ i.
      let at = in-own (pos column -ℤ pos 2) (pos row -ℤ pos 1) (record {
        after_left = omega (arith, ints, i.rect.after_left);
        before_right = omega (arith, ints, i.rect.before_right);
        after_top = omega (arith, ints, i.rect.after_top);
        before_bottom = omega (arith, ints, i.rect.before_bottom);
      }) in
      out (record {
        after_left = omega (arith, ints, at.after_left);
        before_right = omega (arith, ints, at.before_right);
        after_top = omega (arith, ints, at.after_top);
        before_bottom = omega (arith, ints, at.before_bottom);
      }))

  -- ---- all of it

  module _ (texts : All (IsTextInside window.node) window.views) (tall : height_of window.node.kind ≡ h) where
    -- off its bounds its frame doesn't show
    pub frame-unseen : (is_active : Bool) → (IsIn own_bounds (pos column) (pos row) → ⊥) → (under : Glyph)
        → cell_over (window_layers d is_active origin sheet window) column row under ≡ cell_over views column row (over shade column row under)
    frame-unseen is_active out under =
        over-append views (framed is_active ∷ shade ∷ []) column row under ∙ ap (cell_over views column row) (frame-off is_active out (over shade column row under))

    -- nor its activity
    pub activity-off : (is_active other : Bool) → (IsIn own_bounds (pos column) (pos row) → ⊥) → (under : Glyph)
        → cell_over (window_layers d is_active origin sheet window) column row under ≡ cell_over (window_layers d other origin sheet window) column row under
    activity-off is_active other out under = frame-unseen is_active out under ∙ sym (frame-unseen other out under)

    -- off its bounds and its shadow it leaves the cell as it is
    pub window-off : (is_active : Bool) → has (with_shadow own_bounds) (pos column) (pos row) ≡ false → (under : Glyph) → cell_over (window_layers d is_active origin sheet window) column row under ≡ under
    window-off is_active off under =
        over-append views (framed is_active ∷ shade ∷ []) column row under
        ∙ views-off texts tall out (over (framed is_active) column row (over shade column row under))
        ∙ frame-off is_active out (over shade column row under)
        ∙ shade-off (λ i. false-true off (has-right (own_bounds ∷ []) (shifted own_bounds aside ∷ []) (pos column) (pos row) (has-one (shifted own_bounds aside) (pos column) (pos row) i))) under
      where
        out : IsIn own_bounds (pos column) (pos row) → ⊥
        out i = false-true off (has-left (own_bounds ∷ []) (shifted own_bounds aside ∷ []) (pos column) (pos row) (has-one own_bounds (pos column) (pos row) i))

-- nor its sheet
pub sheet-off : (d : Desc) (window : Window) (origin : Point) (column row : ℕ) (sheet other : Option Picture) → All (IsTextInside window.node) window.views
    → height_of window.node.kind ≡ (window_head window).h → (is_active : Bool) → (IsIn (rect origin.x origin.y window.node.w (window_head window).h) (pos column) (pos row) → ⊥) → (under : Glyph)
    → cell_over (window_layers d is_active origin sheet window) column row under ≡ cell_over (window_layers d is_active origin other window) column row under
sheet-off d window origin column row sheet other texts tall is_active out under =
    frame-unseen d window origin column row sheet texts tall is_active out under ∙ sym (frame-unseen d window origin column row other texts tall is_active out under)
