-- Declared windows, one over the other.
use Rattle.std.proofs.Common.{◌≡◌, IsTrue, ℤ, pos, neg_ℤ, ◌-ℤ◌, ◌≤ℤ◌, Bool, true, false, ◌&&◌, All, List, [], ◌∷◌, ◌++◌, flat_map, length, map, reverse, Some, refl, sym, ap, ◌∙◌, arith, subst, append_assoc}
use Rattle.std.proofs.lemmas.Int.{ints}
use Rattle.std.proofs.lemmas.List.{map-append}
use Rattle.std.proofs.lemmas.List.Elements.{All-head, All-tail, All-cons, All-nil}
use Rattle.std.proofs.lemmas.Bool.{false≢true}
use Rattle.std.specs.Int.Signed.{le_z}
use Rattle.tv_cells.specs.Canvas.{sub}
use Rattle.tv_cells.specs.Layers.{Layer, Painted, Shadow, Shows, Lays, ShowsSame}
use Rattle.tv_cells.specs.Picture.{Picture, IsAlike}
use Rattle.tv_cells.specs.Rectangle.{sized}
use Rattle.tv_cells.specs.Repainting.{clipped, within}
use Rattle.tv_cells.specs.declared.rect.Point.{Point}
use Rattle.tv_cells.specs.declared.rect.Rect.{Rect}
use Rattle.tv_cells.specs.Sheets.{inlaid}
use Rattle.tv_cells.specs.declared.canvas.Canvas.{Canvas}
use Rattle.tv_model.specs.Screen.Faces.{FaceOf, FrameLook, frame_face, frame_look}
use Rattle.tv_model.specs.Description.Heads.{window_head}
use Rattle.tv_model.specs.Description.Rectangles.{interior, rect, IsSmall, IsSmallRect}
use Rattle.tv_machine.specs.Leaves.{leaf_list}
use Rattle.tv_machine.specs.Screen.Layers.{stack_layers as declared_layers, window_layers as declared_window, window_leaf}
use Rattle.tv_view.specs.Meaning.{Leaf}
use Rattle.tv_machine.specs.State.{OpenWindow}
use Rattle.tv_model.proofs.HeadLemmas.{window_head_of-Window}
use Rattle.tv_model.specs.Description.Nodes.{height_of, is_pane, is_window}
use Rattle.tv_model.specs.Description.Numbers.{natural}
use Rattle.tv_model.specs.declared.desc.Desc.{Desc}
use Rattle.tv_model.specs.declared.desc.Window.{Window}
use Rattle.tv_model.specs.declared.node.Node.{Node}
use Rattle.tv_model.specs.declared.kind.Kind.{Kind}
use Rattle.tv_model.specs.declared.kind.Kind.TheVariants as kinds
use Rattle.tv_model.specs.declared.kind.WindowHead.{WindowHead}
use Rattle.tv_palette.specs.Attributes.{attribute_of}
use Rattle.tv_palette.specs.Palettes.{colour_in}
use Rattle.tv_palette.specs.declared.role.Owner.TheVariants as owners
use Rattle.tv_view.specs.declared.env.Env.{Env}
use Rattle.tv_view.specs.Drawing.{is_near, leaves_layers}
use Rattle.tv_view.proofs.LayingLemmas.{lays_as, lays_none, lays_then}
use Rattle.tv_group.specs.Opened.{opened}
use Rattle.tv_group.specs.Outline.{IsFreshBody}
use Rattle.tv_group.proofs.FreshLeafLemmas.{IsLeafNode, fresh_layers, group_drawn}
use Rattle.tv_window.specs.DeclaredWindows.{AreDeclared, IsOfWindow, IsTextInside, window_canvas}
use Rattle.tv_window.specs.Head.{KeptWindowHead, declared_window_head, kept_window_head}
use Rattle.tv_window.specs.Window.{body_of, window_frame_layer, head_of, drawn_window, window_bounds}
use Rattle.tv_window.specs.declared.window.WindowOf.{WindowOf}
use Rattle.tv_window.proofs.CutLemmas.{clipped-same, window-within}
use Rattle.tv_window.proofs.DeclaredWindowLemmas.{body, look_same, views_same}
use Rattle.tv_view.proofs.FrameLayerLemmas.{corner, frame_same, inner, shadows_same}
use Rattle.tv_view.proofs.SameLayerLemmas.{lays_same, same_append}

-- ---- what a head says of its node

-- the head of a window's node, and the height that it gives
pub record IsHead (window : Window) (head : KeptWindowHead) : Type 0 where
  pub tall : height_of window.node.kind ≡ (window_head window).h
  pub is : head ≡ kept_window_head window.node (window_head window)

some_is : {A : Type 0} (a b : A) → Some a ≡ Some b → a ≡ b
some_is a b e = cc

pub head_is : (window : Window) (head : KeptWindowHead) → Some head ≡ declared_window_head window.node → IsHead window head
head_is window head same = by_kind window.node.kind window.own_kind refl
  where
    by_kind : (k : Kind) (own : IsTrue (is_window k)) → window.node.kind ≡ k → IsHead window head
    by_kind (kinds.Window own_head) own e =
        let told = window_head_of-Window window.node.kind window.own_kind own_head e in record {
          tall = rw (told, e) refl;
          is = rw told (some_is head _ (rw e at same));
        }
    by_kind _ own e = absurd (false≢true own)

-- ---- small origins are near

le_holds : (a b : ℤ) → a ≤ℤ b → le_z a b ≡ true
le_holds a b h = grind (arith, ints)

near_axis : (z o : ℤ) → IsSmall z → o ≡ z → (le_z (neg_ℤ (pos 100000)) o && le_z o (pos 100000)) ≡ true
near_axis z o small e = rw (le_holds (neg_ℤ (pos 100000)) o (omega (arith, ints, small.low, e)), le_holds o (pos 100000) (omega (arith, ints, small.high, e))) refl

near_point : (x y : ℤ) (o : Point) → IsSmall x → IsSmall y → o.x ≡ x → o.y ≡ y → is_near o ≡ true
near_point x y o sx sy ex ey = rw (near_axis x o.x sx ex, near_axis y o.y sy ey) refl

-- ---- texts are no panes

leaf_nodes : (owner : Node) (nodes : List Node) → All (IsTextInside owner) nodes → All IsLeafNode nodes
leaf_nodes owner [] texts = All-nil IsLeafNode
leaf_nodes owner (n ∷ ns) texts =
    let text = All-head (IsTextInside owner) n ns texts in
    let leaf : is_pane n.kind ≡ false = rw text.kind refl in
    All-cons IsLeafNode n ns leaf (leaf_nodes owner ns (All-tail (IsTextInside owner) n ns texts))

-- ---- one window

module _ {V : Type 0} (look : V → Leaf) (env : Env) (lent : IsOfWindow env) (d : Desc) where
  abbrev pub shadow_of : WindowOf V → Layer
  shadow_of window = Shadow (window_canvas d) (window_bounds window)

  leaves_drawn : (owner : Node) (views : List Node) (h : ℤ) (window : WindowOf V) → IsFreshBody look owner views (body_of window) → height_of owner.kind ≡ h
      → window_bounds window ≡ rect window.corner.x window.corner.y owner.w h → IsSmallRect (window_bounds window) → All (IsTextInside owner) views
      → leaves_layers env (sub (window_canvas d) (window_bounds window)) (opened look (body_of window)) ≡ fresh_layers env (body d window.corner.x window.corner.y owner.w h) views
  leaves_drawn owner views h window fresh tall is small texts =
      let whole : (body_of window).bounds ≡ rect (pos 0) (pos 0) owner.w h = sym fresh.bounds ∙ ap (λ k. rect (pos 0) (pos 0) owner.w k) tall in
      let place : sub (sub (window_canvas d) (window_bounds window)) (body_of window).bounds ≡ body d window.corner.x window.corner.y owner.w h =
      ap (λ r. sub (sub (window_canvas d) r) (body_of window).bounds) is ∙ ap (λ r. sub (sub (window_canvas d) (rect window.corner.x window.corner.y owner.w h)) r) whole in
      let narrow : IsSmallRect (rect window.corner.x window.corner.y owner.w h) = subst IsSmallRect is small in
      let near : is_near (sub (sub (window_canvas d) (window_bounds window)) (body_of window).bounds).origin ≡ true =
      ap (λ c. is_near c.origin) place
      ∙ near_point window.corner.x window.corner.y (body d window.corner.x window.corner.y owner.w h).origin narrow.left narrow.top (omega (arith, ints)) (omega (arith, ints)) in
      group_drawn look env (sub (window_canvas d) (window_bounds window)) (body_of window) views (leaf_nodes owner views texts) near fresh.parts
      ∙ ap (λ c. fresh_layers env c views) place

  module _ (window : WindowOf V) (declared : Window) (is : IsHead declared (head_of window)) (fresh : IsFreshBody look declared.node declared.views (body_of window))
      (texts : All (IsTextInside declared.node) declared.views) (small : IsSmallRect (window_bounds window)) where
    abbrev x : ℤ
    x = window.corner.x

    abbrev y : ℤ
    y = window.corner.y

    abbrev w : ℤ
    w = declared.node.w

    abbrev own : WindowHead
    own = window_head declared

    placed : window_bounds window ≡ rect x y w own.h
    placed = ap (λ head. rect x y head.w head.h) is.is

    abbrev face_in : FrameLook → FaceOf
    face_in frame = inlaid window.sheet (natural w) (natural own.h) (frame_face (natural w) (natural own.h) own.title frame)

    abbrev views : List Layer
    views = flat_map (window_leaf d window.corner) (reverse (leaf_list declared.views))

    drawn : drawn_window look env (window_canvas d) window ++ shadow_of window ∷ []
        ≡ (fresh_layers env (body d x y w own.h) declared.views
        ++ Painted (inner d x y w own.h) (natural w) (natural own.h) (face_in (frame_look (colour_in env.chain.now) owners.Window (natural own.number) env.is_active)) ∷ [])
        ++ Shadow (window_canvas d) (rect x y w own.h) ∷ []
    drawn =
        ap (λ t. (t ++ window_frame_layer env (sub (window_canvas d) (window_bounds window)) window.sheet (head_of window) ∷ []) ++ shadow_of window ∷ []) (leaves_drawn declared.node declared.views own.h window fresh is.tall placed small texts)
        ∙ ap (λ head. (fresh_layers env (body d x y w own.h) declared.views ++ window_frame_layer env (sub (window_canvas d) (rect x y head.w head.h)) window.sheet head ∷ []) ++ Shadow (window_canvas d) (rect x y head.w head.h) ∷ []) is.is

    shown : (a : Bool) → declared_window d a window.corner window.sheet declared
        ≡ views ++ (Painted (corner d x y w own.h) (natural w) (natural own.h) (face_in (frame_look attribute_of owners.Window (natural own.number) a)) ∷ Shadow (corner d x y w own.h) (sized (natural w) (natural own.h)) ∷ [])
    shown a = refl

    pub window_same : ShowsSame (drawn_window look env (window_canvas d) window ++ shadow_of window ∷ []) (declared_window d env.is_active window.corner window.sheet declared)
    window_same =
        let seen = frame_look (colour_in env.chain.now) owners.Window (natural own.number) env.is_active in
        let told = frame_look attribute_of owners.Window (natural own.number) env.is_active in
        let inside : interior declared.node ≡ rect (pos 1) (pos 1) (w -ℤ pos 2) (own.h -ℤ pos 2) = ap (λ k. rect (pos 1) (pos 1) (w -ℤ pos 2) (k -ℤ pos 2)) is.tall in
        let framed = frame_same d x y w own.h (face_in seen) (face_in told) (ap face_in (look_same env lent (natural own.number) env.is_active)) in
        let text = views_same env lent d window.corner declared own.h inside declared.views texts in
        rw (drawn, shown env.is_active, ← append_assoc views (Painted (corner d x y w own.h) (natural w) (natural own.h) (face_in told) ∷ []) (Shadow (corner d x y w own.h) (sized (natural w) (natural own.h)) ∷ []))
        (same_append _ _ _ _ (same_append _ _ _ _ text framed) (shadows_same d x y w own.h))

  -- ---- one over the other, through a canvas that a rectangle cuts

  module _ (r : Rect) where
    pub none_declared : (stack : List OpenWindow) (windows : List (WindowOf V)) (p : Picture) → length windows ≡ 0 → AreDeclared look d stack windows → Lays (map (clipped r) (declared_layers d env.is_active stack)) p p
    none_declared [] [] p e are = lays_none p
    none_declared (o ∷ stack) [] p e are = absurd are
    none_declared stack (window ∷ windows) p e are = absurd cc

    stack_declared : (stack : List OpenWindow) (front : WindowOf V) (behind : List (WindowOf V)) (old mid after new : Picture) → AreDeclared look d stack (front ∷ behind)
        → IsSmallRect (window_bounds front)
        → ((rest : List OpenWindow) → AreDeclared look d rest behind → Lays (map (clipped r) (declared_layers d false rest)) old mid)
        → Lays (map (clipped r) (shadow_of front ∷ [])) mid after → Lays (drawn_window look env (within r (window_canvas d)) front) after new
        → Lays (map (clipped r) (declared_layers d env.is_active stack)) old new
    stack_declared [] front behind old mid after new are small below shadow here = absurd are
    stack_declared (o ∷ stack) front behind old mid after new are small below shadow here =
        let one = are.0 in
        let drawn = drawn_window look env (window_canvas d) front in
        let shown = declared_window d env.is_active o.origin o.sheet one.declared in
        let same = clipped-same r (drawn ++ shadow_of front ∷ []) shown (subst (λ sheet. ShowsSame (drawn ++ shadow_of front ∷ []) (declared_window d env.is_active o.origin sheet one.declared)) one.sheet (subst (λ corner. ShowsSame (drawn ++ shadow_of front ∷ []) (declared_window d env.is_active corner front.sheet one.declared)) one.corner
        (window_same front one.declared (head_is one.declared (head_of front) one.of.head) one.of.body one.texts small))) in
        let laid = subst (λ layers. Lays layers after new) (window-within look env r (window_canvas d) front) here in
        let window = lays_same _ _ mid new same (lays_as _ _ mid new (sym (map-append (clipped r) drawn (shadow_of front ∷ []))) (lays_then (map (clipped r) (shadow_of front ∷ [])) (map (clipped r) drawn) mid after new shadow laid)) in
        rw one.named
        (lays_as _ _ old new (sym (map-append (clipped r) shown (declared_layers d false stack))) (lays_then (map (clipped r) (declared_layers d false stack)) (map (clipped r) shown) old mid new (below stack are.1) window))

    -- as they were drawn, with the shadow of a rectangle
    pub stack_drawn : (stack : List OpenWindow) (windows : List (WindowOf V)) (front : WindowOf V) (behind : List (WindowOf V)) (c : Canvas) (s : Rect) (old mid after new : Picture)
        → windows ≡ front ∷ behind → c ≡ within r (window_canvas d) → s ≡ window_bounds front → IsSmallRect s → AreDeclared look d stack windows
        → ((rest : List OpenWindow) → AreDeclared look d rest behind → Lays (map (clipped r) (declared_layers d false rest)) old mid)
        → IsAlike mid after → ((layers : List Layer) → Shows layers mid → Shows (Shadow c s ∷ layers) after)
        → Lays (drawn_window look env c front) after new
        → Lays (map (clipped r) (declared_layers d env.is_active stack)) old new
    stack_drawn stack windows front behind c s old mid after new split seen bounds small are below size shows here =
        stack_declared stack front behind old mid after new (subst (AreDeclared look d stack) split are) (subst IsSmallRect bounds small) below
        (record { size = size; shows = λ layers shown. subst (λ q. Shows (Shadow (within r (window_canvas d)) q ∷ layers) after) bounds (subst (λ k. Shows (Shadow k s ∷ layers) after) seen (shows layers shown)) })
        (subst (λ k. Lays (drawn_window look env k front) after new) seen here)
