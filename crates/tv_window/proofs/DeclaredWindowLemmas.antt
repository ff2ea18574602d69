-- A declared window shows what the flat machine's layers show.
use Rattle.std.proofs.Common.{◌≡◌, ℕ, ℤ, pos, ◌+ℤ◌, ◌-ℤ◌, Bool, false, All, List, [], ◌∷◌, ◌++◌, flat_map, map, reverse, refl, sym, ap, ◌∙◌, arith, subst}
use Rattle.std.proofs.lemmas.Grind.{flat_map-append}
use Rattle.std.proofs.lemmas.Int.{ints}
use Rattle.std.proofs.lemmas.List.{reverse-append}
use Rattle.std.proofs.lemmas.List.Elements.{All-head, All-tail}
use Rattle.tv_cells.specs.Canvas.{Covers, sub}
use Rattle.tv_cells.specs.Glyph.{Glyph}
use Rattle.tv_cells.specs.Layers.{Layer, Painted, ShowsSame}
use Rattle.tv_cells.specs.Rectangle.{IsIn, cut, shifted, sized}
use Rattle.tv_cells.specs.declared.canvas.Canvas.{Canvas}
use Rattle.tv_cells.specs.declared.rect.Point.{Point}
use Rattle.tv_cells.proofs.RectangleLemmas.{in_cut, point_is}
use Rattle.tv_model.specs.Screen.Faces.{FaceOf, frame_look, frame_role, static_text_face, text_face}
use Rattle.tv_model.specs.Description.Nodes.{is_pane}
use Rattle.tv_model.specs.Description.Rectangles.{desktop, interior, place_of_node, rect}
use Rattle.tv_machine.specs.Screen.Bodies.{canvas_at}
use Rattle.tv_machine.specs.Leaves.{PlacedNode, leaf_list}
use Rattle.tv_machine.specs.Screen.Layers.{window_leaf}
use Rattle.tv_view.specs.Meaning.{fresh}
use Rattle.tv_model.specs.Description.Numbers.{natural}
use Rattle.tv_model.specs.declared.desc.Desc.{Desc}
use Rattle.tv_model.specs.declared.desc.Window.{Window}
use Rattle.tv_model.specs.declared.node.Node.{Node}
use Rattle.tv_model.specs.declared.kind.Kind.TheVariants as kinds
use Rattle.tv_palette.proofs.ColourLemmas.{leads_through}
use Rattle.tv_palette.specs.Attributes.{attribute_of}
use Rattle.tv_palette.specs.Palettes.{colour_in}
use Rattle.tv_palette.specs.declared.role.Owner.TheVariants as owners
use Rattle.tv_palette.specs.declared.role.Role.TheVariants as roles
use Rattle.tv_palette.specs.declared.role.FrameRole.TheVariants as frame
use Rattle.tv_view.specs.declared.env.Env.{Env}
use Rattle.tv_view.specs.Colours.{colour}
use Rattle.tv_view.specs.Drawing.{leaf_layers}
use Rattle.tv_group.proofs.FreshLeafLemmas.{fresh_layers}
use Rattle.tv_window.specs.DeclaredWindows.{IsOfWindow, IsTextInside, window_canvas}
use Rattle.tv_view.proofs.FrameLayerLemmas.{bounds, inner}
use Rattle.tv_view.proofs.SameLayerLemmas.{covers_sub, painted_same, resized, same_append, same_refl, sub_covers, unsized}

module _ (d : Desc) (x y w h : ℤ) where
  -- the canvas of the body, which fills the window
  abbrev pub body : Canvas
  body = sub (inner d x y w h) (rect (pos 0) (pos 0) w h)

  -- ---- a static text inside the frame

  module _ (nx ny nw nh : ℤ) (inside : (p q : ℤ) → IsIn (rect nx ny nw nh) p q → IsIn (rect (pos 1) (pos 1) (w -ℤ pos 2) (h -ℤ pos 2)) p q) where
    abbrev pub leaf : Canvas
    leaf = canvas_at (desktop d) (x +ℤ nx) (y +ℤ ny)

    text_to : (column row : ℕ) → Covers (sub body (rect nx ny nw nh)) (sized (natural nw) (natural nh)) column row → Covers leaf (sized (natural nw) (natural nh)) column row
    text_to column row i =
        let c = covers_sub body nx ny nw nh column row i in
        let outer = (in_cut (cut (desktop d) (shifted (bounds d x y w h) (window_canvas d).origin)) (shifted (rect (pos 0) (pos 0) w h) (inner d x y w h).origin) (pos column) (pos row)).0 c.clip in
        record {
          clip = ((in_cut (desktop d) (shifted (bounds d x y w h) (window_canvas d).origin) (pos column) (pos row)).0 outer.0).0;
          rect = resized nx ny nw nh body.origin leaf.origin (omega (arith, ints)) (omega (arith, ints)) (pos column) (pos row) c.rect;
        }

    text_back : (column row : ℕ) → Covers leaf (sized (natural nw) (natural nh)) column row → Covers (sub body (rect nx ny nw nh)) (sized (natural nw) (natural nh)) column row
    text_back column row i =
        let at = unsized nx ny nw nh body.origin leaf.origin (omega (arith, ints)) (omega (arith, ints)) (pos column) (pos row) i.rect in
        let within = inside (pos column -ℤ x) (pos row -ℤ y) (record { after_left = omega (arith, ints, at.after_left); before_right = omega (arith, ints, at.before_right); after_top = omega (arith, ints, at.after_top); before_bottom = omega (arith, ints, at.before_bottom) }) in
        sub_covers body nx ny nw nh column row (record {
          clip = (in_cut (cut (desktop d) (shifted (bounds d x y w h) (window_canvas d).origin)) (shifted (rect (pos 0) (pos 0) w h) (inner d x y w h).origin) (pos column) (pos row)).1 (
            (in_cut (desktop d) (shifted (bounds d x y w h) (window_canvas d).origin) (pos column) (pos row)).1 (
              i.clip,
              record { after_left = omega (arith, ints, within.after_left); before_right = omega (arith, ints, within.before_right); after_top = omega (arith, ints, within.after_top); before_bottom = omega (arith, ints, within.before_bottom) },
            ),
            record { after_left = omega (arith, ints, within.after_left); before_right = omega (arith, ints, within.before_right); after_top = omega (arith, ints, within.after_top); before_bottom = omega (arith, ints, within.before_bottom) },
          );
          rect = at;
        })

    pub text_same : (face other : ℕ → ℕ → Glyph) → face ≡ other → ShowsSame (Painted (sub body (rect nx ny nw nh)) (natural nw) (natural nh) face ∷ []) (Painted leaf (natural nw) (natural nh) other ∷ [])
    text_same face other same =
        painted_same (sub body (rect nx ny nw nh)) leaf (natural nw) (natural nh) face other
        (point_is (nx +ℤ (pos 0 +ℤ (x +ℤ pos 0))) (ny +ℤ (pos 0 +ℤ (y +ℤ pos 0))) (x +ℤ nx) (y +ℤ ny) (omega (arith, ints)) (omega (arith, ints))) same text_to text_back

-- ---- the views of a declared window

-- a view round which there are no panes
abbrev pub bare : Node → PlacedNode
bare n = record { node = n; panes = [] }

pub bare_list : (owner : Node) (ns : List Node) → All (IsTextInside owner) ns → leaf_list ns ≡ map bare ns
bare_list owner [] texts = refl
bare_list owner (n ∷ ns) texts =
    let is_leaf : is_pane n.kind ≡ false = ap is_pane (All-head (IsTextInside owner) n ns texts).kind in
    rw is_leaf (ap (λ leaves. bare n ∷ leaves) (bare_list owner ns (All-tail (IsTextInside owner) n ns texts)))

-- the face of a text in the colours of the view's owners
abbrev text_face_in : Env → List ℕ → FaceOf
text_face_in env text = text_face text (colour env (roles.StaticText env.owner))

text_face_same : (env : Env) → IsOfWindow env → (text : List ℕ) → text_face_in env text ≡ static_text_face owners.Window text
text_face_same env lent text = rw (lent.owner, leads_through (roles.StaticText owners.Window) env.chain.now lent.chain) refl

pub look_same : (env : Env) → IsOfWindow env → (number : ℕ) (is_active : Bool) → frame_look (colour_in env.chain.now) owners.Window number is_active ≡ frame_look attribute_of owners.Window number is_active
look_same env lent number is_active =
    rw (leads_through (roles.Frame owners.Window (frame_role is_active)) env.chain.now lent.chain, leads_through (roles.Frame owners.Window frame.Body) env.chain.now lent.chain) refl

module _ (env : Env) (lent : IsOfWindow env) (d : Desc) (origin : Point) (window : Window) (h : ℤ) (tall : interior window.node ≡ rect (pos 1) (pos 1) (window.node.w -ℤ pos 2) (h -ℤ pos 2)) where
  abbrev pub body_of_window : Canvas
  body_of_window = body d origin.x origin.y window.node.w h

  -- what the machine shows of views round which there are no panes
  abbrev shown_views : List Node → List Layer
  shown_views ns = flat_map (window_leaf d origin) (reverse (map bare ns))

  view_drawn : (n : Node) (height : ℤ) (text : List ℕ) → n.kind ≡ kinds.Text (record { h = height; text = text })
      → leaf_layers env body_of_window (fresh n) ≡ Painted (sub body_of_window (rect n.x n.y n.w height)) (natural n.w) (natural height) (text_face_in env text) ∷ []
  unfolding leaf_layers
  view_drawn n height text kind = rw kind refl

  view_declared : (n : Node) (height : ℤ) (text : List ℕ) → n.kind ≡ kinds.Text (record { h = height; text = text })
      → window_leaf d origin (bare n) ≡ Painted (canvas_at (desktop d) (origin.x +ℤ n.x) (origin.y +ℤ n.y)) (natural n.w) (natural height) (static_text_face owners.Window text) ∷ []
  view_declared n height text kind = rw kind refl

  place_is : (n : Node) (height : ℤ) (text : List ℕ) → n.kind ≡ kinds.Text (record { h = height; text = text }) → place_of_node n ≡ rect n.x n.y n.w height
  place_is n height text kind = rw kind refl

  view_same : (n : Node) → IsTextInside window.node n → ShowsSame (leaf_layers env body_of_window (fresh n)) (window_leaf d origin (bare n))
  view_same n is =
      let within : (p q : ℤ) → IsIn (rect n.x n.y n.w is.height) p q → IsIn (rect (pos 1) (pos 1) (window.node.w -ℤ pos 2) (h -ℤ pos 2)) p q = λ p q i. subst (λ r. IsIn r p q) tall (is.inside p q (subst (λ r. IsIn r p q) (sym (place_is n is.height is.text is.kind)) i)) in
      rw (view_drawn n is.height is.text is.kind, view_declared n is.height is.text is.kind)
      (text_same d origin.x origin.y window.node.w h n.x n.y n.w is.height within (text_face_in env is.text) (static_text_face owners.Window is.text) (text_face_same env lent is.text))

  views_step : (n : Node) (ns : List Node) → shown_views (n ∷ ns) ≡ shown_views ns ++ window_leaf d origin (bare n)
  views_step n ns =
      ap (flat_map (window_leaf d origin)) (reverse-append (bare n ∷ []) (map bare ns))
      ∙ (flat_map-append (window_leaf d origin) (reverse (map bare ns)) (bare n ∷ []) ∙ ap (λ t. shown_views ns ++ t) (append_nil (window_leaf d origin (bare n))))
    where
      append_nil : (xs : List Layer) → xs ++ [] ≡ xs
      append_nil [] = refl
      append_nil (x ∷ xs) = ap (λ t. x ∷ t) (append_nil xs)

  bare_same : (ns : List Node) → All (IsTextInside window.node) ns → ShowsSame (fresh_layers env body_of_window ns) (shown_views ns)
  bare_same [] texts = same_refl []
  bare_same (n ∷ ns) texts =
      rw (views_step n ns)
      (same_append (fresh_layers env body_of_window ns) (shown_views ns) (leaf_layers env body_of_window (fresh n)) (window_leaf d origin (bare n))
      (bare_same ns (All-tail (IsTextInside window.node) n ns texts)) (view_same n (All-head (IsTextInside window.node) n ns texts)))

  pub views_same : (ns : List Node) → All (IsTextInside window.node) ns → ShowsSame (fresh_layers env body_of_window ns) (flat_map (window_leaf d origin) (reverse (leaf_list ns)))
  views_same ns texts =
      subst (λ leaves. ShowsSame (fresh_layers env body_of_window ns) (flat_map (window_leaf d origin) (reverse leaves))) (sym (bare_list window.node ns texts)) (bare_same ns texts)
