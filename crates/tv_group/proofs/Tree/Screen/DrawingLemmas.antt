-- The views of the open dialog show what the machine's layers show.
use Rattle.std.proofs.Common.{◌≡◌, ℕ, ◌<◌, ◌≤◌, ◌+◌, nat_lt, pos, ◌+ℤ◌, Bool, true, false, IsTrue, if◌then◌else◌, List, [], ◌∷◌, ◌++◌, length, All, AllPairs, flat_map, map, reverse, sym, ap, ◌∙◌, arith}
use Rattle.std.specs.List.{filter}
use Rattle.std.proofs.lemmas.Grind.{flat_map-append}
use Rattle.std.proofs.lemmas.Int.{ints}
use Rattle.std.proofs.lemmas.List.{append-nil}
use Rattle.std.proofs.lemmas.List.Elements.{All-nil, All-cons, All-filter, All-head, All-tail}
use Rattle.tv_cells.specs.Canvas.{Covers, sub}
use Rattle.tv_cells.specs.Layers.{Layer, Painted, ShowsSame}
use Rattle.tv_cells.specs.Rectangle.{IsIn, shifted, sized}
use Rattle.tv_cells.specs.declared.canvas.Canvas.{Canvas}
use Rattle.tv_cells.proofs.RectangleLemmas.{in_cut, point_is}
use Rattle.tv_model.specs.declared.desc.Desc.{Desc}
use Rattle.tv_model.specs.declared.desc.Dialog.{Dialog}
use Rattle.tv_model.specs.declared.node.Id.{Id}
use Rattle.tv_model.specs.declared.node.Node.{Node}
use Rattle.tv_model.specs.Description.Rectangles.{IsSmall, desktop, place_of_node}
use Rattle.tv_model.specs.Description.Nodes.{AreRising, height_of, is_default, is_pane}
use Rattle.tv_model.specs.Description.LawfulNodes.{IsLimited}
use Rattle.tv_model.specs.Description.Numbers.{natural}
use Rattle.tv_model.specs.Screen.Faces.{FaceOf}
use Rattle.tv_machine.specs.Screen.Bodies.{canvas_at}
use Rattle.tv_palette.specs.Attributes.{attribute_of}
use Rattle.tv_palette.specs.declared.role.Owner.TheVariants as owners
use Rattle.tv_machine.specs.State.{OpenDialog}
use Rattle.tv_machine.specs.Leaves.{PlacedNode, corner_on, leaf_list, leaves_in, open_at}
use Rattle.tv_machine.specs.Dialog.Modal.{Modal, content_at}
use Rattle.tv_machine.specs.Dialog.Rules.{content_held, is_visible}
use Rattle.tv_machine.specs.Screen.LeafFaces.{leaf_faces}
use Rattle.tv_machine.specs.Screen.Layers.{dialog_leaf}
use Rattle.tv_machine.specs.Screen.Layers as screen
use Rattle.tv_view.specs.declared.env.Env.{Env}
use Rattle.tv_view.specs.Colours.{colour, lent_look}
use Rattle.tv_view.specs.Drawing.{faces_of, layers_in, leaf_layers, leaves_layers}
use Rattle.tv_view.proofs.SameLayerLemmas.{covers_sub, faces_same, resized, same_append, same_refl, sub_covers, unsized}
use Rattle.tv_group.specs.Outline.{body_bounds}
use Rattle.tv_group.proofs.ListLemmas.{reverse-step}
use Rattle.tv_machine.specs.Dialog.Lawful.{IsLawfulDialog, LiesInside}
use Rattle.tv_group.specs.Tree.{around_of, leaf_as, placed_as, tree_of}
use Rattle.tv_group.specs.TreeTurns.{IsLentBy}
use Rattle.tv_group.proofs.Tree.Screen.CanvasLemmas.{IsCornerUpTo, IsPaneNear, canvas_in, clip-in, column-sum, layers-near, origin-x, origin-y, panes-reached, row-sum, view-uncut}
use Rattle.tv_group.proofs.Tree.Screen.FaceLemmas.{faces-coloured}
use Rattle.tv_group.specs.Shown.{IsAtWork, IsOfDialog, desktop_canvas, dialog_canvas, open_bounds}
use Rattle.tv_group.proofs.Tree.Screen.LookLemmas.{IsOfFirst, look-seen, one-first, pairs_rest, weaken}

-- ---- the canvas of a leaf

module _ (desc : Desc) (o : OpenDialog) (d : Dialog) where
  -- the canvas of the innermost group around a leaf, its own, and the one that the machine draws it through
  abbrev inner : PlacedNode → Canvas
  inner leaf = canvas_in (dialog_canvas desc o d) (around_of d leaf)

  abbrev own : PlacedNode → Canvas
  own leaf = sub (inner leaf) (place_of_node leaf.node)

  abbrev declared : PlacedNode → Canvas
  declared leaf = canvas_at (desktop desc) (o.origin.x +ℤ (corner_on leaf).x) (o.origin.y +ℤ (corner_on leaf).y)

  seen_x : (leaf : PlacedNode) → (declared leaf).origin.x ≡ leaf.node.x +ℤ (inner leaf).origin.x
  seen_x leaf =
      let e = origin-x (dialog_canvas desc o d) d.node leaf.panes in let f = column-sum leaf.panes leaf.node.x in omega (arith, ints, e, f)

  seen_y : (leaf : PlacedNode) → (declared leaf).origin.y ≡ leaf.node.y +ℤ (inner leaf).origin.y
  seen_y leaf =
      let e = origin-y (dialog_canvas desc o d) d.node leaf.panes in let f = row-sum leaf.panes leaf.node.y in omega (arith, ints, e, f)

  leaf_to : (leaf : PlacedNode) (column row : ℕ)
      → Covers (own leaf) (sized (natural leaf.node.w) (natural (height_of leaf.node.kind))) column row
      → Covers (declared leaf) (sized (natural leaf.node.w) (natural (height_of leaf.node.kind))) column row
  leaf_to leaf column row i =
      let n = leaf.node in
      let h = height_of n.kind in
      let c = covers_sub (inner leaf) n.x n.y n.w h column row i in
      let whole = clip-in (dialog_canvas desc o d) (around_of d leaf) (pos column) (pos row) c.clip in
      record {
        clip = ((in_cut (desktop desc) (shifted (open_bounds o d) (desktop_canvas desc).origin) (pos column) (pos row)).0 whole).0;
        rect = resized n.x n.y n.w h (inner leaf).origin (declared leaf).origin (seen_x leaf) (seen_y leaf) (pos column) (pos row) c.rect;
      }

  -- where the desktop shows what lies in the dialog, so does the dialog's canvas
  opens : (column row : ℕ) → IsIn (desktop desc) (pos column) (pos row)
      → IsIn (shifted (body_bounds d.node) (dialog_canvas desc o d).origin) (pos column) (pos row)
      → IsIn (dialog_canvas desc o d).clip (pos column) (pos row)
  opens column row on i =
      (in_cut (desktop desc) (shifted (open_bounds o d) (desktop_canvas desc).origin) (pos column) (pos row)).1 (
        on,
        record {
          after_left = omega (arith, ints, i.after_left);
          before_right = omega (arith, ints, i.before_right);
          after_top = omega (arith, ints, i.after_top);
          before_bottom = omega (arith, ints, i.before_bottom);
        },
      )

  leaf_back : (leaf : PlacedNode) → LiesInside d.node leaf → (column row : ℕ)
      → Covers (declared leaf) (sized (natural leaf.node.w) (natural (height_of leaf.node.kind))) column row
      → Covers (own leaf) (sized (natural leaf.node.w) (natural (height_of leaf.node.kind))) column row
  leaf_back leaf lies column row i =
      let n = leaf.node in
      let h = height_of n.kind in
      let at = unsized n.x n.y n.w h (inner leaf).origin (declared leaf).origin (seen_x leaf) (seen_y leaf) (pos column) (pos row) i.rect in
      sub_covers (inner leaf) n.x n.y n.w h column row (record {
        clip = view-uncut (dialog_canvas desc o d) d.node n leaf.panes lies (pos column) (pos row) (opens column row i.clip) at;
        rect = at;
      })

  -- faces in the rectangle of a leaf
  abbrev painted : PlacedNode → List FaceOf → List Layer
  painted leaf faces = map (Painted (own leaf) (natural leaf.node.w) (natural (height_of leaf.node.kind))) faces

  -- they show the same through both
  leaf_same : (leaf : PlacedNode) → LiesInside d.node leaf → (faces : List FaceOf)
      → ShowsSame (painted leaf faces) (screen.layers_of_leaf desc o.origin leaf faces)
  leaf_same leaf lies faces =
      faces_same (own leaf) (declared leaf) (natural leaf.node.w) (natural (height_of leaf.node.kind)) faces
      (point_is (own leaf).origin.x (own leaf).origin.y (declared leaf).origin.x (declared leaf).origin.y (sym (seen_x leaf))
      (sym (seen_y leaf)))
      (leaf_to leaf) (leaf_back leaf lies)

-- ---- the leaves

-- a leaf of a sound description, whose dialog has one default button at most
pub record IsSoundLeaf (d : Dialog) (leaf : PlacedNode) : Type 0 where
  pub lies : LiesInside d.node leaf
  pub corners : All IsPaneNear leaf.panes
  pub few : length leaf.panes ≤ 64
  pub default : IsOfFirst is_default (leaf_list d.views) leaf

module _ (desc : Desc) (d : Dialog) (rising : AreRising d.views) (o : OpenDialog) (overwriting : List Id) (m : Modal)
    (work : IsAtWork o overwriting m) (env : Env) (lent : IsLentBy d m env) (of : IsOfDialog env)
    (at : IsSmall o.origin.x × IsSmall o.origin.y) where
  abbrev tree_layers : PlacedNode → List Layer
  tree_layers leaf = layers_in env (dialog_canvas desc o d) (around_of d leaf) (leaf_as d m.leaves m leaf)

  abbrev told_faces : PlacedNode → List FaceOf
  told_faces leaf =
      leaf_faces attribute_of owners.Dialog (screen.look_of d o leaf.node) (natural leaf.node.w) leaf.node.kind
      (content_held o.leaves overwriting leaf.node.id)

  faces-told : (leaf : PlacedNode) → IsSoundLeaf d leaf → faces_of env (leaf_as d m.leaves m leaf) ≡ told_faces leaf
  faces-told leaf sound =
      let n = leaf.node in
      let c = content_at m n.id in
      ap (λ owner. leaf_faces (colour env) owner (lent_look env (leaf_as d m.leaves m leaf)) (natural n.w) n.kind c) of.owner
      ∙ faces-coloured env.chain.now of.chain (lent_look env (leaf_as d m.leaves m leaf)) (natural n.w) n.kind c
      ∙ ap (λ look. leaf_faces attribute_of owners.Dialog look (natural n.w) n.kind c)
      (look-seen d o overwriting m work env lent rising leaf sound.default)
      ∙ (λ i. leaf_faces attribute_of owners.Dialog (screen.look_of d o n) (natural n.w) n.kind
      (content_held (work.leaves i) (work.overwriting_in i) n.id))

  corner-near : IsCornerUpTo 300 (dialog_canvas desc o d).origin
  corner-near = record {
    x = record { low = omega (arith, ints, at.0.low); high = omega (arith, ints, at.0.high) };
    y = record { low = omega (arith, ints, at.1.low); high = omega (arith, ints, at.1.high) };
  }

  shown-or-not : (b : Bool) (xs ys : List Layer) → ShowsSame xs ys → ShowsSame (if b then xs else []) (if b then ys else [])
  shown-or-not true xs ys same = same
  shown-or-not false xs ys same = same_refl []

  own-layers : (leaf : PlacedNode) → IsSoundLeaf d leaf
      → tree_layers leaf ≡ (if is_visible d o.leaves leaf then painted desc o d leaf (told_faces leaf) else [])
  unfolding leaf_layers
  own-layers leaf sound =
      layers-near env (dialog_canvas desc o d) (around_of d leaf) (leaf_as d m.leaves m leaf)
      (panes-reached (dialog_canvas desc o d) d.node leaf.panes corner-near sound.corners sound.few).near
      ∙ ap (λ faces. if is_visible d m.leaves leaf then painted desc o d leaf faces else []) (faces-told leaf sound)
      ∙ ap (λ leaves. if is_visible d leaves leaf then painted desc o d leaf (told_faces leaf) else []) work.leaves

  -- a leaf of the tree shows what the machine's does
  leaf-shown : (leaf : PlacedNode) → IsSoundLeaf d leaf
      → ShowsSame (tree_layers leaf) (if is_visible d o.leaves leaf then dialog_leaf desc d o overwriting leaf else [])
  leaf-shown leaf sound =
      rw (own-layers leaf sound)
      (shown-or-not (is_visible d o.leaves leaf) (painted desc o d leaf (told_faces leaf)) (dialog_leaf desc d o overwriting leaf)
      (leaf_same desc o d leaf sound.lies (told_faces leaf)))

  abbrev told : List PlacedNode → List Layer
  told leaves = flat_map (dialog_leaf desc d o overwriting) (reverse (filter (is_visible d o.leaves) leaves))

  told-step : (leaf : PlacedNode) (leaves : List PlacedNode)
      → told (leaf ∷ leaves) ≡ told leaves ++ (if is_visible d o.leaves leaf then dialog_leaf desc d o overwriting leaf else [])
  told-step leaf leaves = step (is_visible d o.leaves leaf)
    where
      shown : List PlacedNode
      shown = filter (is_visible d o.leaves) leaves

      step : (b : Bool) → flat_map (dialog_leaf desc d o overwriting) (reverse (if b then leaf ∷ shown else shown))
          ≡ flat_map (dialog_leaf desc d o overwriting) (reverse shown) ++ (if b then dialog_leaf desc d o overwriting leaf else [])
      step true =
          ap (flat_map (dialog_leaf desc d o overwriting)) (reverse-step leaf shown)
          ∙ flat_map-append (dialog_leaf desc d o overwriting) (reverse shown) (leaf ∷ [])
          ∙ ap (λ t. flat_map (dialog_leaf desc d o overwriting) (reverse shown) ++ t) (append-nil (dialog_leaf desc d o overwriting leaf))
      step false = sym (append-nil (flat_map (dialog_leaf desc d o overwriting) (reverse shown)))

  leaves-shown : (leaves : List PlacedNode) → All (IsSoundLeaf d) leaves
      → ShowsSame (leaves_layers env (dialog_canvas desc o d) (map (placed_as d m.leaves m) leaves)) (told leaves)
  leaves-shown [] sound = same_refl []
  leaves-shown (leaf ∷ leaves) sound =
      rw (told-step leaf leaves)
      (same_append (leaves_layers env (dialog_canvas desc o d) (map (placed_as d m.leaves m) leaves)) (told leaves) (tree_layers leaf)
      (if is_visible d o.leaves leaf then dialog_leaf desc d o overwriting leaf else [])
      (leaves-shown leaves (All-tail (IsSoundLeaf d) leaf leaves sound)) (leaf-shown leaf (All-head (IsSoundLeaf d) leaf leaves sound)))

-- ---- sound descriptions

filter_short : (p : Node → Bool) (xs : List Node) → length (filter p xs) ≤ length xs
filter_short p [] = omega arith
filter_short p (x ∷ xs) = step (p x) (filter_short p xs)
  where
    step : (b : Bool) → length (filter p xs) ≤ length xs → length (if b then x ∷ filter p xs else filter p xs) ≤ length (x ∷ xs)
    step true h = omega arith
    step false h = omega arith

-- the panes around a leaf are few, and none lies far away
record HasNearPanes (leaf : PlacedNode) : Type 0 where
  pub corners : All IsPaneNear leaf.panes
  pub few : length leaf.panes ≤ 64

near_panes : (panes views : List Node) → All IsPaneNear panes → All IsPaneNear views → length panes + length views ≤ 64
    → All HasNearPanes (leaves_in panes views)
near_panes panes [] before all few = All-nil HasNearPanes
near_panes panes (view ∷ views) before all few =
    step (is_pane view.kind) (λ opened corners fits. near_panes opened views corners (All-tail IsPaneNear view views all) fits)
  where
    around : List Node
    around = open_at view.depth panes

    corners : All IsPaneNear around
    corners = All-filter (λ pane. nat_lt pane.depth view.depth) IsPaneNear panes before

    short : length around ≤ length panes
    short = filter_short (λ pane. nat_lt pane.depth view.depth) panes

    step : (b : Bool) → ((opened : List Node) → All IsPaneNear opened → length opened + length views ≤ 64
        → All HasNearPanes (leaves_in opened views))
        → All HasNearPanes (if b then leaves_in (if b then view ∷ around else around) views
        else record { node = view; panes = around } ∷ leaves_in (if b then view ∷ around else around) views)
    step true later = later (view ∷ around) (All-cons IsPaneNear view around (All-head IsPaneNear view views all) corners)
        (omega (arith, few, short))
    step false later =
        All-cons HasNearPanes (record { node = view; panes = around }) (leaves_in around views)
        (record { corners = corners; few = omega (arith, few, short) })
        (later around corners (omega (arith, few, short)))

limited_near : (node : Node) → IsLimited node → IsPaneNear node
limited_near node limited =
    record { x = record { low = limited.x.0; high = limited.x.1 }; y = record { low = limited.y.0; high = limited.y.1 } }

-- the views of a dialog have one default button at most
abbrev pub HasOneDefault : Dialog → Type 0
HasOneDefault d = AllPairs (λ view other. IsTrue (is_default view) → IsTrue (is_default other) → ⊥) d.views

views_rising : (d : Dialog) → IsLawfulDialog d → AreRising d.views
views_rising d lawful = pairs_rest (λ node later. node.id.0 < later.id.0) d.node d.views lawful.rising

sound_leaves : (d : Dialog) → IsLawfulDialog d → HasOneDefault d → All (IsSoundLeaf d) (leaf_list d.views)
sound_leaves d lawful one =
    let near : All HasNearPanes (leaf_list d.views) =
    near_panes [] d.views (All-nil IsPaneNear) (weaken IsLimited IsPaneNear limited_near d.views
    (All-tail IsLimited d.node d.views lawful.limits)) (omega (arith, lawful.count)) in
    let first : All (IsOfFirst is_default (leaf_list d.views)) (leaf_list d.views) =
    one-first is_default [] d.views (views_rising d lawful) one in
    λ k x less. record {
      lies = lawful.places k x less;
      corners = (near k x less).corners;
      few = (near k x less).few;
      default = first k x less;
    }

module _ (desc : Desc) (d : Dialog) (lawful : IsLawfulDialog d) (one : HasOneDefault d) (o : OpenDialog) (overwriting : List Id) (m : Modal)
    (work : IsAtWork o overwriting m) (env : Env) (lent : IsLentBy d m env) (of : IsOfDialog env)
    (at : IsSmall o.origin.x × IsSmall o.origin.y) where
  -- what the views of the open dialog show is what the machine's layers of its leaves show
  pub views-same : ShowsSame (leaves_layers env (dialog_canvas desc o d) (tree_of d m))
      (flat_map (dialog_leaf desc d o overwriting) (reverse (filter (is_visible d o.leaves) (leaf_list d.views))))
  views-same = leaves-shown desc d (views_rising d lawful) o overwriting m work env lent of at (leaf_list d.views)
      (sound_leaves d lawful one)
