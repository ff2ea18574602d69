-- No cell of a screen is a line feed.
use Rattle.std.proofs.Common.{◌≡◌, ℕ, ◌-◌, ◌+◌, ◌==◌, ◌&&◌, ◌||◌, not, Bool, true, false, List, [], ◌∷◌, ◌++◌, filter, flat_map, map, reverse, Option, Some, None, refl, sym, ap, subst, ◌∙◌}
use Rattle.std.specs.Prelude.{is_none, pos, slice_get, slice_index_or, if◌then◌else◌}
use Rattle.std.specs.List.{AllByRecursion}
use Rattle.std.proofs.lemmas.Bool.{eqb-true}
use Rattle.unicode_width.specs.Width.{char_width}
use Rattle.tv_cells.specs.Glyph.{Glyph, glyph, is_narrow, shaded, shown, shown_char}
use Rattle.tv_cells.specs.Layers.{Layer, Painted, Shadow, cell_of, covers, is_in}
use Rattle.tv_cells.specs.Canvas.{aside, face_at}
use Rattle.tv_cells.specs.Rectangle.{shifted, sized}
use Rattle.tv_cells.specs.declared.canvas.Canvas.{Canvas}
use Rattle.tv_cells.specs.declared.rect.Point.{Point}
use Rattle.tv_palette.specs.declared.role.BarRole.TheVariants as bar
use Rattle.tv_palette.specs.Attributes.{attribute_of}
use Rattle.tv_palette.specs.declared.role.Owner.{Owner}
use Rattle.tv_palette.specs.declared.role.Owner.TheVariants as owners
use Rattle.tv_palette.specs.declared.role.Role.{Role}
use Rattle.tv_machine.proofs.ListLemmas.{bool_cases}
use Rattle.tv_machine.specs.Leaves.{leaf_list}
use Rattle.tv_machine.specs.Dialog.Rules.{is_visible}
use Rattle.tv_machine.specs.Screen.Bars.{Spot, bar_cell, box_face, box_height, box_width, item_cell, status_cell, status_spot, title_cell, title_spot}
use Rattle.tv_machine.specs.Screen.Bodies.{body_layers, window_body_layers, window_of}
use Rattle.tv_machine.specs.Screen.Layers.{box_layers, dialog_layers, dialog_leaf, layers_of, open_layers, stack_layers, window_layers, window_leaf}
use Rattle.tv_machine.specs.Screen.LeafFaces.{leaf_faces}
use Rattle.tv_machine.specs.State.{OpenDialog, OpenMenu, OpenWindow, State}
use Rattle.tv_laws.specs.Sheets.{AreBare, HasNoSheets, IsBare}
use Rattle.std.proofs.lemmas.List.Elements.{All-head, All-tail}
use Rattle.tv_model.specs.declared.desc.Desc.{Desc}
use Rattle.tv_model.specs.declared.desc.Dialog.{Dialog}
use Rattle.tv_model.specs.declared.desc.Menu.{Menu}
use Rattle.tv_model.specs.declared.desc.MenuItem.{MenuItem}
use Rattle.tv_model.specs.declared.desc.StatusItem.{StatusItem}
use Rattle.tv_model.specs.declared.desc.Window.{Window}
use Rattle.tv_model.specs.declared.kind.Kind.{Kind}
use Rattle.tv_model.specs.declared.kind.Kind.TheVariants as kinds
use Rattle.tv_model.specs.declared.kind.MarkedText.{MarkedText}
use Rattle.tv_model.specs.declared.node.Id.{Id}
use Rattle.tv_model.specs.Description.Heads.{dialog_head, window_head}
use Rattle.tv_model.specs.Description.Numbers.{natural}
use Rattle.tv_model.specs.Controls.Contents.{Content}
use Rattle.tv_model.specs.Controls.Look.{Look}
use Rattle.tv_model.specs.Controls.Shortcut.{ClusterKind, Boxes, Radios}
use Rattle.tv_model.specs.Kinds.Cluster.{cluster_row}
use Rattle.tv_model.specs.Screen.Faces.{FaceOf, FrameLook, border, frame_face, frame_look, is_side, top_row}

-- ---- cells

abbrev pub IsClear : Glyph → Type 0
IsClear cell = (cell.ch == 10) ≡ false

feed_hidden : (shown_char 10 == 10) ≡ false
unfolding char_width
feed_hidden = refl

char_clear : (ch : ℕ) → (shown_char ch == 10) ≡ false
char_clear ch =
    bool_cases (ch == 10) (λ b. (ch == 10) ≡ b → (shown_char ch == 10) ≡ false) (λ t is. ap (λ c. shown_char c == 10) (eqb-true ch 10 is) ∙ feed_hidden)
    (λ f is. bool_cases (is_narrow ch) (λ b. ((if b then ch else 32) == 10) ≡ false) (λ narrow. is) (λ other. refl)) refl

shown_clear : (ch attr : ℕ) → IsClear (shown ch attr)
shown_clear ch attr = char_clear ch

-- ---- faces

abbrev pub IsClearFace : FaceOf → Type 0
IsClearFace face = (x y : ℕ) → IsClear (face x y)

frame_clear : (w h : ℕ) (title : List ℕ) (look : FrameLook) → IsClearFace (frame_face w h title look)
frame_clear w h title look x y =
    bool_cases (y == 0) (λ b. IsClear (if b then shown (top_row w title look x) look.edge else if y + 1 == h then shown (border look.is_active w x) look.edge else if is_side w x then shown 124 look.edge else glyph 32 look.inside))
    (λ top. shown_clear (top_row w title look x) look.edge)
    (λ below. bool_cases (y + 1 == h) (λ b. IsClear (if b then shown (border look.is_active w x) look.edge else if is_side w x then shown 124 look.edge else glyph 32 look.inside))
    (λ bottom. shown_clear (border look.is_active w x) look.edge)
    (λ above. bool_cases (is_side w x) (λ b. IsClear (if b then shown 124 look.edge else glyph 32 look.inside)) (λ side. shown_clear 124 look.edge) (λ inside. refl)))

title_clear : (d : Desc) (place : Option ℕ) (spot : Option (Spot Menu)) → IsClear (title_cell place spot)
title_clear d place None = refl
title_clear d place (Some spot) = char_clear _

status_clear : (is_enabled : StatusItem → Bool) (spot : Option (Spot StatusItem)) → IsClear (status_cell is_enabled spot)
status_clear is_enabled None = refl
status_clear is_enabled (Some spot) = char_clear _

item_clear : (is_current : Bool) (item : Option MenuItem) (column : ℕ) → IsClear (item_cell is_current item column)
item_clear is_current None column = char_clear _
item_clear is_current (Some item) column = char_clear _

box_clear : (menu : Menu) (current : ℕ) → IsClearFace (box_face menu current)
box_clear menu current x y =
    bool_cases ((y == 0) || (y + 1 == box_height menu)) (λ b. IsClear (if b then bar_cell (border false (box_width menu) x) bar.Normal else if is_side (box_width menu) x then bar_cell 124 bar.Normal else item_cell (y - 1 == current) (slice_get menu.items (y - 1)) (x - 1)))
    (λ edge. char_clear _)
    (λ row. bool_cases (is_side (box_width menu) x) (λ b. IsClear (if b then bar_cell 124 bar.Normal else item_cell (y - 1 == current) (slice_get menu.items (y - 1)) (x - 1))) (λ side. char_clear _)
    (λ inside. item_clear (y - 1 == current) (slice_get menu.items (y - 1)) (x - 1)))

row_clear : (colour : Role → ℕ) (kind : ClusterKind) (is_selected is_marked : Bool) (item : Option MarkedText) (x : ℕ) → IsClear (cluster_row colour kind is_selected is_marked item x)
row_clear colour kind is_selected is_marked None x = refl
row_clear colour kind is_selected is_marked (Some text) x = char_clear _

faces_clear : (colour : Role → ℕ) (owner : Owner) (look : Look) (width : ℕ) (kind : Kind) (c : Content) → AllByRecursion IsClearFace (leaf_faces colour owner look width kind c)
faces_clear colour owner look width (kinds.Window head) c = tt
faces_clear colour owner look width (kinds.Dialog head) c = tt
faces_clear colour owner look width (kinds.Pane pane) c = tt
faces_clear colour owner look width (kinds.Text text) c = (λ x y. char_clear _, tt)
faces_clear colour owner look width (kinds.Label label) c = (λ x y. char_clear _, tt)
faces_clear colour owner look width (kinds.Button button) c = (λ x y. char_clear _, tt)
faces_clear colour owner look width (kinds.Input input) c = (λ x y. char_clear _, tt)
faces_clear colour owner look width (kinds.CheckBoxes boxes) c = (λ x y. row_clear colour Boxes _ _ (slice_get boxes.items y) x, tt)
faces_clear colour owner look width (kinds.RadioButtons radios) c = (λ x y. row_clear colour Radios _ _ (slice_get radios.items y) x, tt)
faces_clear colour owner look width (kinds.List list) c = (λ x y. char_clear _, tt)

-- ---- layers

abbrev pub IsClearLayer : Layer → Type 0
IsClearLayer (Painted c width height face) = IsClearFace face
IsClearLayer (Shadow c r) = Unit {0}

abbrev pub AreClear : List Layer → Type 0
AreClear layers = AllByRecursion IsClearLayer layers

appended : (xs ys : List Layer) → AreClear xs → AreClear ys → AreClear (xs ++ ys)
appended [] ys first later = later
appended (x ∷ xs) ys first later = (first.0, appended xs ys first.1 later)

flattened : {A : Type 0} (f : A → List Layer) → ((x : A) → AreClear (f x)) → (xs : List A) → AreClear (flat_map f xs)
flattened f each [] = tt
flattened f each (x ∷ xs) = appended (f x) (flat_map f xs) (each x) (flattened f each xs)

painted : (c : Canvas) (width height : ℕ) (faces : List FaceOf) → AllByRecursion IsClearFace faces → AreClear (map (Painted c width height) faces)
painted c width height [] clear = tt
painted c width height (face ∷ faces) clear = (clear.0, painted c width height faces clear.1)

boxes_clear : (d : Desc) (o : Option OpenMenu) → AreClear (box_layers d o)
boxes_clear d None = tt
boxes_clear d (Some o) = by (slice_get d.menus o.menu) refl
  where
    by : (found : Option Menu) → slice_get d.menus o.menu ≡ found → AreClear (box_layers d (Some o))
    by None e = rw e tt
    by (Some menu) e = rw e (box_clear menu o.item, (tt, tt))

-- without sheets, which may have any characters
dialog_clear : (d : Desc) (o : OpenDialog) (overwriting : List Id) (dialog : Dialog) → o.sheet ≡ None → AreClear (dialog_layers d o overwriting dialog)
dialog_clear d o overwriting dialog bare =
    appended (flat_map (dialog_leaf d dialog o overwriting) (reverse (filter (is_visible dialog o.leaves) (leaf_list dialog.views)))) (body_layers d o.origin o.sheet dialog)
    (flattened (dialog_leaf d dialog o overwriting) (λ leaf. painted _ _ _ _ (faces_clear _ _ _ _ leaf.node.kind _)) (reverse (filter (is_visible dialog o.leaves) (leaf_list dialog.views))))
    (subst (λ sheet. AreClear (body_layers d o.origin sheet dialog)) (sym bare)
    (frame_clear (natural dialog.node.w) (natural (dialog_head dialog).h) (dialog_head dialog).title (frame_look attribute_of owners.Dialog 0 true), (tt, tt)))

open_clear : (d : Desc) (overwriting : List (List Id)) (o : Option OpenDialog) → IsBare o → AreClear (open_layers d overwriting o)
open_clear d overwriting None bare = tt
open_clear d overwriting (Some o) bare = by (slice_get d.dialogs o.place) refl
  where
    by : (found : Option Dialog) → slice_get d.dialogs o.place ≡ found → AreClear (open_layers d overwriting (Some o))
    by None e = rw e tt
    by (Some dialog) e = rw e (dialog_clear d o (slice_index_or overwriting o.place []) dialog bare)

window_clear : (d : Desc) (is_active : Bool) (origin : Point) (window : Window) → AreClear (window_layers d is_active origin None window)
window_clear d is_active origin window =
    appended (flat_map (window_leaf d origin) (reverse (leaf_list window.views))) (window_body_layers d is_active origin None window)
    (flattened (window_leaf d origin) (λ leaf. painted _ _ _ _ (faces_clear _ _ _ _ leaf.node.kind _)) (reverse (leaf_list window.views)))
    (frame_clear (natural window.node.w) (natural (window_head window).h) (window_head window).title (frame_look attribute_of owners.Window (natural (window_head window).number) is_active), (tt, tt))

abbrev IsWindowBare : OpenWindow → Type 0
IsWindowBare window = window.sheet ≡ None

stack_clear : (d : Desc) (is_active : Bool) (windows : List OpenWindow) → AreBare windows → AreClear (stack_layers d is_active windows)
stack_clear d is_active [] bare = tt
stack_clear d is_active (o ∷ behind) bare = by (window_of d o.id) refl (stack_clear d false behind (All-tail IsWindowBare o behind bare))
  where
    by : (found : Option Window) → window_of d o.id ≡ found → AreClear (stack_layers d false behind) → AreClear (stack_layers d is_active (o ∷ behind))
    by None e rest = rw e rest
    by (Some window) e rest = rw e (appended (window_layers d is_active o.origin o.sheet window) (stack_layers d false behind)
        (subst (λ sheet. AreClear (window_layers d is_active o.origin sheet window)) (sym (All-head IsWindowBare o behind bare)) (window_clear d is_active o.origin window)) rest)

layers_clear : (d : Desc) (s : State) → HasNoSheets s → AreClear (layers_of d s)
layers_clear d s bare = (
  (λ x y. title_clear d _ (title_spot d x)),
  (
    (λ x y. status_clear _ (status_spot d x)),
    appended (box_layers d s.menu) _ (boxes_clear d s.menu)
        (appended (open_layers d s.overwriting s.dialog) _ (open_clear d s.overwriting s.dialog bare.1)
        (appended (stack_layers d (is_none s.dialog) s.windows) _ (stack_clear d (is_none s.dialog) s.windows bare.0) ((λ x y. char_clear _), tt))),
  ),
)

-- ---- the screen

cell_clear : (layers : List Layer) (column row : ℕ) → AreClear layers → IsClear (cell_of layers column row)
cell_clear [] column row clear = refl
cell_clear (Painted c width height face ∷ layers) column row clear =
    bool_cases (covers c (sized width height) column row) (λ b. IsClear (if b then face_at c face column row else cell_of layers column row)) (λ over. clear.0 _ _) (λ beside. cell_clear layers column row clear.1)
cell_clear (Shadow c r ∷ layers) column row clear =
    bool_cases (covers c (shifted r aside) column row && not (is_in (shifted r c.origin) (pos column) (pos row))) (λ b. IsClear (if b then shaded (cell_of layers column row) else cell_of layers column row))
    (λ over. cell_clear layers column row clear.1) (λ beside. cell_clear layers column row clear.1)

-- each cell of a screen without sheets
pub screen_clear : (d : Desc) (s : State) (column row : ℕ) → HasNoSheets s → IsClear (cell_of (layers_of d s) column row)
screen_clear d s column row bare = cell_clear (layers_of d s) column row (layers_clear d s bare)
