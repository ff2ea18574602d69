-- What an input line draws: a screen that shows a face shows every face of the same cells.
use Rattle.std.proofs.Common.{◌≡◌, ◌∙◌, ℕ, pos, Bool, true, false, IsTrue, List, [], ◌∷◌, refl, sym, ap, subst, if◌then◌else◌}
use Rattle.std.proofs.lemmas.Bool.{false≢true}
use Rattle.std.specs.Int.{int_gap}
use Rattle.tv_cells.specs.Canvas.{sub}
use Rattle.tv_cells.specs.Glyph.{shown}
use Rattle.tv_cells.specs.Layers.{Layer, Painted, Shows, cell_of, covers, Lays}
use Rattle.tv_cells.specs.Picture.{IsAlike, Picture}
use Rattle.tv_cells.specs.Rectangle.{sized}
use Rattle.tv_cells.specs.declared.canvas.Canvas.{Canvas}
use Rattle.tv_model.specs.declared.kind.Kind.{Kind}
use Rattle.tv_model.specs.declared.kind.Kind.TheVariants as kinds
use Rattle.tv_model.specs.Kinds.InputLine.{Edit, edit_content, input_cell, input_face}
use Rattle.tv_model.specs.Description.Numbers.{natural}
use Rattle.tv_model.specs.Screen.Faces.{FaceOf}
use Rattle.tv_palette.specs.Palettes.{colour_in}
use Rattle.tv_palette.specs.declared.role.InputRole.{InputRole}
use Rattle.tv_palette.specs.declared.role.InputRole.TheVariants as input
use Rattle.tv_palette.specs.declared.role.Role.TheVariants as roles
use Rattle.tv_faces.specs.declared.input.InputColours.{InputColours}
use Rattle.tv_faces.specs.Inputs.{input_attr, colours_of, input_cells, seen_edit}
use Rattle.tv_model.specs.Controls.Look.{Look}
use Rattle.tv_view.specs.Colours.{colour, has_focus, lent_look}
use Rattle.tv_view.specs.Drawing.{leaf_layers}
use Rattle.tv_view.specs.declared.env.Env.{Env}
use Rattle.tv_view.specs.Core.{Core}
use Rattle.tv_model.specs.Description.Rectangles.{place_of_node}
use Rattle.tv_controls.specs.InputLine.{input_leaf, is_input}

shows-alike : (c : Canvas) (width height : ℕ) (f g : FaceOf) (layers : List Layer) (p : Picture) → ((x y : ℕ) → f x y ≡ g x y)
    → Shows (Painted c width height f ∷ layers) p → Shows (Painted c width height g ∷ layers) p
shows-alike c width height f g layers p same shows = record {
  each = λ column row on. shows.each column row on
      ∙ ap (λ cell. if covers c (sized width height) column row then cell else cell_of layers column row)
      (same (int_gap c.origin.x (pos column)) (int_gap c.origin.y (pos row)));
}

attr_of-colours : (chain : List (List ℕ)) (role : InputRole) → input_attr (colours_of chain) role ≡ colour_in chain (roles.Input role)
attr_of-colours chain input.Normal = refl
attr_of-colours chain input.SelectedText = refl
attr_of-colours chain input.Arrow = refl
attr_of-colours chain input.Cursor = refl

-- the colours of a chain are those of the roles
face-cells : (env : Env) (look : Look) (width : ℕ) (e : Edit) (x y : ℕ)
    → input_cells (colours_of env.chain.now) width look.is_focused (seen_edit e.text e.cursor e.is_whole) x y
    ≡ input_face (colour env) look width (edit_content e) x y
face-cells env look width e x y =
    ap (shown (input_cell width look.is_focused e x).ch) (attr_of-colours env.chain.now (input_cell width look.is_focused e x).role)

-- the cells of an input by what is read of it
pub painted-alike : (at place : Canvas) (width w : ℕ) (colours cs : InputColours) (is_focused f : Bool) (text t : List ℕ) (cursor k : ℕ) (is_whole b : Bool)
    → at ≡ place → width ≡ w → colours ≡ cs → is_focused ≡ f → text ≡ t → cursor ≡ k → is_whole ≡ b
    → Painted at width 1 (input_cells colours width is_focused (seen_edit text cursor is_whole))
    ≡ Painted place w 1 (input_cells cs w f (seen_edit t k b))
painted-alike at place width w colours cs is_focused f text t cursor k is_whole b e0 e1 e2 e3 e4 e5 e6 =
    rw (e0, e1, e2, e3, e4, e5, e6) refl

module _ (env : Env) (canvas : Canvas) (core : Core) (e : Edit) (shown_now : IsTrue core.is_shown) where
  abbrev width : ℕ
  width = natural core.node.w

  abbrev face : FaceOf
  face = input_face (colour env) (lent_look env (input_leaf core e)) width (edit_content e)

  -- the core of another kind
  abbrev of_kind : Kind → Core
  of_kind kind = record core { node = record core.node { kind = kind } }

  layers-by : (kind : Kind) → IsTrue (is_input kind) → (b : Bool) → IsTrue b
      → leaf_layers env canvas (input_leaf (record (of_kind kind) { is_shown = b }) e)
      ≡ Painted (sub canvas (place_of_node (of_kind kind).node)) width 1 (input_face (colour env) (lent_look env (input_leaf (of_kind kind) e)) width (edit_content e)) ∷ []
  unfolding leaf_layers
  layers-by (kinds.Input declared) own true is = refl
  layers-by (kinds.Input declared) own false is = absurd (false≢true is)
  layers-by _ own b is = absurd (false≢true own)

  -- what shows an input's cells over a picture draws the input
  pub input_lays : IsTrue (is_input core.node.kind) → (old new : Picture) → IsAlike old new
      → ((layers : List Layer) → Shows layers old
      → Shows (Painted (sub canvas (place_of_node core.node)) width 1
      (input_cells (colours_of env.chain.now) width (has_focus env core.node.id) (seen_edit e.text e.cursor e.is_whole)) ∷ layers) new)
      → Lays (leaf_layers env canvas (input_leaf core e)) old new
  input_lays own old new size shows =
      subst (λ layers. Lays layers old new) (sym (layers-by core.node.kind own core.is_shown shown_now)) (record {
        size = size;
        shows = λ below under.
            let alike = face-cells env (lent_look env (input_leaf core e)) width e in
            shows-alike (sub canvas (place_of_node core.node)) width 1 _ face below new alike (shows below under);
      })
