-- The faces of leaves, in the colours that a dialog's palettes lead to.
use Rattle.std.proofs.Common.{◌≡◌, ℕ, Bool, true, false, ◌&&◌, ◌+◌, ◌==◌, List, [], ◌∷◌, ◌++◌, Option, Some, None, slice_get, refl, ap}
use Rattle.tv_cells.specs.Glyph.{glyph, shown}
use Rattle.tv_model.specs.declared.kind.Kind.{Kind}
use Rattle.tv_model.specs.declared.kind.Kind.TheVariants as kinds
use Rattle.tv_model.specs.declared.kind.MarkedText.{MarkedText}
use Rattle.tv_model.specs.Controls.Shortcut.{ClusterKind, Boxes, Radios}
use Rattle.tv_model.specs.Screen.Faces.{button_cells, button_role, text_face, text_row}
use Rattle.tv_palette.proofs.ColourLemmas.{leads_through}
use Rattle.tv_palette.specs.Attributes.{attribute_of}
use Rattle.tv_palette.specs.Chain.{coloured}
use Rattle.tv_palette.specs.Palettes.{colour_in, owners_of_part}
use Rattle.tv_palette.specs.declared.role.Owner.TheVariants as owners
use Rattle.tv_palette.specs.declared.role.Role.TheVariants as roles
use Rattle.tv_palette.specs.declared.role.ClusterRole.TheVariants as cluster
use Rattle.tv_model.specs.Controls.Contents.{Content, text_at}
use Rattle.tv_model.specs.Kinds.ListBox.{chosen_of, list_face, list_role}
use Rattle.tv_model.specs.Kinds.InputLine.{edit_of, input_cell, input_face}
use Rattle.tv_model.specs.Kinds.Cluster.{selected_of, is_marked, box_before, cluster_face, cluster_role, cluster_row}
use Rattle.tv_model.specs.Controls.Look.{Look, is_mark_from}
use Rattle.tv_model.specs.Kinds.Button.{button_face, button_look}
use Rattle.tv_model.specs.Kinds.Label.{label_face, label_role}
use Rattle.tv_machine.specs.Screen.LeafFaces.{leaf_faces}

module _ (chain : List (List ℕ)) (of_dialog : coloured chain ≡ owners_of_part owners.Dialog) where
  label-same : (look : Look) (text : MarkedText) → label_face (colour_in chain) look text ≡ label_face attribute_of look text
  label-same look text =
      λ i x y. shown (text_row text.text x) (leads_through (roles.Label (label_role look (is_mark_from 0 text.mark x))) chain of_dialog i)

  button-same : (look : Look) (width : ℕ) (text : MarkedText)
      → button_face (colour_in chain) look width text ≡ button_face attribute_of look width text
  button-same look width text =
      λ i. button_cells width text.text text.mark look.is_default_now
      (leads_through (roles.Button (button_role (button_look look) true)) chain of_dialog i)
      (leads_through (roles.Button (button_role (button_look look) false)) chain of_dialog i)

  input-same : (look : Look) (width : ℕ) (c : Content) → input_face (colour_in chain) look width c ≡ input_face attribute_of look width c
  input-same look width c =
      λ i x y. shown (input_cell width look.is_focused (edit_of c) x).ch
      (leads_through (roles.Input (input_cell width look.is_focused (edit_of c) x).role) chain of_dialog i)

  row-same : (kind : ClusterKind) (is_selected marked : Bool) (item : Option MarkedText) (x : ℕ)
      → cluster_row (colour_in chain) kind is_selected marked item x ≡ cluster_row attribute_of kind is_selected marked item x
  row-same kind is_selected marked None x = ap (glyph 32) (leads_through (roles.Cluster cluster.Normal) chain of_dialog)
  row-same kind is_selected marked (Some text) x =
      ap (shown (text_row (box_before kind marked ++ text.text) x))
      (leads_through (roles.Cluster (cluster_role (is_mark_from 4 text.mark x) is_selected)) chain of_dialog)

  cluster-same : (kind : ClusterKind) (look : Look) (items : List MarkedText) (c : Content)
      → cluster_face (colour_in chain) kind look items c ≡ cluster_face attribute_of kind look items c
  cluster-same kind look items c =
      λ i x y. row-same kind (look.is_focused && (selected_of kind c == y + 1)) (is_marked c.value (y + 1)) (slice_get items y) x i

  list-same : (look : Look) (items : List (List ℕ)) (c : Content)
      → list_face (colour_in chain) look items c ≡ list_face attribute_of look items c
  list-same look items c =
      λ i x y. shown (text_row (text_at items ((chosen_of c).top + y)) x)
      (leads_through (roles.List (list_role look.is_focused ((chosen_of c).item == (chosen_of c).top + y))) chain of_dialog i)

  -- a leaf of a dialog has its machine's colours
  pub faces-coloured : (look : Look) (width : ℕ) (kind : Kind) (c : Content)
      → leaf_faces (colour_in chain) owners.Dialog look width kind c ≡ leaf_faces attribute_of owners.Dialog look width kind c
  faces-coloured look width (kinds.Text text) c =
      ap (λ a. text_face text.text a ∷ []) (leads_through (roles.StaticText owners.Dialog) chain of_dialog)
  faces-coloured look width (kinds.Label label) c = ap (λ f. f ∷ []) (label-same look label.text)
  faces-coloured look width (kinds.Button button) c = ap (λ f. f ∷ []) (button-same look width button.text)
  faces-coloured look width (kinds.Input input) c = ap (λ f. f ∷ []) (input-same look width c)
  faces-coloured look width (kinds.CheckBoxes boxes) c = ap (λ f. f ∷ []) (cluster-same Boxes look boxes.items c)
  faces-coloured look width (kinds.RadioButtons radios) c = ap (λ f. f ∷ []) (cluster-same Radios look radios.items c)
  faces-coloured look width (kinds.List list) c = ap (λ f. f ∷ []) (list-same look list.items c)
  faces-coloured look width _ c = refl
