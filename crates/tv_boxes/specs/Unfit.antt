-- What of a box can't be shown: all of it, in the order in which it is told.
use Rattle.std.specs.Prelude.{ℕ, ℤ, pos, Bool, true, false, ◌==◌, not, int_lt, nat_lt, List, [], ◌∷◌, ◌++◌, flat_map, length, Option, Some, None}
use Rattle.std.specs.List.{list_any}
use Rattle.tv_cells.specs.Glyph.{is_narrow}
use Rattle.tv_model.specs.declared.desc.Desc.{Desc}
use Rattle.tv_model.specs.declared.desc.Dialog.{Dialog}
use Rattle.tv_model.specs.declared.kind.Kind.{Kind}
use Rattle.tv_model.specs.declared.kind.Kind.TheVariants as kinds
use Rattle.tv_model.specs.declared.kind.MarkedText.{MarkedText}
use Rattle.tv_model.specs.declared.node.Node.{Node}
use Rattle.tv_model.specs.Description.Numbers.{natural}
use Rattle.tv_boxes.specs.declared.request.BoxKind.{BoxKind}
use Rattle.tv_boxes.specs.declared.request.BoxKind.TheVariants as boxes
use Rattle.tv_boxes.specs.declared.request.Request.{Request}
use Rattle.tv_boxes.specs.declared.unfit.Part.{Part}
use Rattle.tv_boxes.specs.declared.unfit.Part.TheVariants as parts
use Rattle.tv_boxes.specs.declared.unfit.Unfit.{Unfit}
use Rattle.tv_boxes.specs.declared.unfit.Unfit.TheVariants.{Character, Tilde, Long, Start, Most, NoItem, Items, Width, Height, Views, Places}

-- what is told of these
abbrev pub first : List Unfit → Option Unfit
first [] = None
first (what ∷ more) = Some what

abbrev pub if_so : Bool → Unfit → List Unfit
if_so true what = what ∷ []
if_so false what = []

-- ---- texts

abbrev pub unfit_text : Part → List ℕ → List Unfit
unfit_text part text =
    if_so (list_any (λ ch. not (is_narrow ch)) text) (Character part) ++ if_so (nat_lt 120 (length text)) (Long part)

-- a text in which a letter may be marked, between two `~`
abbrev pub unfit_marked : Part → MarkedText → List Unfit
unfit_marked part marked =
    if_so (list_any (λ ch. ch == 126) marked.text) (Tilde part) ++ unfit_text part marked.text

-- ---- fields

-- the text that an input begins with, which takes so many characters at most
abbrev pub unfit_start : List ℕ → ℤ → List Unfit
unfit_start start most = if_so (nat_lt (natural most) (length start)) Start ++ unfit_text parts.Field start

abbrev pub unfit_most : ℤ → List Unfit
unfit_most most = if_so (int_lt most (pos 1)) Most ++ if_so (int_lt (pos 120) most) Most

abbrev pub unfit_input : List ℕ → ℤ → List Unfit
unfit_input start most = unfit_most most ++ unfit_start start most

-- so many items, where there may be at most these
abbrev pub unfit_count : (count most : ℕ) → List Unfit
unfit_count count most = if_so (count == 0) NoItem ++ if_so (nat_lt most count) Items

-- those of check boxes or radio buttons
abbrev pub unfit_items : List MarkedText → List Unfit
unfit_items items = flat_map (unfit_marked parts.Item) items ++ unfit_count (length items) 16

-- those of a list
abbrev pub unfit_rows : List (List ℕ) → List Unfit
unfit_rows items = flat_map (unfit_text parts.Item) items ++ unfit_count (length items) 100

-- ---- a box

abbrev pub unfit_kind : Kind → List Unfit
unfit_kind (kinds.Text shown) = unfit_text parts.Text shown.text
unfit_kind (kinds.Button button) = unfit_marked parts.Label button.text
unfit_kind (kinds.Input input) = unfit_input input.start input.spec.max
unfit_kind (kinds.CheckBoxes marks) = unfit_items marks.items
unfit_kind (kinds.RadioButtons radios) = unfit_items radios.items
unfit_kind (kinds.List list) = unfit_rows list.items
unfit_kind kind = []

abbrev pub unfit_views : List Node → List Unfit
unfit_views views = flat_map (λ view. unfit_kind view.kind) views ++ if_so (nat_lt 64 (length views)) Views

-- a screen of so many columns and rows, of which the first and the last aren't the box's
abbrev pub unfit_screen : (width height : ℤ) → List Unfit
unfit_screen width height = if_so (int_lt (pos 132) width) Width ++ if_so (int_lt (pos 60) height) Height

-- a form, if all else can be shown
abbrev pub unfit_places : BoxKind → List Unfit
unfit_places (boxes.Form fields) = Places ∷ []
unfit_places kind = []

-- the box of the request that has this description
abbrev pub unfit_box : Request → Desc → List Unfit
unfit_box r d =
    unfit_text parts.Title r.title ++ (flat_map (λ dialog. unfit_views dialog.views) d.dialogs
    ++ (unfit_screen d.width d.height ++ unfit_places r.kind))
