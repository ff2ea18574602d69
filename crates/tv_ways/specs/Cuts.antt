-- Texts of which a part is never shown.
use Rattle.std.specs.Prelude.{[], ℕ, Bool, false, not, ◌||◌, List, ◌∷◌, ◌++◌, drop, flat_map, Option, Some}
use Rattle.std.specs.Prelude.{None, ◌+◌, ◌-◌, ◌==◌, nat_le, if◌then◌else◌}
use Rattle.std.specs.List.{list_any}
use Rattle.tv_model.specs.declared.desc.Desc.{Desc}
use Rattle.tv_model.specs.declared.kind.Kind.{Kind}
use Rattle.tv_model.specs.declared.kind.Kind.TheVariants as kinds
use Rattle.tv_model.specs.declared.kind.MarkedText.{MarkedText}
use Rattle.tv_model.specs.declared.node.Id.{Id}
use Rattle.tv_model.specs.declared.node.Node.{Node}
use Rattle.tv_model.specs.Description.Heads.{all_nodes}
use Rattle.tv_model.specs.Description.Numbers.{natural}
use Rattle.tv_model.specs.Screen.Faces.{pieces_of}
use Rattle.tv_ways.specs.declared.cuts.Cut.{Cut}
use Rattle.tv_ways.specs.declared.cuts.Lost.TheVariants as lost

-- ---- a text in a row of so many columns

-- a character other than a space stands behind them
abbrev pub is_cut : ℕ → List ℕ → Bool
is_cut width text = list_any (λ ch. not (ch == 32)) (drop width text)

-- the marked letter stands behind them
abbrev pub is_letter_cut : ℕ → Option ℕ → Bool
is_letter_cut width None = false
is_letter_cut width (Some place) = nat_le width place

-- the first rows show the pieces of a text, one each. Those behind the last row are not shown at all
abbrev pub are_pieces_cut : ℕ → ℕ → List (List ℕ) → Bool
are_pieces_cut width rows [] = false
are_pieces_cut width rows (piece ∷ pieces) =
    is_cut (if rows == 0 then 0 else width) piece || are_pieces_cut width (rows - 1) pieces

-- ---- what is lost of the texts of a node, which count from 0

abbrev pub character_lost : Id → ℕ → Cut
character_lost i text = record { id = i; text = text; lost = lost.Character }

abbrev pub letter_lost : Id → ℕ → Cut
letter_lost i text = record { id = i; text = text; lost = lost.Letter }

-- the cut, where there is one
abbrev pub cut_if : Bool → Cut → List Cut
cut_if is_lost cut = if is_lost then cut ∷ [] else []

-- of a text that may mark a letter
abbrev pub cuts_of_marked : Id → ℕ → ℕ → MarkedText → List Cut
cuts_of_marked i width at text =
    cut_if (is_cut width text.text) (character_lost i at)
    ++ cut_if (is_letter_cut width text.mark) (letter_lost i at)

-- of items, counted from a number on
abbrev pub cuts_of_items : Id → ℕ → ℕ → List MarkedText → List Cut
cuts_of_items i width at [] = []
cuts_of_items i width at (item ∷ items) =
    cuts_of_marked i width at item ++ cuts_of_items i width (at + 1) items

-- of texts without marks, counted from a number on
abbrev pub cuts_of_rows : Id → ℕ → ℕ → List (List ℕ) → List Cut
cuts_of_rows i width at [] = []
cuts_of_rows i width at (row ∷ rows) =
    cut_if (is_cut width row) (character_lost i at) ++ cuts_of_rows i width (at + 1) rows

-- ---- what each kind leaves to its texts

-- a title has all columns but twelve, for the corners, the close mark and the number
abbrev pub title_width : ℕ → ℕ
title_width width = width - 12

-- a button's text has all but its brackets
abbrev pub button_width : ℕ → ℕ
button_width width = width - 2

-- an item of a cluster has all but its box
abbrev pub item_width : ℕ → ℕ
item_width width = width - 4

-- the cuts of a node of this width by its kind. An input shows each part of its text in turn
abbrev pub cuts_of_kind : Id → ℕ → Kind → List Cut
cuts_of_kind i width (kinds.Window head) =
    cut_if (is_cut (title_width width) head.title) (character_lost i 0)
cuts_of_kind i width (kinds.Dialog head) =
    cut_if (is_cut (title_width width) head.title) (character_lost i 0)
cuts_of_kind i width (kinds.Text shown) =
    cut_if (are_pieces_cut width (natural shown.h) (pieces_of shown.text)) (character_lost i 0)
cuts_of_kind i width (kinds.Label label) = cuts_of_marked i width 0 label.text
cuts_of_kind i width (kinds.Button button) = cuts_of_marked i (button_width width) 0 button.text
cuts_of_kind i width (kinds.CheckBoxes boxes) = cuts_of_items i (item_width width) 0 boxes.items
cuts_of_kind i width (kinds.RadioButtons radios) = cuts_of_items i (item_width width) 0 radios.items
cuts_of_kind i width (kinds.List list) = cuts_of_rows i width 0 list.items
cuts_of_kind i width (kinds.Input input) = []
cuts_of_kind i width (kinds.Pane pane) = []

-- the cuts of a window, a dialog or a view
abbrev pub cuts_of_node : Node → List Cut
cuts_of_node node = cuts_of_kind node.id (natural node.w) node.kind

-- the cuts of a description, in its order
abbrev pub cuts_of : Desc → List Cut
cuts_of d = flat_map cuts_of_node (all_nodes d)
