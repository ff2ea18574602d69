-- What faces show of texts. A text is told to be cut exactly where its face lacks a character of it.
use Rattle.std.specs.Prelude.{[], ◌≡◌, ◌<◌, ◌≤◌, ℕ, false, ◌↔◌, ◌+◌, ◌-◌, ◌/◌, List, Some, length, nat_lt}
use Rattle.std.specs.Prelude.{slice_get, slice_index_or, if◌then◌else◌, ⊤}
use Rattle.tv_model.specs.declared.kind.Kind.{Kind}
use Rattle.tv_model.specs.declared.kind.Kind.TheVariants as kinds
use Rattle.tv_model.specs.declared.kind.MarkedText.{MarkedText}
use Rattle.tv_model.specs.Controls.Contents.{Content, text_at}
use Rattle.tv_model.specs.Controls.Look.{Look}
use Rattle.tv_model.specs.Controls.Shortcut.{ClusterKind, Boxes, Radios}
use Rattle.tv_model.specs.Description.LawfulNodes.{IsNarrowText}
use Rattle.tv_model.specs.Description.Numbers.{natural}
use Rattle.tv_model.specs.Kinds.Button.{button_face}
use Rattle.tv_model.specs.Kinds.Cluster.{cluster_face}
use Rattle.tv_model.specs.Kinds.Label.{label_face}
use Rattle.tv_model.specs.Kinds.ListBox.{chosen_of, list_face}
use Rattle.tv_model.specs.Screen.Faces.{FaceOf, FrameLook, Row, button_start, cut_title, frame_face}
use Rattle.tv_model.specs.Screen.Faces.{pieces_of, text_face, text_row}
use Rattle.tv_palette.specs.declared.role.Role.{Role}
use Rattle.tv_ways.specs.Cuts.{button_width, is_cut, is_letter_cut, item_width, title_width}

-- ---- what is seen

-- the characters of a row of a face, from one column on and before another, and spaces behind them
abbrev pub seen : FaceOf → ℕ → ℕ → ℕ → Row
seen face y from to k = if nat_lt (from + k) to then (face (from + k) y).ch else 32

-- they are those of the text, but for spaces at its end
abbrev pub ShowsAll : FaceOf → ℕ → ℕ → ℕ → List ℕ → Type 0
ShowsAll face y from to text = (k : ℕ) → seen face y from to k ≡ text_row text k

-- the text isn't told to be cut exactly where all of it is seen
abbrev pub TellsCut : FaceOf → ℕ → ℕ → ℕ → ℕ → List ℕ → Type 0
TellsCut face y from to width text = (is_cut width text ≡ false) ↔ ShowsAll face y from to text

-- and its marked letter, where that stands in it, exactly where its column is seen
abbrev pub TellsLetter : ℕ → ℕ → ℕ → MarkedText → Type 0
TellsLetter from to width text =
    (place : ℕ) → place < length text.text → (is_letter_cut width (Some place) ≡ false) ↔ (from + place < to)

-- ---- what each kind shows

-- the item of a row of a cluster, behind its box
abbrev pub ItemsTell : ClusterKind → List MarkedText → Type 0
ItemsTell kind items =
    (colour : Role → ℕ) (look : Look) (c : Content) (width y : ℕ) (item : MarkedText)
    → slice_get items y ≡ Some item → IsNarrowText item.text
    → TellsCut (cluster_face colour kind look items c) y 4 width (item_width width) item.text
    × TellsLetter 4 width (item_width width) item

-- the column in which a title starts
abbrev pub title_start : ℕ → List ℕ → ℕ
title_start width title = (width - (length (cut_title width title) + 2)) / 2 + 1

-- the title in the first row of a frame
abbrev pub TitleTells : List ℕ → Type 0
TitleTells title =
    (width height : ℕ) (look : FrameLook) → IsNarrowText title
    → TellsCut (frame_face width height title look) 0 (title_start width title)
    (title_start width title + length (cut_title width title)) (title_width width) title

-- a title; a label, an item of a cluster, a button between its brackets, the item that a row of a list shows, and
-- the piece of a row of a text
abbrev pub KindTells : Kind → Type 0
KindTells (kinds.Window head) = TitleTells head.title
KindTells (kinds.Dialog head) = TitleTells head.title
KindTells (kinds.Label label) =
    (colour : Role → ℕ) (look : Look) (width : ℕ) → IsNarrowText label.text.text
    → TellsCut (label_face colour look label.text) 0 0 width width label.text.text
    × TellsLetter 0 width width label.text
KindTells (kinds.CheckBoxes boxes) = ItemsTell Boxes boxes.items
KindTells (kinds.RadioButtons radios) = ItemsTell Radios radios.items
KindTells (kinds.Button button) =
    (colour : Role → ℕ) (look : Look) (width : ℕ) → 2 ≤ width → IsNarrowText button.text.text
    → TellsCut (button_face colour look width button.text) 0 (button_start width button.text.text) (width - 1)
    (button_width width) button.text.text
    × TellsLetter (button_start width button.text.text) (width - 1) (button_width width) button.text
KindTells (kinds.List list) =
    (colour : Role → ℕ) (look : Look) (c : Content) (width y : ℕ)
    → IsNarrowText (text_at list.items ((chosen_of c).top + y))
    → TellsCut (list_face colour look list.items c) y 0 width width (text_at list.items ((chosen_of c).top + y))
KindTells (kinds.Text shown) =
    (attr width y : ℕ) → y < natural shown.h → IsNarrowText (slice_index_or (pieces_of shown.text) y [])
    → TellsCut (text_face shown.text attr) y 0 width width (slice_index_or (pieces_of shown.text) y [])
KindTells _ = ⊤
