-- What is cut of a text is what its face lacks.
use Rattle.std.proofs.Common.{◌≡◌, ◌∙◌, ◌↔◌, ◌&&◌, Bool, ℕ, zero, suc, ◌+◌, ◌-◌, ◌*◌, ◌/◌, ◌<◌, ◌≤◌, ◌==◌, nat_lt, nat_le, false, true, not, List, [], ◌∷◌, ◌++◌, length, take, slice_index_or, slice_get, Option, Some, refl, sym, ap, arith, inl, inr}
use Rattle.std.specs.Prelude.{codes, if◌then◌else◌}
use Rattle.std.specs.List.{list_any}
use Rattle.std.proofs.lemmas.Bool.{cases_lt}
use Rattle.std.proofs.lemmas.List.Elements.{All-head, All-tail}
use Rattle.std.proofs.lemmas.Bool.Decides.{nat_tests}
use Rattle.std.proofs.lemmas.List.{get_or-append-add, get_or-take, get_or_past, length-take}
use Rattle.std.proofs.Math.Nat.{div-le_self, min-le_left, min-le_right, mul-div-le}
use Rattle.std.proofs.lemmas.Nat.{le-div}
use Rattle.tv_cells.specs.Glyph.{IsNarrow, shown_char}
use Rattle.tv_faces.proofs.NarrowLemmas.{shown_ascii, shown_narrow}
use Rattle.tv_model.specs.Controls.Contents.{text_at}
use Rattle.tv_model.specs.Controls.Shortcut.{ClusterKind, Boxes, Radios}
use Rattle.tv_model.specs.declared.kind.Button.{Button}
use Rattle.tv_model.specs.declared.kind.Kind.{Kind}
use Rattle.tv_model.specs.declared.kind.Kind.TheVariants as kinds
use Rattle.tv_model.specs.declared.kind.Label.{Label}
use Rattle.tv_model.specs.declared.kind.ListBox.{ListBox}
use Rattle.tv_model.specs.declared.kind.StaticText.{StaticText}
use Rattle.tv_model.specs.declared.kind.MarkedText.{MarkedText}
use Rattle.tv_model.specs.Description.LawfulNodes.{IsNarrowText}
use Rattle.tv_model.specs.Kinds.Button.{button_face}
use Rattle.tv_model.specs.Kinds.Cluster.{box_before, cluster_face, cluster_row, is_marked, selected_of}
use Rattle.tv_model.specs.Kinds.Label.{label_face}
use Rattle.tv_model.specs.Kinds.ListBox.{chosen_of, list_face}
use Rattle.tv_model.specs.Screen.Faces.{FaceOf, FrameLook, Row, border, button_row, button_start, button_text, cut_title, frame_face, over_row}
use Rattle.tv_model.specs.Screen.Faces.{pieces_of, text_face, text_row, titled, top_row, with_close_mark, with_number}
use Rattle.tv_palette.specs.declared.role.Role.{Role}
use Rattle.tv_ways.specs.Cuts.{is_cut, item_width}
use Rattle.tv_ways.specs.Seen.{ItemsTell, KindTells, TellsCut, TitleTells, seen, title_start}

-- ---- the rest of a text

past_end : (k : ℕ) → text_row [] k ≡ 32
past_end k = get_or_past [] k 32 (omega arith)

-- a text of spaces alone
spaces : (text : List ℕ) → list_any (λ ch. not (ch == 32)) text ≡ false → (k : ℕ) → text_row text k ≡ 32
spaces [] none k = past_end k
spaces (ch ∷ chars) none zero = grind (arith, nat_tests, none)
spaces (ch ∷ chars) none (suc k) = spaces chars (grind (arith, nat_tests, none)) k

uncut_seen : (width : ℕ) (text : List ℕ) → is_cut width text ≡ false → (k : ℕ) → text_row (take width text) k ≡ text_row text k
uncut_seen zero text none k = past_end k ∙ sym (spaces text none k)
uncut_seen (suc width) [] none k = refl
uncut_seen (suc width) (ch ∷ chars) none zero = refl
uncut_seen (suc width) (ch ∷ chars) none (suc k) = uncut_seen width chars none k

no_others : (text : List ℕ) → ((k : ℕ) → 32 ≡ text_row text k) → list_any (λ ch. not (ch == 32)) text ≡ false
no_others [] same = refl
no_others (ch ∷ chars) same =
    let rest = no_others chars (λ k. same (suc k)) in
    let first : 32 ≡ ch = same zero in
    grind (arith, nat_tests, rest, first)

seen_uncut : (width : ℕ) (text : List ℕ) → ((k : ℕ) → text_row (take width text) k ≡ text_row text k) → is_cut width text ≡ false
seen_uncut zero text same = no_others text (λ k. sym (past_end k) ∙ same k)
seen_uncut (suc width) [] same = refl
seen_uncut (suc width) (ch ∷ chars) same = seen_uncut width chars (λ k. same (suc k))

-- where a face shows the first characters of a text, it shows all of them if none is cut, and only then
pub tells : (width : ℕ) (text : List ℕ) (row : Row) → ((k : ℕ) → row k ≡ text_row (take width text) k)
    → (is_cut width text ≡ false) ↔ ((k : ℕ) → row k ≡ text_row text k)
tells width text row is = (λ none k. is k ∙ uncut_seen width text none k, λ same. seen_uncut width text (λ k. sym (is k) ∙ same k))

-- ---- a row that shows a text from its first column on

narrow_row : (text : List ℕ) (k : ℕ) → IsNarrowText text → shown_char (text_row text k) ≡ text_row text k
narrow_row [] k narrow = ap shown_char (past_end k) ∙ (shown_ascii 32 (omega arith) (omega arith) ∙ sym (past_end k))
narrow_row (ch ∷ chars) zero narrow = shown_narrow ch (All-head IsNarrow ch chars narrow)
narrow_row (ch ∷ chars) (suc k) narrow = narrow_row chars k (All-tail IsNarrow ch chars narrow)

-- so many columns of it
pub columns_seen : (width k : ℕ) (text : List ℕ) (ch : ℕ) → IsNarrowText text → (k < width → ch ≡ shown_char (text_row text k))
    → (if nat_lt k width then ch else 32) ≡ text_row (take width text) k
columns_seen width k text ch narrow is =
    elim (cases_lt k width) [
      | inl less ↦
          let e : nat_lt k width ≡ true = grind (arith, nat_tests, less) in
          rw e (is less ∙ (narrow_row text k narrow ∙ sym (get_or-take width text k 32 less)))
      | inr past ↦
          let e : nat_lt k width ≡ false = grind (arith, nat_tests, past) in
          let few : length (take width text) ≤ k = omega (arith, length-take width text, min-le_left width (length text), past) in
          rw e (sym (get_or_past (take width text) k 32 few))
    ]

-- the columns behind the first of them
pub columns_behind : (from width k : ℕ) (text : List ℕ) (ch : ℕ) → IsNarrowText text → (k < width - from → ch ≡ shown_char (text_row text k))
    → (if nat_lt (from + k) width then ch else 32) ≡ text_row (take (width - from) text) k
columns_behind from width k text ch narrow is =
    let same : nat_lt (from + k) width ≡ nat_lt k (width - from) = grind (arith, nat_tests) in
    rw same (columns_seen (width - from) k text ch narrow is)

-- ---- texts from the first column of a face on

row_from_start : (face : FaceOf) (y width : ℕ) (text : List ℕ) → ((k : ℕ) → (face k y).ch ≡ shown_char (text_row text k)) → IsNarrowText text
    → (k : ℕ) → seen face y 0 width k ≡ text_row (take width text) k
row_from_start face y width text is narrow k =
    let e : 0 + k ≡ k = omega arith in
    rw e (columns_seen width k text (face k y).ch narrow (λ less. is k))

tells_from_start : (face : FaceOf) (y width : ℕ) (text : List ℕ) → ((k : ℕ) → (face k y).ch ≡ shown_char (text_row text k)) → IsNarrowText text
    → TellsCut face y 0 width width text
tells_from_start face y width text is narrow = tells width text (seen face y 0 width) (row_from_start face y width text is narrow)

-- a letter
letter_tells : (width place from to : ℕ) → ((place < width) ↔ (from + place < to)) → (nat_le width place ≡ false) ↔ (from + place < to)
letter_tells width place from to same =
    (λ e. let less : place < width = grind (arith, nat_tests, e) in same.0 less, λ seen. let less : place < width = same.1 seen in grind (arith, nat_tests, less))

label_tells : (label : Label) → KindTells (kinds.Label label)
label_tells label colour look width narrow = (
  tells_from_start (label_face colour look label.text) 0 width label.text.text (λ k. refl) narrow,
  λ place within. letter_tells width place 0 width (λ less. omega arith, λ less. omega arith),
)

list_tells : (list : ListBox) → KindTells (kinds.List list)
list_tells list colour look c width y narrow =
    tells_from_start (list_face colour look list.items c) y width (text_at list.items ((chosen_of c).top + y)) (λ k. refl) narrow

text_tells : (shown : StaticText) → KindTells (kinds.Text shown)
text_tells shown attr width y within narrow =
    tells_from_start (text_face shown.text attr) y width (slice_index_or (pieces_of shown.text) y []) (λ k. refl) narrow

-- ---- items behind their boxes

behind_box : (kind : ClusterKind) (is_marked : Bool) (text : List ℕ) (k : ℕ) → text_row (box_before kind is_marked ++ text) (4 + k) ≡ text_row text k
behind_box Boxes true text k = get_or-append-add (codes "[X] ") text k 32
behind_box Boxes false text k = get_or-append-add (codes "[ ] ") text k 32
behind_box Radios true text k = get_or-append-add (codes "(*) ") text k 32
behind_box Radios false text k = get_or-append-add (codes "( ) ") text k 32

item_seen : (colour : Role → ℕ) (kind : ClusterKind) (is_selected is_marked : Bool) (found : Option MarkedText) (item : MarkedText) (k : ℕ) → found ≡ Some item
    → (cluster_row colour kind is_selected is_marked found (4 + k)).ch ≡ shown_char (text_row item.text k)
item_seen colour kind is_selected is_marked found item k e = rw e (ap shown_char (behind_box kind is_marked item.text k))

pub items_tell : (kind : ClusterKind) (items : List MarkedText) → ItemsTell kind items
items_tell kind items colour look c width y item at narrow = (
  tells (item_width width) item.text (seen (cluster_face colour kind look items c) y 4 width)
      (λ k. columns_behind 4 width k item.text (cluster_face colour kind look items c (4 + k) y).ch narrow
      (λ less. item_seen colour kind (look.is_focused && (selected_of kind c == y + 1)) (is_marked c.value (y + 1)) (slice_get items y) item k at)),
  λ place within. letter_tells (item_width width) place 4 width (λ less. omega arith, λ less. omega arith),
)

-- ---- a text in the middle of a button

button_in : (w x from n first last : ℕ) (row : Row) → 1 ≤ from → x + 1 < w → from ≤ x → x < from + n
    → (if x == 0 then first else if x + 1 == w then last else over_row from n row (λ _. 32) x) ≡ row (x - from)
button_in w x from n first last row some before ge less =
    let a : (x == 0) ≡ false = grind (arith, nat_tests) in
    let b : (x + 1 == w) ≡ false = grind (arith, nat_tests) in
    let c : nat_le from x ≡ true = grind (arith, nat_tests, ge) in
    let d : nat_lt x (from + n) ≡ true = grind (arith, nat_tests, less) in
    rw (a, b, c, d) refl

button_beside : (w x from n first last : ℕ) (row : Row) → 1 ≤ from → x + 1 < w → from + n ≤ x
    → (if x == 0 then first else if x + 1 == w then last else over_row from n row (λ _. 32) x) ≡ 32
button_beside w x from n first last row some before past =
    let a : (x == 0) ≡ false = grind (arith, nat_tests) in
    let b : (x + 1 == w) ≡ false = grind (arith, nat_tests) in
    let c : nat_le from x ≡ true = grind (arith, nat_tests, past) in
    let d : nat_lt x (from + n) ≡ false = grind (arith, nat_tests, past) in
    rw (a, b, c, d) refl

-- the text begins behind the first bracket and ends before the last one
pub within_brackets : (w : ℕ) (text : List ℕ) → 2 ≤ w → button_start w text + length (button_text w text) < w
within_brackets w text wide =
    let n = length (button_text w text) in
    let few : n ≤ w - 2 = omega (arith, length-take (w - 2) text, min-le_left (w - 2) (length text)) in
    let half : (w - 2 - n) / 2 ≤ w - 2 - n = div-le_self (w - 2 - n) 2 in
    omega (arith, few, half, wide)

text_in : (w k : ℕ) (text : List ℕ) → k < length (button_text w text) → (k < w - 2) × (k < length text)
text_in w k text less = (
  omega (arith, less, length-take (w - 2) text, min-le_left (w - 2) (length text)),
  omega (arith, less, length-take (w - 2) text, min-le_right (w - 2) (length text)),
)

button_seen : (w : ℕ) (text : List ℕ) (is_default : Bool) (k : ℕ) → 2 ≤ w → IsNarrowText text
    → (if nat_lt (button_start w text + k) (w - 1) then shown_char (button_row w text is_default (button_start w text + k)) else 32) ≡ text_row (take (w - 2) text) k
button_seen w text is_default k wide narrow =
    let n = length (button_text w text) in
    let from = button_start w text in
    let ends : from + n < w = within_brackets w text wide in
    let first : ℕ = if is_default then 60 else 91 in
    let last : ℕ = if is_default then 62 else 93 in
    elim (cases_lt k n) [
      | inl less ↦
          let inside : nat_lt (from + k) (w - 1) ≡ true = grind (arith, nat_tests, ends, less) in
          let back : from + k - from ≡ k = omega arith in
          let same = button_in w (from + k) from n first last (text_row (button_text w text)) (omega arith) (omega (arith, ends, less)) (omega arith) (omega (arith, less)) in
          let shown_same = get_or-take (w - 2) text k 32 (text_in w k text less).0 in
          rw inside (ap shown_char same ∙ (ap (λ place. shown_char (text_row (button_text w text) place)) back ∙ (ap shown_char shown_same ∙ (narrow_row text k narrow ∙ sym shown_same))))
      | inr past ↦
          let none : text_row (take (w - 2) text) k ≡ 32 = get_or_past (take (w - 2) text) k 32 past in
          elim (cases_lt (from + k) (w - 1)) [
            | inl less ↦
                let inside : nat_lt (from + k) (w - 1) ≡ true = grind (arith, nat_tests, less) in
                let same = button_beside w (from + k) from n first last (text_row (button_text w text)) (omega arith) (omega (arith, less)) (omega (arith, past)) in
                rw inside (ap shown_char same ∙ (shown_ascii 32 (omega arith) (omega arith) ∙ sym none))
            | inr beside ↦
                let outside : nat_lt (from + k) (w - 1) ≡ false = grind (arith, nat_tests, beside) in
                rw outside (sym none)
          ]
    ]

button_letter : (w place : ℕ) (text : List ℕ) → 2 ≤ w → place < length text → (place < w - 2) ↔ (button_start w text + place < w - 1)
button_letter w place text wide within =
    let n = length (button_text w text) in
    let ends : button_start w text + n < w = within_brackets w text wide in (
      λ less.
          let shown : place < n = omega (arith, length-take (w - 2) text, less, within) in
          omega (arith, ends, shown),
      λ seen. omega (arith, seen),
    )

button_tells : (button : Button) → KindTells (kinds.Button button)
button_tells button colour look w wide narrow = (
  tells (w - 2) button.text.text (seen (button_face colour look w button.text) 0 (button_start w button.text.text) (w - 1))
      (λ k. button_seen w button.text.text look.is_default_now k wide narrow),
  λ place within. letter_tells (w - 2) place (button_start w button.text.text) (w - 1) (button_letter w place button.text.text wide within),
)

-- ---- titles

title_in : (w x start n : ℕ) (row below : Row) → start ≤ x → x < start + n → over_row start n row below x ≡ row (x - start)
title_in w x start n row below ge less =
    let c : nat_le start x ≡ true = grind (arith, nat_tests, ge) in
    let d : nat_lt x (start + n) ≡ true = grind (arith, nat_tests, less) in
    rw (c, d) refl

no_mark : (b : Bool) (below : Row) (x : ℕ) → 5 ≤ x → with_close_mark b below x ≡ below x
no_mark false below x far = refl
no_mark true below x far =
    let c : nat_le 2 x ≡ true = grind (arith, nat_tests, far) in
    let d : nat_lt x (2 + 3) ≡ false = grind (arith, nat_tests, far) in
    rw (c, d) refl

no_number : (w number : ℕ) (below : Row) (x : ℕ) → x + 4 < w → with_number w number below x ≡ below x
no_number w number below x before = let e : (x + 4 == w) ≡ false = grind (arith, nat_tests, before) in grind (arith, nat_tests, e)

titled_some : (w x : ℕ) (cut : List ℕ) (below : Row) → 0 < length cut
    → titled w cut below x ≡ over_row ((w - (length cut + 2)) / 2) (length cut + 2) (text_row (32 ∷ cut)) below x
titled_some w x [] below some = absurd (omega arith)
titled_some w x (ch ∷ chars) below some = refl

title_shown : (w k : ℕ) (title : List ℕ) (look : FrameLook) → k < length (cut_title w title) → top_row w title look (title_start w title + k) ≡ text_row (cut_title w title) k
title_shown w k title look less =
    let cut = cut_title w title in
    let n = length cut in
    let start = (w - (n + 2)) / 2 in
    let x = title_start w title + k in
    let few : n ≤ w - 12 = omega (arith, length-take (w - 12) title, min-le_left (w - 12) (length title)) in
    let left_gap : 5 ≤ start = le-div 5 (w - (n + 2)) 2 (omega arith) (omega (arith, few, less)) in
    let right_gap : 2 * start ≤ w - (n + 2) = mul-div-le (w - (n + 2)) 2 in
    let far : 5 ≤ x = omega (arith, left_gap) in
    let before : x + 4 < w = omega (arith, right_gap, left_gap, less, few) in
    let place : x - start ≡ suc k = omega arith in
    no_mark look.is_active (with_number w look.number (titled w cut (border look.is_active w))) x far
    ∙ (no_number w look.number (titled w cut (border look.is_active w)) x before
    ∙ (titled_some w x cut (border look.is_active w) (omega (arith, less))
    ∙ (title_in w x start (n + 2) (text_row (32 ∷ cut)) (border look.is_active w) (omega arith) (omega (arith, less)) ∙ ap (text_row (32 ∷ cut)) place)))

title_seen : (w k : ℕ) (title : List ℕ) (look : FrameLook) → IsNarrowText title
    → (if nat_lt (title_start w title + k) (title_start w title + length (cut_title w title)) then shown_char (top_row w title look (title_start w title + k)) else 32)
    ≡ text_row (take (w - 12) title) k
title_seen w k title look narrow =
    let n = length (cut_title w title) in
    let from = title_start w title in
    elim (cases_lt k n) [
      | inl less ↦
          let inside : nat_lt (from + k) (from + n) ≡ true = grind (arith, nat_tests, less) in
          let within : k < w - 12 = omega (arith, less, length-take (w - 12) title, min-le_left (w - 12) (length title)) in
          let same = get_or-take (w - 12) title k 32 within in
          rw inside (ap shown_char (title_shown w k title look less) ∙ (ap shown_char same ∙ (narrow_row title k narrow ∙ sym same)))
      | inr past ↦
          let outside : nat_lt (from + k) (from + n) ≡ false = grind (arith, nat_tests, past) in
          rw outside (sym (get_or_past (take (w - 12) title) k 32 past))
    ]

title_tells : (title : List ℕ) → TitleTells title
title_tells title width height look narrow =
    tells (width - 12) title (seen (frame_face width height title look) 0 (title_start width title) (title_start width title + length (cut_title width title)))
    (λ k. title_seen width k title look narrow)

-- ---- each kind

pub kind_tells : (kind : Kind) → KindTells kind
kind_tells (kinds.Window head) = title_tells head.title
kind_tells (kinds.Dialog head) = title_tells head.title
kind_tells (kinds.Text shown) = text_tells shown
kind_tells (kinds.Label label) = label_tells label
kind_tells (kinds.Button button) = button_tells button
kind_tells (kinds.Input input) = tt
kind_tells (kinds.CheckBoxes boxes) = items_tell Boxes boxes.items
kind_tells (kinds.RadioButtons radios) = items_tell Radios radios.items
kind_tells (kinds.List list) = list_tells list
kind_tells (kinds.Pane pane) = tt
