-- What keys and the mouse make of a control by its kind: what it holds stays fit.
use Rattle.std.proofs.Common.{◌≡◌, Bool, true, false, ◌+◌, ◌≤◌, ◌<◌, ◌==◌, ℕ, if◌then◌else◌, length, List, Option, Some, None, sym, subst, All, arith}
use Rattle.std.proofs.lemmas.Bool.{true≢false}
use Rattle.std.proofs.lemmas.Bool.Decides.{nat_tests}
use Rattle.std.proofs.lemmas.List.Elements.{All-tail}
use Rattle.tv_event.specs.declared.event.Key.{Key}
use Rattle.tv_valid.specs.declared.domain.Domain.{Domain}
use Rattle.tv_valid.specs.Domain.{IsDomain, IsViableText}
use Rattle.tv_model.specs.declared.kind.CheckBoxes.{CheckBoxes}
use Rattle.tv_model.specs.declared.kind.Input.{Input}
use Rattle.tv_model.specs.declared.kind.Kind.{Kind}
use Rattle.tv_model.specs.declared.kind.Kind.TheVariants as kinds
use Rattle.tv_model.specs.Kinds.{behaviour}
use Rattle.tv_model.specs.declared.kind.MarkedText.{MarkedText}
use Rattle.tv_model.specs.declared.kind.ListBox.{ListBox}
use Rattle.tv_model.specs.declared.kind.RadioButtons.{RadioButtons}
use Rattle.tv_model.specs.declared.record.Value.{Value}
use Rattle.tv_model.specs.declared.record.Value.TheVariants as values
use Rattle.tv_model.specs.Kinds.Button.{is_press}
use Rattle.tv_model.specs.Kinds.Cluster as clusters
use Rattle.tv_model.specs.Controls.Shortcut.{Boxes, Radios, ClusterKind, ItemMarks}
use Rattle.tv_model.specs.Kinds.Cluster.{ClusterKey, cluster_key, flipped, held_marks, selected_of, selecting_of, cluster_answer, item_of_row, cluster_item_pressed}
use Rattle.tv_model.specs.Kinds.InputLine.{Edit, clicked, is_edit_key, domain_texts, cursor_of, edit_content, edit_of, edited_by}
use Rattle.tv_model.specs.Kinds.ListBox.{asked_item, chosen, item_at_row, chosen_of, with_chosen, list_answer}
use Rattle.tv_model.specs.Description.LawfulNodes.{HasLawfulCount, IsNarrowText}
use Rattle.tv_model.specs.Description.Numbers.{natural}
use Rattle.tv_model.specs.Description.Texts.{shown_texts}
use Rattle.tv_model.specs.Controls.Private.{Private, Editing, Plain, Scrolled, Selecting}
use Rattle.tv_model.specs.Controls.Contents.{Content, item_of, text_of}
use Rattle.tv_model.specs.Controls.Behaviour.{Answer, Becomes, Passed, Presses}
use Rattle.tv_machine.specs.Controls.Tables.{down_content, key_answer, move_content, up_answer}
use Rattle.tv_machine.specs.Safe.{HasValueOf, IsPrivateOf, IsTextOf}
use Rattle.tv_laws.specs.Fit.{IsFitContent}
use Rattle.tv_laws.proofs.InputLemmas.{IsGoodEdit, clicked-good, edited_by-good}
use Rattle.tv_laws.proofs.ItemLemmas.{Item, KeyItem, flip-below, item-from, key-item, within-item}
use Rattle.tv_machine.proofs.ListLemmas.{bool_cases}

-- ---- answers

-- what a control that answers so holds is fit
abbrev pub IsFitAnswer : Bool → Kind → Answer → Type 0
IsFitAnswer has_focus kind Passed = Unit {0}
IsFitAnswer has_focus kind (Becomes c) = IsFitContent has_focus kind c
IsFitAnswer has_focus kind Presses = Unit {0}

-- ---- inputs

-- an input's edit is good
pub record IsEditOf (input : Input) (e : Edit) : Type 0 where
  pub domain : Domain
  pub is : IsDomain input.spec domain
  pub good : IsGoodEdit domain e

input_text : (input : Input) (v : Option Value) → HasValueOf (kinds.Input input) v → IsTextOf IsViableText (kinds.Input input) (text_of v)
input_text input None h = absurd (true≢false h)
input_text input (Some (values.Text text)) h = h
input_text input (Some (values.Marks marks)) h = absurd h
input_text input (Some (values.Item item)) h = absurd h

pub input-edit : (has_focus : Bool) (input : Input) (c : Content) → IsFitContent has_focus (kinds.Input input) c
    → IsEditOf input (edit_of c)
input-edit has_focus input c fit = let text = input_text input c.value fit.safe.value in record { domain = text.0; is = text.1; good = (text.2, fit.safe.cursor) }

pub input-fit : (has_focus : Bool) (input : Input) (e : Edit) → IsEditOf input e → (has_focus ≡ false
    → Editing e.cursor e.is_whole ≡ Editing 0 false)
    → IsFitContent has_focus (kinds.Input input) (edit_content e)
input-fit has_focus input e good rests = record { safe = record { value = (good.domain, good.is, good.good.0); cursor = good.good.1 }; private = tt; rests = rests }

pub focused-input : (input : Input) (e : Edit) → IsEditOf input e → IsFitContent true (kinds.Input input) (edit_content e)
focused-input input e good = input-fit true input e good (λ f. absurd (true≢false f))

-- ---- check boxes

pub boxes-fit : (has_focus : Bool) (boxes : CheckBoxes) (value : Option Value) (item : ℕ) (overwrites : Bool)
    → HasValueOf (kinds.CheckBoxes boxes) value → Item (length boxes.items) item
    → IsFitContent has_focus (kinds.CheckBoxes boxes) (record { value = value; private = Selecting item; overwrites = overwrites })
boxes-fit has_focus boxes value item overwrites fits is = record { safe = record { value = fits; cursor = omega arith }; private = is; rests = λ e. tt }

boxes_item : (boxes : CheckBoxes) (p : Private) → IsPrivateOf (kinds.CheckBoxes boxes) p → Item (length boxes.items) (selecting_of p)
boxes_item boxes (Selecting item) h = h
boxes_item boxes Plain h = absurd h
boxes_item boxes (Editing cursor is_whole) h = absurd h
boxes_item boxes (Scrolled top) h = absurd h

boxes_marks : (boxes : CheckBoxes) (v : Option Value) → HasValueOf (kinds.CheckBoxes boxes) v
    → HasValueOf (kinds.CheckBoxes boxes) (Some (held_marks v))
boxes_marks boxes None h = absurd (true≢false h)
boxes_marks boxes (Some value) h = h

boxes_flipped : (boxes : CheckBoxes) (value : Value) (item : ℕ) → Item (length boxes.items) item
    → HasValueOf (kinds.CheckBoxes boxes) (Some value) → HasValueOf (kinds.CheckBoxes boxes) (Some (flipped value item))
boxes_flipped boxes (values.Text text) item is h = absurd h
boxes_flipped boxes (values.Marks marks) item is h = flip-below (length boxes.items) item marks is h
boxes_flipped boxes (values.Item marked) item is h = absurd h

boxes-pressed : (has_focus : Bool) (boxes : CheckBoxes) (item : ℕ) (c : Content) → Item (length boxes.items) item
    → IsFitContent has_focus (kinds.CheckBoxes boxes) c
    → IsFitContent has_focus (kinds.CheckBoxes boxes) (cluster_item_pressed Boxes item c)
boxes-pressed has_focus boxes item c is fit =
    boxes-fit has_focus boxes (Some (flipped (held_marks c.value) item)) item c.overwrites (boxes_flipped boxes (held_marks c.value) item is (boxes_marks boxes c.value fit.safe.value)) is

boxes-key : (has_focus : Bool) (boxes : CheckBoxes) (key : ClusterKey) (c : Content) → KeyItem (length boxes.items) key
    → IsFitContent has_focus (kinds.CheckBoxes boxes) c
    → IsFitAnswer has_focus (kinds.CheckBoxes boxes) (cluster_answer Boxes key c)
boxes-key has_focus boxes clusters.Passed c is fit = tt
boxes-key has_focus boxes (clusters.Selects item) c is fit = boxes-fit has_focus boxes (Some (held_marks c.value)) item c.overwrites (boxes_marks boxes c.value fit.safe.value) is
boxes-key has_focus boxes (clusters.Presses item) c is fit = boxes-pressed has_focus boxes item c is fit

-- ---- radio buttons

cursor_plain : (p : Private) (n : ℕ) → p ≡ Plain → cursor_of p ≤ n
cursor_plain p n e = subst (λ q. cursor_of q ≤ n) (sym e) (omega arith)

radios-fit : (has_focus : Bool) (radios : RadioButtons) (item : ℕ) (c : Content) → Item (length radios.items) item → c.private ≡ Plain
    → IsFitContent has_focus (kinds.RadioButtons radios) (record c { value = Some (values.Item item) })
radios-fit has_focus radios item c is plain = record { safe = record { value = is; cursor = cursor_plain c.private 0 plain }; private = plain; rests = λ e. tt }

radios_item : (radios : RadioButtons) (v : Option Value) → HasValueOf (kinds.RadioButtons radios) v → Item (length radios.items) (item_of v)
radios_item radios None h = absurd (true≢false h)
radios_item radios (Some (values.Item item)) h = h
radios_item radios (Some (values.Text text)) h = absurd h
radios_item radios (Some (values.Marks marks)) h = absurd h

radios-key : (has_focus : Bool) (radios : RadioButtons) (key : ClusterKey) (c : Content) → KeyItem (length radios.items) key
    → IsFitContent has_focus (kinds.RadioButtons radios) c
    → IsFitAnswer has_focus (kinds.RadioButtons radios) (cluster_answer Radios key c)
radios-key has_focus radios clusters.Passed c is fit = tt
radios-key has_focus radios (clusters.Selects item) c is fit = radios-fit has_focus radios item c is fit.private
radios-key has_focus radios (clusters.Presses item) c is fit = radios-fit has_focus radios item c is fit.private

-- ---- lists

list-chosen : (has_focus : Bool) (list : ListBox) (item : ℕ) (c : Content) → 1 ≤ length list.items
    → IsFitContent has_focus (kinds.List list) (with_chosen (chosen (natural list.h) (length list.items) item (chosen_of c)) c)
list-chosen has_focus list item c some =
    record { safe = record { value = within-item (length list.items) item some; cursor = omega arith }; private = tt; rests = λ e. tt }

list-key : (has_focus : Bool) (list : ListBox) (asks : Option ℕ) (c : Content) → 1 ≤ length list.items
    → IsFitAnswer has_focus (kinds.List list) (list_answer (natural list.h) (length list.items) asks c)
list-key has_focus list None c some = tt
list-key has_focus list (Some item) c some = list-chosen has_focus list item c some

-- ---- keys and the mouse

press_answer : (k : Key) (button : Kind) → IsFitAnswer true button (if is_press k then Presses else Passed)
press_answer k button = bool_cases (is_press k) (λ b. IsFitAnswer true button (if b then Presses else Passed)) (λ is. tt) (λ is. tt)

input_answer : (input : Input) (k : Key) (c : Content) → All IsNarrowText (shown_texts (kinds.Input input))
    → IsFitContent true (kinds.Input input) c
    → IsFitAnswer true (kinds.Input input) (if is_edit_key k then Becomes (edit_content (edited_by input.spec k (edit_of c))) else Passed)
input_answer input k c narrow fit =
    bool_cases (is_edit_key k) (λ b. IsFitAnswer true (kinds.Input input) (if b then Becomes (edit_content (edited_by input.spec k (edit_of c))) else Passed))
    (λ is.
    let edit = input-edit true input c fit in
    focused-input input (edited_by input.spec k (edit_of c)) (record {
      domain = edit.domain;
      is = edit.is;
      good = edited_by-good input.spec edit.domain k (edit_of c) edit.is (All-tail IsNarrowText input.start (domain_texts input.spec.domain) narrow) edit.good;
    }))
    (λ is. tt)

-- a key of the control that has the focus
pub key-fit : (kind : Kind) (k : Key) (c : Content) → All IsNarrowText (shown_texts kind) → HasLawfulCount kind
    → IsFitContent true kind c → IsFitAnswer true kind (key_answer kind k c)
key-fit (kinds.Button button) k c narrow count fit = press_answer k (kinds.Button button)
key-fit (kinds.Input input) k c narrow count fit = input_answer input k c narrow fit
key-fit (kinds.CheckBoxes boxes) k c narrow count fit =
    boxes-key true boxes (cluster_key boxes.items (length boxes.items) (selected_of Boxes c) k) c (key-item boxes.items (selecting_of c.private) k (boxes_item boxes c.private fit.private)) fit
key-fit (kinds.RadioButtons radios) k c narrow count fit =
    radios-key true radios (cluster_key radios.items (length radios.items) (selected_of Radios c) k) c (key-item radios.items (item_of c.value) k (radios_item radios c.value fit.safe.value)) fit
key-fit (kinds.List list) k c narrow count fit = list-key true list (asked_item (natural list.h) (length list.items) (chosen_of c) k) c count.0
key-fit _ k c narrow count fit = tt

-- a mouse down on a control that has the focus
pub down-fit : (kind : Kind) (first column row : ℕ) (c : Content) → HasLawfulCount kind → IsFitContent true kind c
    → IsFitContent true kind (down_content kind first column row c)
down-fit (kinds.Input input) first column row c count fit =
    let edit = input-edit true input c fit in
    focused-input input (clicked first column (edit_of c)) (record { domain = edit.domain; is = edit.is; good = clicked-good edit.domain first column (edit_of c) edit.good })
down-fit (kinds.List list) first column row c count fit = list-chosen true list (item_at_row (length list.items) (chosen_of c) row) c count.0
down-fit _ first column row c count fit = fit

-- a move over a control that holds the mouse
pub move-fit : (has_focus : Bool) (kind : Kind) (row : ℕ) (c : Content) → HasLawfulCount kind → IsFitContent has_focus kind c
    → IsFitContent has_focus kind (move_content kind row c)
move-fit has_focus (kinds.List list) row c count fit = list-chosen has_focus list (item_at_row (length list.items) (chosen_of c) row) c count.0
move-fit has_focus _ row c count fit = fit

-- an item that is pressed by its mark
pub item-called : (kind : Kind) (cluster : ClusterKind) (name : List ℕ) (items : List MarkedText) (item : ℕ) (c : Content)
    → (behaviour kind).shortcut ≡ ItemMarks cluster name items → Item (length items) item → IsFitContent true kind c
    → IsFitContent true kind (cluster_item_pressed cluster item c)
item-called (kinds.CheckBoxes boxes) cluster name items item c marked is fit =
    let same : Boxes ≡ cluster = cc in
    let own : items ≡ boxes.items = cc in
    subst (λ x. IsFitContent true (kinds.CheckBoxes boxes) (cluster_item_pressed x item c)) same (boxes-pressed true boxes item c (subst (λ xs. Item (length xs) item) own is) fit)
item-called (kinds.RadioButtons radios) cluster name items item c marked is fit =
    let same : Radios ≡ cluster = cc in
    let own : items ≡ radios.items = cc in
    subst (λ x. IsFitContent true (kinds.RadioButtons radios) (cluster_item_pressed x item c)) same
    (radios-fit true radios item c (subst (λ xs. Item (length xs) item) own is) fit.private)
item-called _ cluster name items item c marked is fit = absurd cc

-- so many rows as a cluster has
abbrev pub HasRow : Kind → ℕ → Type 0
HasRow (kinds.CheckBoxes boxes) row = row < length boxes.items
HasRow (kinds.RadioButtons radios) row = row < length radios.items
HasRow _ row = Unit {0}

row_item : (count row : ℕ) → row < count → Item count (item_of_row row)
row_item count row less = item-from count (row + 1) (omega arith) (omega (arith, less))

same_item : (row item : ℕ) → (item_of_row row == item) ≡ true → item_of_row row ≡ item
same_item row item e = grind (arith, nat_tests)

-- an up on a control that holds the mouse
pub up-fit : (has_focus : Bool) (kind : Kind) (item row : ℕ) (c : Content) → HasRow kind row → IsFitContent has_focus kind c
    → IsFitAnswer has_focus kind (up_answer kind item row c)
up-fit has_focus (kinds.CheckBoxes boxes) item row c within fit =
    bool_cases (item_of_row row == item) (λ b. IsFitAnswer has_focus (kinds.CheckBoxes boxes) (if b then Becomes (cluster_item_pressed Boxes item c) else Passed))
    (λ is. boxes-pressed has_focus boxes item c (subst (Item (length boxes.items)) (same_item row item is) (row_item (length boxes.items) row within)) fit) (λ other. tt)
up-fit has_focus (kinds.RadioButtons radios) item row c within fit =
    bool_cases (item_of_row row == item) (λ b. IsFitAnswer has_focus (kinds.RadioButtons radios) (if b then Becomes (cluster_item_pressed Radios item c) else Passed))
    (λ is. radios-fit has_focus radios item c (subst (Item (length radios.items)) (same_item row item is) (row_item (length radios.items) row within)) fit.private) (λ other. tt)
up-fit has_focus _ item row c within fit = tt
