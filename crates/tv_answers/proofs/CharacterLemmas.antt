-- The texts of fields stay of characters, where no other numbers are typed.
use lib.Utf8.{low_scalar, scalar, scalars}
use Rattle.std.proofs.Common.{◌≡◌, ℕ, zero, suc, ◌+◌, ◌-◌, ◌<◌, Bool, true, false, ◌&&◌, ◌==◌, if◌then◌else◌, List, [], ◌∷◌, ◌++◌, drop, length, take, Option, Some, None, refl, sym, subst, All, arith}
use Rattle.std.specs.Prelude.{IfSome, ℤ, pos, insert, int_lt, nat_le, nat_lt, remove}
use Rattle.std.proofs.lemmas.Bool.{and_parts}
use Rattle.std.proofs.lemmas.Bool.Decides.{nat_tests}
use Rattle.std.proofs.lemmas.List.Elements.{All-append, All-cons, All-contains, All-drop, All-head, All-nil, All-push, All-tail, All-take}
use Rattle.tv_event.specs.declared.event.Key.{Key}
use Rattle.tv_event.specs.declared.event.Key.TheVariants as keys
use Rattle.tv_machine.proofs.ListLemmas.{bool_cases, option_cases}
use Rattle.tv_machine.specs.Controls.Tables.{down_content, key_answer, move_content, up_answer}
use Rattle.tv_model.specs.Controls.Behaviour.{Answer, Becomes, Passed, Presses}
use Rattle.tv_model.specs.Controls.Contents.{Content, text_of}
use Rattle.tv_model.specs.Controls.Shortcut.{Boxes, ClusterKind, Radios}
use Rattle.tv_model.specs.declared.kind.Kind.{Kind}
use Rattle.tv_model.specs.declared.kind.Kind.TheVariants as kinds
use Rattle.tv_model.specs.declared.record.Value.{Value}
use Rattle.tv_model.specs.declared.record.Value.TheVariants as values
use Rattle.tv_model.specs.Kinds.Button.{is_press}
use Rattle.tv_model.specs.Kinds.Cluster.{ClusterKey, cluster_answer, cluster_item_pressed, cluster_key, flipped, held_marks, item_of_row, selected_of}
use Rattle.tv_model.specs.Kinds.Cluster as presses
use Rattle.tv_model.specs.Kinds.InputLine.{Edit, at_place, backspaced, becomes, ctrl_edit, deleted, edit_content, edit_of, edited, edited_by, edited_in, is_edit_key, opened_up, typed_into, with_text}
use Rattle.tv_model.specs.Kinds.ListBox.{asked_item, chosen_of, list_answer}
use Rattle.tv_model.specs.Description.Numbers.{natural}
use Rattle.tv_picture.proofs.Laws.{next_stands}
use Rattle.tv_picture.proofs.MatchingLemmas.{next_literal_law}
use Rattle.tv_picture.specs.Matching.{next_literal_of}
use Rattle.tv_picture.specs.Pattern.{Pattern}
use Rattle.tv_picture.specs.Spelling.{spelled}
use Rattle.tv_valid.proofs.AskingLemmas.{domain_law}
use Rattle.tv_valid.specs.Asking.{domain_of}
use Rattle.tv_valid.specs.Deciding.{viable}
use Rattle.tv_valid.specs.declared.domain.Domain.{Domain}
use Rattle.tv_valid.specs.declared.domain.Kind.TheVariants.{Any, Filter, Range, Picture}
use Rattle.tv_valid.specs.declared.domain.Kind as domains
use Rattle.tv_valid.specs.declared.input.DomainSpec.{DomainSpec}
use Rattle.tv_valid.specs.declared.input.DomainSpec.TheVariants as asked
use Rattle.tv_valid.specs.declared.input.InputSpec.{InputSpec}
use Rattle.tv_valid.specs.Domain.{IsKind, other_case}
use Rattle.tv_valid.specs.Typing.{completed, filled, is_picture_kind, typed_as, typed_of}
use Rattle.tv_answers.specs.Laws.{HasCharacters, KeyTypes}

abbrev pub IsChar : ℕ → Type 0
IsChar c = scalar c ≡ true

abbrev pub AreChars : List ℕ → Type 0
AreChars text = All IsChar text

pub all_scalar : (cs : List ℕ) → AreChars cs → scalars cs ≡ true
all_scalar [] all = refl
all_scalar (c ∷ cs) all = rw (All-head IsChar c cs all, all_scalar cs (All-tail IsChar c cs all)) refl

pub scalars_all : (cs : List ℕ) → scalars cs ≡ true → AreChars cs
scalars_all [] are = All-nil IsChar
scalars_all (c ∷ cs) are = (let both = and_parts (scalar c) (scalars cs) are in All-cons IsChar c cs both.0 (scalars_all cs both.1))

-- ---- typing

all_inserted : (cs : List ℕ) (i c : ℕ) → AreChars cs → IsChar c → AreChars (insert cs i c)
all_inserted cs i c all is = All-append IsChar (take i cs) (c ∷ drop i cs) (All-take IsChar i cs all) (All-cons IsChar c (drop i cs) is (All-drop IsChar i cs all))

all_removed : (cs : List ℕ) (i : ℕ) → AreChars cs → AreChars (remove cs i)
all_removed cs i all = All-append IsChar (take i cs) (drop (suc i) cs) (All-take IsChar i cs all) (All-drop IsChar (suc i) cs all)

other_char : (c : ℕ) → IsChar c → IsChar (other_case c)
other_char c is =
    bool_cases (nat_le 65 c && nat_le c 90) (λ b. IsChar (if b then c + 32 else if nat_le 97 c && nat_le c 122 then c - 32 else c))
    (λ upper. low_scalar (c + 32) (low c (and_parts (nat_le 65 c) (nat_le c 90) upper).1))
    (λ other. bool_cases (nat_le 97 c && nat_le c 122) (λ b. IsChar (if b then c - 32 else c))
    (λ lower. low_scalar (c - 32) (less c (and_parts (nat_le 97 c) (nat_le c 122) lower).1)) (λ none. is))
  where
    low : (a : ℕ) → nat_le a 90 ≡ true → a + 32 < 55296
    low a le = grind (arith, nat_tests, le)

    less : (a : ℕ) → nat_le a 122 ≡ true → a - 32 < 55296
    less a le = grind (arith, nat_tests, le)

-- what a picture fills in is of characters
abbrev KindHasChars : domains.Kind → Type 0
KindHasChars (Picture p) = AreChars (spelled p)
KindHasChars _ = Unit {0}

filled_chars : (n : ℕ) (max : ℤ) (p : Pattern) (text : List ℕ) → AreChars (spelled p) → AreChars text → AreChars (filled n max p text)
filled_chars zero max p text own all = all
filled_chars (suc n) max p text own all =
    bool_cases (int_lt (pos (length text)) max)
    (λ b. AreChars (elim b as (λ x. List ℕ) [ true ↦ elim (next_literal_of p text) as (λ x. List ℕ) [ None ↦ text | Some c ↦ filled n max p (text ++ c ∷ []) ] | false ↦ text ]))
    (λ room. option_cases (next_literal_of p text) (λ o. AreChars (elim o as (λ x. List ℕ) [ None ↦ text | Some c ↦ filled n max p (text ++ c ∷ []) ])) (λ none. all)
    (λ c next. filled_chars n max p (text ++ c ∷ []) own (All-push IsChar text c all (All-contains IsChar (spelled p) c own (next_stands p text c ((next_literal_law p text c).0 next))))))
    (λ full. all)

completed_chars : (max : ℤ) (k : domains.Kind) (fills : Bool) (text : List ℕ) → KindHasChars k → AreChars text → AreChars (completed max k fills text)
completed_chars max (Picture p) true text own all = filled_chars 120 max p text own all
completed_chars max (Picture p) false text own all = all
completed_chars max Any fills text own all = all
completed_chars max (Filter set) fills text own all = all
completed_chars max (Range least greatest) fills text own all = all

typed_chars : (d : Domain) (text : List ℕ) (at ch : ℕ) → KindHasChars d.kind → AreChars text → IsChar ch → AreChars (typed_as d text at ch)
typed_chars d text at ch own all is = completed_chars d.max d.kind (d.fill && (at == length text)) (insert text at ch) own (all_inserted text at ch all is)

typed_some : (d : Domain) (text : List ℕ) (at ch : ℕ) → KindHasChars d.kind → AreChars text → IsChar ch → IfSome (typed_of d text at ch) AreChars
typed_some d text at ch own all is =
    bool_cases (viable d (insert text at ch))
    (λ b. IfSome (elim b as (λ x. Option (List ℕ)) [
      | true ↦ Some (typed_as d text at ch)
      | false ↦ elim (is_picture_kind d.kind && viable d (insert text at (other_case ch))) as (λ x. Option (List ℕ)) [ true ↦ Some (typed_as d text at (other_case ch)) | false ↦ None ]
    ]) AreChars)
    (λ as_is. typed_chars d text at ch own all is)
    (λ not_so. bool_cases (is_picture_kind d.kind && viable d (insert text at (other_case ch)))
    (λ b. IfSome (elim b as (λ x. Option (List ℕ)) [ true ↦ Some (typed_as d text at (other_case ch)) | false ↦ None ]) AreChars)
    (λ other. typed_chars d text at (other_case ch) own all (other_char ch is)) (λ none. tt))

-- ---- edits

abbrev HasChars : Edit → Type 0
HasChars e = AreChars e.text

into_chars : (e : Edit) (o : Option (List ℕ)) → HasChars e → IfSome o AreChars → HasChars (typed_into e o)
into_chars e None all some = all
into_chars e (Some text) all some = some

opened_chars : (e : Edit) → HasChars e → HasChars (opened_up e)
opened_chars e all =
    bool_cases e.is_whole (λ b. HasChars (if b then with_text [] 0 e else if e.overwrites && nat_lt e.cursor (length e.text) then with_text (remove e.text e.cursor) e.cursor e else e)) (λ whole. All-nil IsChar)
    (λ part. bool_cases (e.overwrites && nat_lt e.cursor (length e.text)) (λ b. HasChars (if b then with_text (remove e.text e.cursor) e.cursor e else e)) (λ over. all_removed e.text e.cursor all) (λ between. all))

becomes_chars : (d : Domain) (edit e : Edit) → HasChars edit → HasChars e → HasChars (becomes d edit e)
becomes_chars d edit e new old = bool_cases (viable d edit.text) (λ b. HasChars (if b then edit else e)) (λ is. new) (λ is. old)

backspaced_chars : (e : Edit) → HasChars e → HasChars (backspaced e)
backspaced_chars e all =
    bool_cases (e.cursor == 0) (λ b. HasChars (if b then at_place 0 e else with_text (remove e.text (e.cursor - 1)) (e.cursor - 1) e)) (λ start. all) (λ after. all_removed e.text (e.cursor - 1) all)

deleted_chars : (e : Edit) → HasChars e → HasChars (deleted e)
deleted_chars e all =
    bool_cases e.is_whole (λ b. HasChars (if b then with_text [] 0 e else if nat_lt e.cursor (length e.text) then with_text (remove e.text e.cursor) e.cursor e else at_place e.cursor e)) (λ whole. All-nil IsChar)
    (λ part. bool_cases (nat_lt e.cursor (length e.text)) (λ b. HasChars (if b then with_text (remove e.text e.cursor) e.cursor e else at_place e.cursor e)) (λ less. all_removed e.text e.cursor all) (λ more. all))

ctrl_chars : (letter : ℕ) (e : Edit) → HasChars e → HasChars (ctrl_edit letter e)
ctrl_chars letter e all = bool_cases (letter == 89) (λ b. HasChars (if b then with_text [] 0 e else e)) (λ empties. All-nil IsChar) (λ other. all)

edited_chars : (d : Domain) (k : Key) (e : Edit) → KindHasChars d.kind → KeyTypes k → HasChars e → HasChars (edited d k e)
edited_chars d keys.Left e own types all = all
edited_chars d keys.Right e own types all = all
edited_chars d keys.Home e own types all = all
edited_chars d keys.End e own types all = all
edited_chars d keys.Insert e own types all = all
edited_chars d keys.Backspace e own types all = becomes_chars d (backspaced e) e (backspaced_chars e all) all
edited_chars d keys.Delete e own types all = becomes_chars d (deleted e) e (deleted_chars e all) all
edited_chars d (keys.Ctrl letter) e own types all = becomes_chars d (ctrl_edit letter e) e (ctrl_chars letter e all) all
edited_chars d (keys.Char ch) e own types all =
    let up = opened_up e in
    into_chars e (typed_of d up.text up.cursor ch) all (typed_some d up.text up.cursor ch own (opened_chars e all) types)
edited_chars d _ e own types all = all

-- a picture that is asked for is of characters
abbrev pub SpecHasChars : DomainSpec → Type 0
SpecHasChars (asked.Picture text) = AreChars text
SpecHasChars _ = Unit {0}

kind_chars : (spec : DomainSpec) (k : domains.Kind) → IsKind spec k → SpecHasChars spec → KindHasChars k
kind_chars (asked.Picture text) (Picture p) is own = subst AreChars (sym is.1) own
kind_chars asked.Any (Picture p) is own = absurd is
kind_chars (asked.Filter set) (Picture p) is own = absurd is
kind_chars (asked.Range least greatest) (Picture p) is own = absurd is
kind_chars spec Any is own = tt
kind_chars spec (Filter set) is own = tt
kind_chars spec (Range least greatest) is own = tt

edited_by_chars : (spec : InputSpec) (k : Key) (e : Edit) → SpecHasChars spec.domain → KeyTypes k → HasChars e → HasChars (edited_by spec k e)
edited_by_chars spec k e own types all =
    option_cases (domain_of spec) (λ o. HasChars (edited_in o k e)) (λ none. all)
    (λ d is. edited_chars d k e (kind_chars spec.domain d.kind ((domain_law spec d).0 is).kind own) types all)

-- ---- values

abbrev pub ValueHasChars : Option Value → Type 0
ValueHasChars None = Unit {0}
ValueHasChars (Some value) = HasCharacters value

pub text_chars : (v : Option Value) → ValueHasChars v → AreChars (text_of v)
text_chars None has = All-nil IsChar
text_chars (Some (values.Text text)) has = scalars_all text has
text_chars (Some (values.Marks marks)) has = All-nil IsChar
text_chars (Some (values.Item item)) has = All-nil IsChar

edit_chars : (e : Edit) → HasChars e → ValueHasChars (edit_content e).value
edit_chars e all = all_scalar e.text all

held_chars : (v : Option Value) → ValueHasChars v → HasCharacters (held_marks v)
held_chars None has = tt
held_chars (Some value) has = has

flipped_chars : (v : Value) (item : ℕ) → HasCharacters v → HasCharacters (flipped v item)
flipped_chars (values.Text text) item has = has
flipped_chars (values.Marks marks) item has = tt
flipped_chars (values.Item other) item has = tt

pub pressed_chars : (kind : ClusterKind) (item : ℕ) (c : Content) → ValueHasChars c.value → ValueHasChars (cluster_item_pressed kind item c).value
pressed_chars Boxes item c has = flipped_chars (held_marks c.value) item (held_chars c.value has)
pressed_chars Radios item c has = tt

-- ---- answers

abbrev pub AnswerHasChars : Answer → Type 0
AnswerHasChars (Becomes content) = ValueHasChars content.value
AnswerHasChars _ = Unit {0}

cluster_chars : (kind : ClusterKind) (k : ClusterKey) (c : Content) → ValueHasChars c.value → AnswerHasChars (cluster_answer kind k c)
cluster_chars kind presses.Passed c has = tt
cluster_chars Boxes (presses.Selects item) c has = held_chars c.value has
cluster_chars Radios (presses.Selects item) c has = tt
cluster_chars Boxes (presses.Presses item) c has = flipped_chars (held_marks c.value) item (held_chars c.value has)
cluster_chars Radios (presses.Presses item) c has = tt

list_chars : (height count : ℕ) (o : Option ℕ) (c : Content) → AnswerHasChars (list_answer height count o c)
list_chars height count None c = tt
list_chars height count (Some item) c = tt

-- what an input may fill in is of characters
abbrev pub InputHasChars : Kind → Type 0
InputHasChars (kinds.Input input) = SpecHasChars input.spec.domain
InputHasChars _ = Unit {0}

pub key_chars : (kind : Kind) (k : Key) (c : Content) → InputHasChars kind → KeyTypes k → ValueHasChars c.value → AnswerHasChars (key_answer kind k c)
key_chars (kinds.Input input) k c own types has =
    bool_cases (is_edit_key k) (λ b. AnswerHasChars (if b then Becomes (edit_content (edited_by input.spec k (edit_of c))) else Passed))
    (λ is. edit_chars (edited_by input.spec k (edit_of c)) (edited_by_chars input.spec k (edit_of c) own types (text_chars c.value has))) (λ other. tt)
key_chars (kinds.CheckBoxes boxes) k c own types has = cluster_chars Boxes (cluster_key boxes.items (length boxes.items) (selected_of Boxes c) k) c has
key_chars (kinds.RadioButtons radios) k c own types has = cluster_chars Radios (cluster_key radios.items (length radios.items) (selected_of Radios c) k) c has
key_chars (kinds.List list) k c own types has = list_chars (natural list.h) (length list.items) (asked_item (natural list.h) (length list.items) (chosen_of c) k) c
key_chars (kinds.Button button) k c own types has = bool_cases (is_press k) (λ b. AnswerHasChars (if b then Presses else Passed)) (λ is. tt) (λ other. tt)
key_chars _ k c own types has = tt

pub down_chars : (kind : Kind) (first column row : ℕ) (c : Content) → ValueHasChars c.value → ValueHasChars (down_content kind first column row c).value
down_chars (kinds.Input input) first column row c has = all_scalar (text_of c.value) (text_chars c.value has)
down_chars (kinds.List list) first column row c has = tt
down_chars _ first column row c has = has

pub move_chars : (kind : Kind) (row : ℕ) (c : Content) → ValueHasChars c.value → ValueHasChars (move_content kind row c).value
move_chars (kinds.List list) row c has = tt
move_chars _ row c has = has

released_chars : (kind : ClusterKind) (item row : ℕ) (c : Content) → ValueHasChars c.value → AnswerHasChars (if item_of_row row == item then Becomes (cluster_item_pressed kind item c) else Passed)
released_chars kind item row c has = bool_cases (item_of_row row == item) (λ b. AnswerHasChars (if b then Becomes (cluster_item_pressed kind item c) else Passed)) (λ same. pressed_chars kind item c has) (λ other. tt)

pub up_chars : (kind : Kind) (item row : ℕ) (c : Content) → ValueHasChars c.value → AnswerHasChars (up_answer kind item row c)
up_chars (kinds.CheckBoxes boxes) item row c has = released_chars Boxes item row c has
up_chars (kinds.RadioButtons radios) item row c has = released_chars Radios item row c has
up_chars (kinds.Button button) item row c has = tt
up_chars _ item row c has = tt
