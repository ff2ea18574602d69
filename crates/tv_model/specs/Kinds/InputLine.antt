-- Input lines: their text, its domain, what keys and the mouse make of it, and what they show.
use Rattle.std.specs.Prelude.{[], ◌≡◌, ℕ, Bool, true, false, not, ◌&&◌, List, ◌∷◌, length, remove, min}
use Rattle.std.specs.Prelude.{Option, Some, None, pos, ◌+◌, ◌-◌, ◌==◌, nat_lt, if◌then◌else◌}
use Rattle.tv_cells.specs.Glyph.{shown}
use Rattle.tv_event.specs.declared.event.Key.{Key}
use Rattle.tv_event.specs.declared.event.Key.TheVariants as keys
use Rattle.tv_palette.specs.declared.role.Role.{Role}
use Rattle.tv_palette.specs.declared.role.Role.TheVariants as roles
use Rattle.tv_palette.specs.declared.role.InputRole.{InputRole}
use Rattle.tv_palette.specs.declared.role.InputRole.TheVariants as input
use Rattle.tv_valid.specs.declared.domain.Domain.{Domain}
use Rattle.tv_valid.specs.declared.input.DomainSpec.{DomainSpec}
use Rattle.tv_valid.specs.declared.input.DomainSpec.TheVariants as domains
use Rattle.tv_valid.specs.declared.input.InputSpec.{InputSpec}
use Rattle.tv_valid.specs.Asking.{domain_of}
use Rattle.tv_valid.specs.Deciding.{in_domain, viable}
use Rattle.tv_valid.specs.Domain.{HasText, IsDomain, IsViableText}
use Rattle.tv_valid.specs.Typing.{typed_of}
use Rattle.tv_model.specs.declared.kind.Input.{Input}
use Rattle.tv_model.specs.declared.record.Value.TheVariants as values
use Rattle.tv_model.specs.Controls.Behaviour.{Behaviour, plain, Facts, plain_facts, Passed, Becomes, Holds}
use Rattle.tv_model.specs.Controls.Contents.{Content, text_of}
use Rattle.tv_model.specs.Controls.Look.{Look}
use Rattle.tv_model.specs.Controls.Private.{Private, Editing}
use Rattle.tv_model.specs.Description.Numbers.{IsBetween}
use Rattle.tv_model.specs.Screen.Faces.{FaceOf, text_row}

-- ---- what it holds

-- the text, the place of the cursor, whether the whole text is selected, and whether typing overwrites
pub record Edit : Type 0 where
  pub text : List ℕ
  pub cursor : ℕ
  pub is_whole : Bool
  pub overwrites : Bool

-- the place of the cursor
abbrev pub cursor_of : Private → ℕ
cursor_of (Editing cursor is_whole) = cursor
cursor_of _ = 0

-- whether the whole text is selected
abbrev pub is_whole_of : Private → Bool
is_whole_of (Editing cursor is_whole) = is_whole
is_whole_of _ = false

-- what an input holds
abbrev pub edit_of : Content → Edit
edit_of c = record {
  text = text_of c.value;
  cursor = cursor_of c.private;
  is_whole = is_whole_of c.private;
  overwrites = c.overwrites;
}

-- an input that holds this
abbrev pub edit_content : Edit → Content
edit_content e = record {
  value = Some (values.Text e.text);
  private = Editing e.cursor e.is_whole;
  overwrites = e.overwrites;
}

-- ---- its domain

-- the set of a filter, or the picture
abbrev pub domain_texts : DomainSpec → List (List ℕ)
domain_texts (domains.Filter set) = set ∷ []
domain_texts (domains.Picture picture) = picture ∷ []
domain_texts _ = []

-- a text outside the domain, if there is one
abbrev pub is_outside_domain : Option Domain → List ℕ → Bool
is_outside_domain None text = false
is_outside_domain (Some domain) text = not (in_domain domain text)

-- some text lies in the domain that the input asks for. A bad picture asks for none
abbrev pub HasAnyText : InputSpec → Type 0
HasAnyText spec = (d : Domain) × IsDomain spec d × HasText d

-- the text may stand in the input while it is typed
abbrev pub MayStand : List ℕ → InputSpec → Type 0
MayStand text spec = (d : Domain) × IsDomain spec d × IsViableText d text

-- it keeps the place of its cursor
abbrev pub IsEditing : Private → Type 0
IsEditing (Editing cursor is_whole) = Unit {0}
IsEditing _ = ⊥

-- ---- keys and the mouse

-- the keys of the table; it passes all others on
abbrev pub is_edit_key : Key → Bool
is_edit_key keys.Left = true
is_edit_key keys.Right = true
is_edit_key keys.Home = true
is_edit_key keys.End = true
is_edit_key keys.Insert = true
is_edit_key keys.Backspace = true
is_edit_key keys.Delete = true
-- Y
is_edit_key (keys.Ctrl letter) = letter == 89
is_edit_key (keys.Char ch) = true
is_edit_key _ = false

-- the cursor at a place, and nothing selected
abbrev pub at_place : ℕ → Edit → Edit
at_place place e = record e { cursor = place; is_whole = false }

-- another text, with the cursor at a place and nothing selected
abbrev pub with_text : List ℕ → ℕ → Edit → Edit
with_text text place e = record e { text = text; cursor = place; is_whole = false }

-- the character before the cursor goes, if there is one
abbrev pub backspaced : Edit → Edit
backspaced e =
    if e.cursor == 0 then at_place 0 e else with_text (remove e.text (e.cursor - 1)) (e.cursor - 1) e

-- the whole text goes where it is selected, else the character at the cursor, if there is one
abbrev pub deleted : Edit → Edit
deleted e =
    if e.is_whole then with_text [] 0 e
    else if nat_lt e.cursor (length e.text) then with_text (remove e.text e.cursor) e.cursor e
    else at_place e.cursor e

-- what a typed character is put into, at the cursor: nothing where the whole text is selected, and where it
-- overwrites
-- the text without the character at the cursor
abbrev pub opened_up : Edit → Edit
opened_up e =
    if e.is_whole then with_text [] 0 e
    else if e.overwrites && nat_lt e.cursor (length e.text) then with_text (remove e.text e.cursor) e.cursor e
    else e

-- where the cursor stands after a character: after it, or at the end of what it was filled up to
abbrev pub cursor_after : Edit → List ℕ → ℕ
cursor_after e out = if e.cursor == length e.text then length out else e.cursor + 1

-- Ctrl-Y empties the text
abbrev pub ctrl_edit : ℕ → Edit → Edit
ctrl_edit letter e = if letter == 89 then with_text [] 0 e else e

-- the first place of the text that is shown, in an input of this width
abbrev pub first_shown : ℕ → ℕ → ℕ
first_shown width cursor = cursor - (width - 3)

-- a mouse down on a column, where this place is the first shown
abbrev pub clicked : ℕ → ℕ → Edit → Edit
clicked first column e = at_place (min (first + column - 1) (length e.text)) e

-- the focus comes: the whole text is selected, if there is one, with the cursor at its end. It goes: nothing
-- is selected
abbrev pub entered : Edit → Edit
entered e = record e { cursor = length e.text; is_whole = nat_lt 0 (length e.text) }

-- the focus goes: nothing is selected, and the cursor is at the start
abbrev pub left : Edit → Edit
left e = record e { cursor = 0; is_whole = false }

-- an edit is made, unless its text isn't viable: then nothing changes
abbrev pub becomes : Domain → Edit → Edit → Edit
becomes d edit e = if viable d edit.text then edit else e

-- what a typed character made of the text, with the cursor after it; nothing changes where it is refused
abbrev pub typed_into : Edit → Option (List ℕ) → Edit
typed_into e None = e
typed_into e (Some text) = with_text text (cursor_after (opened_up e) text) e

-- a character is typed: into nothing where the whole text is selected, over a character, or between two
abbrev pub typed : Domain → ℕ → Edit → Edit
typed d ch e = typed_into e (typed_of d (opened_up e).text (opened_up e).cursor ch)

-- what a key makes of an input of the domain
abbrev pub edited : Domain → Key → Edit → Edit
edited d keys.Left e = at_place (e.cursor - 1) e
edited d keys.Right e = at_place (min (e.cursor + 1) (length e.text)) e
edited d keys.Home e = at_place 0 e
edited d keys.End e = at_place (length e.text) e
edited d keys.Insert e = record e { is_whole = false; overwrites = not e.overwrites }
edited d keys.Backspace e = becomes d (backspaced e) e
edited d keys.Delete e = becomes d (deleted e) e
edited d (keys.Ctrl letter) e = becomes d (ctrl_edit letter e) e
edited d (keys.Char ch) e = typed d ch e
edited d _ e = e

-- the same for the domain that a description asks for; without one nothing changes
abbrev pub edited_in : Option Domain → Key → Edit → Edit
edited_in None k e = e
edited_in (Some d) k e = edited d k e

-- what a key makes of an input that is declared so
abbrev pub edited_by : InputSpec → Key → Edit → Edit
edited_by spec k e = edited_in (domain_of spec) k e

-- ---- what it shows

-- what a column of an input shows
pub record InputCell : Type 0 where
  pub ch : ℕ
  pub role : InputRole

-- the role of a place of the text or after it: the cursor before selected text, and both only with the focus
abbrev pub text_role : Bool → Edit → ℕ → InputRole
text_role is_focused e place =
    if is_focused && (place == e.cursor) then input.Cursor
    else if is_focused && (e.is_whole && nat_lt place (length e.text)) then input.SelectedText
    else input.Normal

-- an arrow where text is hidden on its side, else a space
abbrev pub arrow_cell : Bool → ℕ → InputCell
arrow_cell is_hidden ch =
    if is_hidden then record { ch = ch; role = input.Arrow } else record { ch = 32; role = input.Normal }

-- a column of an input: an arrow at both ends, and between them the text from the first place that is shown
abbrev pub input_cell : ℕ → Bool → Edit → ℕ → InputCell
input_cell width is_focused e x =
    if x == 0 then arrow_cell (nat_lt 0 first) 60
    else if x + 1 == width then arrow_cell (nat_lt (first + width - 2) (length e.text)) 62
    else record { ch = text_row e.text (first + x - 1); role = text_role is_focused e (first + x - 1) }
  where
    first : ℕ
    first = first_shown width e.cursor

-- the text round the cursor
abbrev pub input_face : (Role → ℕ) → Look → ℕ → Content → FaceOf
input_face colour look width c x y = shown cell.ch (colour (roles.Input cell.role))
  where
    cell : InputCell
    cell = input_cell width look.is_focused (edit_of c) x

-- ---- the whole

abbrev pub input_behaviour : Input → Behaviour
input_behaviour i = record plain {
  name = Some i.name;
  least_width = pos 3;
  texts = i.start ∷ domain_texts i.spec.domain;
  is_control = true;
  is_edited = true;
  validates = i.validates;
  value = Some (values.Text i.start);
  opened = λ value. Editing 0 false;
  is_invalid = λ c. is_outside_domain (domain_of i.spec) (text_of c.value);
  key = λ k c. if is_edit_key k then Becomes (edit_content (edited_by i.spec k (edit_of c))) else Passed;
  down = Holds;
  down_content = λ first column row c. edit_content (clicked first column (edit_of c));
  faces = λ colour owner look width c. input_face colour look width c ∷ [];
}

abbrev pub input_facts : Input → Facts
input_facts i = record plain_facts {
  HasLawfulAmount = IsBetween (pos 1) (pos 120) i.spec.max;
  HasLawfulDomain = HasAnyText i.spec;
  HasLawfulStart = MayStand i.start i.spec;
  IsText = λ Allows text. (domain : Domain) × IsDomain i.spec domain × Allows domain text;
  IsPrivate = IsEditing;
  IsAtRest = λ private. private ≡ Editing 0 false;
}
