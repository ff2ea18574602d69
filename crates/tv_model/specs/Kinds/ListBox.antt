-- List boxes: what their keys and the mouse make of them, and what they show. Items count from 1.
use Rattle.std.specs.Prelude.{[], ℕ, Bool, true, not, List, ◌∷◌, length, max, min, Option, Some, None}
use Rattle.std.specs.Prelude.{IsTrue, ◌≤◌, ◌+◌, ◌-◌, ◌==◌, nat_le, nat_lt, if◌then◌else◌}
use Rattle.tv_cells.specs.Glyph.{Glyph, shown}
use Rattle.tv_event.specs.declared.event.Key.{Key}
use Rattle.tv_event.specs.declared.event.Key.TheVariants as keys
use Rattle.tv_palette.specs.declared.role.Role.{Role}
use Rattle.tv_palette.specs.declared.role.Role.TheVariants as roles
use Rattle.tv_palette.specs.declared.role.ListRole.{ListRole}
use Rattle.tv_palette.specs.declared.role.ListRole.TheVariants as list
use Rattle.tv_model.specs.declared.kind.ListBox.{ListBox}
use Rattle.tv_model.specs.declared.record.Value.TheVariants as values
use Rattle.tv_model.specs.Controls.Behaviour.{Behaviour, plain, Facts, plain_facts, Answer, Passed, Becomes}
use Rattle.tv_model.specs.Controls.Behaviour.{Holds}
use Rattle.tv_model.specs.Controls.Contents.{Content, item_of, text_at, is_item_place, IsItem}
use Rattle.tv_model.specs.Controls.Look.{Look}
use Rattle.tv_model.specs.Controls.Private.{Private, Scrolled}
use Rattle.tv_model.specs.Description.Numbers.{natural}
use Rattle.tv_model.specs.Screen.Faces.{FaceOf, text_row}

-- ---- what it holds

-- the chosen item, and the one of the top row
pub record Chosen : Type 0 where
  pub item : ℕ
  pub top : ℕ

-- the item of the top row
abbrev pub top_of : Private → ℕ
top_of (Scrolled top) = top
top_of _ = 1

-- what a list holds
abbrev pub chosen_of : Content → Chosen
chosen_of c = record { item = item_of c.value; top = top_of c.private }

-- a list that holds this
abbrev pub with_chosen : Chosen → Content → Content
with_chosen held c = record c { value = Some (values.Item held.item); private = Scrolled held.top }

-- it keeps the item of its top row
abbrev pub IsScrolled : Private → Type 0
IsScrolled (Scrolled top) = Unit {0}
IsScrolled _ = ⊥

-- ---- keys and the mouse

-- the top moves by the least amount that shows the item
abbrev pub top_for : ℕ → ℕ → ℕ → ℕ
top_for height item top =
    if nat_lt item top then item else if nat_le (top + height) item then item + 1 - height else top

-- an item is chosen, or the nearest that there is
abbrev pub within : ℕ → ℕ → ℕ
within count item = max 1 (min item count)

-- the list with an item chosen, or the nearest that there is
abbrev pub chosen : ℕ → ℕ → ℕ → Chosen → Chosen
chosen height count item c = record {
  item = within count item;
  top = top_for height (within count item) c.top;
}

-- the item that a key asks for; those of other keys are passed on
abbrev pub asked_item : ℕ → ℕ → Chosen → Key → Option ℕ
asked_item height count c keys.Up = Some (c.item - 1)
asked_item height count c keys.Down = Some (c.item + 1)
asked_item height count c keys.PageUp = Some (c.item - height)
asked_item height count c keys.PageDown = Some (c.item + height)
asked_item height count c keys.Home = Some c.top
asked_item height count c keys.End = Some (c.top + height - 1)
asked_item height count c keys.CtrlPageUp = Some 1
asked_item height count c keys.CtrlPageDown = Some count
asked_item height count c _ = None

-- the item of a row, or the last one
abbrev pub item_at_row : ℕ → Chosen → ℕ → ℕ
item_at_row count c row = min (c.top + row) count

-- what a list makes of the item that a key asks for
abbrev pub list_answer : ℕ → ℕ → Option ℕ → Content → Answer
list_answer height count None c = Passed
list_answer height count (Some item) c = Becomes (with_chosen (chosen height count item (chosen_of c)) c)

-- the list with the item of a row chosen, or the last item
abbrev pub row_chosen : ℕ → ℕ → ℕ → Content → Content
row_chosen height count row c =
    with_chosen (chosen height count (item_at_row count (chosen_of c) row) (chosen_of c)) c

-- ---- what it shows

-- the role of a row by whether the list has the focus and its item is the chosen one
abbrev pub list_role : (is_focused is_chosen : Bool) → ListRole
list_role is_focused is_chosen =
    if not is_chosen then list.Normal else if is_focused then list.Focused else list.Chosen

-- a row with an item
abbrev pub list_row : (Role → ℕ) → Look → List (List ℕ) → (chosen item : ℕ) → ℕ → Glyph
list_row colour look items chosen item x =
    shown (text_row (text_at items item) x) (colour (roles.List (list_role look.is_focused (chosen == item))))

-- an item a row, from that of the top row on
abbrev pub list_face : (Role → ℕ) → Look → List (List ℕ) → Content → FaceOf
list_face colour look items c x y = list_row colour look items (chosen_of c).item ((chosen_of c).top + y) x

-- ---- the whole

abbrev pub list_behaviour : ListBox → Behaviour
list_behaviour l = record plain {
  name = Some l.name;
  rows = l.h;
  texts = l.items;
  is_control = true;
  value = Some (values.Item (natural l.start));
  opened = λ value. Scrolled (max 1 (item_of value + 1 - natural l.h));
  key =
      λ k c.
      list_answer (natural l.h) (length l.items)
      (asked_item (natural l.h) (length l.items) (chosen_of c) k) c;
  down = Holds;
  down_content = λ first column row c. row_chosen (natural l.h) (length l.items) row c;
  move_content = λ row c. row_chosen (natural l.h) (length l.items) row c;
  faces = λ colour owner look width c. list_face colour look l.items c ∷ [];
}

abbrev pub list_facts : ListBox → Facts
list_facts l = record plain_facts {
  HasLawfulCount = (1 ≤ length l.items) × (length l.items ≤ 100);
  HasLawfulStart = IsItem l.start (length l.items);
  IsItem = λ item. IsTrue (is_item_place (length l.items) item);
  IsPrivate = IsScrolled;
}
