-- The lines of scripts: their words, their items, and which of their points are on a screen.
use Rattle.std.specs.Prelude.{◌≡◌, ℕ, ℤ, pos, List, [], ◌∷◌, Bool, true, false, ◌&&◌, map, flat_map, ◌≤ℤ◌}
use Rattle.std.specs.Prelude.{◌<ℤ◌, int_le, int_lt, codes, ◌==◌}
use Rattle.std.specs.List.{list_any}
use Rattle.tv_cells.specs.declared.rect.Point.{Point}
use Rattle.tv_declarations.specs.Spelling.Keys.{IsKey, key_word}
use Rattle.tv_event.specs.declared.event.Event.{Event}
use Rattle.tv_event.specs.declared.event.Event.TheVariants as events
use Rattle.tv_event.specs.declared.event.Key.TheVariants as keys
use Rattle.tv_machine.specs.declared.script.Item.{Item}
use Rattle.tv_machine.specs.declared.script.Item.TheVariants as items
use Rattle.tv_script.specs.Line.{Line}
use Rattle.tv_script.specs.Line as lines
use Rattle.tv_words.specs.declared.word.Word.{Word}
use Rattle.tv_words.specs.declared.word.Word.TheVariants.{Bare, Quoted}
use Rattle.tv_words.specs.Fields.{IsNumber, number_word}

-- ---- spelling

-- a keyword and a point
abbrev pub point_words : List ℕ → Point → List Word
point_words keyword p = Bare keyword ∷ number_word p.x ∷ number_word p.y ∷ []

-- the words of a line
abbrev pub words_of_line : Line → List Word
words_of_line (lines.Key key) = Bare (codes "key") ∷ key_word key ∷ []
words_of_line (lines.Typed text) = Bare (codes "type") ∷ Quoted text ∷ []
words_of_line (lines.Down p) = point_words (codes "down") p
words_of_line (lines.Move p) = point_words (codes "move") p
words_of_line (lines.Up p) = point_words (codes "up") p
words_of_line lines.Shot = Bare (codes "shot") ∷ []
words_of_line lines.Colors = Bare (codes "colors") ∷ []

-- a point of two numbers
abbrev pub IsPoint : Point → Type 0
IsPoint p = IsNumber p.x × IsNumber p.y

-- a line end
abbrev pub ends_line : ℕ → Bool
ends_line c = c == 10

-- a line that can be spelled: a key with a name, a text without a line end, or a point of two numbers
abbrev pub IsLine : Line → Type 0
IsLine (lines.Key key) = IsKey key
IsLine (lines.Typed text) = list_any ends_line text ≡ false
IsLine (lines.Down p) = IsPoint p
IsLine (lines.Move p) = IsPoint p
IsLine (lines.Up p) = IsPoint p
IsLine lines.Shot = Unit {0}
IsLine lines.Colors = Unit {0}

-- ---- items

-- a character that is typed
abbrev pub item_typed : ℕ → Item
item_typed ch = items.Event (events.Key (keys.Char ch))

-- the items of a line: a typed text has one for each character
abbrev pub items_of_line : Line → List Item
items_of_line (lines.Key key) = items.Event (events.Key key) ∷ []
items_of_line (lines.Typed text) = map item_typed text
items_of_line (lines.Down p) = items.Event (events.Down p) ∷ []
items_of_line (lines.Move p) = items.Event (events.Move p) ∷ []
items_of_line (lines.Up p) = items.Event (events.Up p) ∷ []
items_of_line lines.Shot = items.Shot ∷ []
items_of_line lines.Colors = items.Colors ∷ []

-- the items of lines
abbrev pub items_of : List Line → List Item
items_of ls = flat_map items_of_line ls

-- ---- the screen

-- one of so many columns or rows
abbrev pub is_on_axis : ℤ → ℤ → Bool
is_on_axis size at = int_le (pos 0) at && int_lt at size

-- a point of a screen of so many columns and rows
abbrev pub is_point_within : ℤ → ℤ → Point → Bool
is_point_within width height p = is_on_axis width p.x && is_on_axis height p.y

-- a line whose point, if it has one, is on the screen
abbrev pub is_on_screen : ℤ → ℤ → Line → Bool
is_on_screen width height (lines.Down p) = is_point_within width height p
is_on_screen width height (lines.Move p) = is_point_within width height p
is_on_screen width height (lines.Up p) = is_point_within width height p
is_on_screen width height _ = true

-- ---- events

-- a point of the largest screen, one of 132 columns and 60 rows
pub record IsPointOnScreen (p : Point) : Type 0 where
  pub column : (pos 0 ≤ℤ p.x) × (p.x <ℤ pos 132)
  pub row : (pos 0 ≤ℤ p.y) × (p.y <ℤ pos 60)

-- an event whose point, if it has one, is of the largest screen
abbrev pub IsEventOnScreen : Event → Type 0
IsEventOnScreen (events.Down p) = IsPointOnScreen p
IsEventOnScreen (events.Move p) = IsPointOnScreen p
IsEventOnScreen (events.Up p) = IsPointOnScreen p
IsEventOnScreen _ = Unit {0}

-- an item whose event, if it is one, is such an event
abbrev pub IsItemOnScreen : Item → Type 0
IsItemOnScreen (items.Event e) = IsEventOnScreen e
IsItemOnScreen items.Shot = Unit {0}
IsItemOnScreen items.Colors = Unit {0}
