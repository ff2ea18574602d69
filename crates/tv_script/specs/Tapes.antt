-- Events, as the lines of a script.
use Rattle.std.specs.Prelude.{◌≡◌, ◌≤◌, ℕ, ℤ, false, true, List, [], ◌∷◌, ◌++◌, map, flat_map, length}
use Rattle.std.specs.Prelude.{IsTrue, codes, decimal, encode_utf8}
use Rattle.std.specs.Char.{is_control}
use Rattle.std.specs.Fmt.{signed_decimal}
use Rattle.std.specs.List.{AllByRecursion}
use Rattle.tv_cells.specs.declared.rect.Point.{Point}
use Rattle.tv_declarations.specs.Spelling.Keys.{IsKey, key_name}
use Rattle.tv_event.specs.declared.event.Event.{Event}
use Rattle.tv_event.specs.declared.event.Event.TheVariants as events
use Rattle.tv_event.specs.declared.event.Key.{Key}
use Rattle.tv_event.specs.declared.event.Key.TheVariants as keys
use Rattle.tv_machine.specs.declared.script.Item.{Item}
use Rattle.tv_machine.specs.declared.script.Item.TheVariants as items
use Rattle.tv_model.specs.Log.LogText.{line_of, quoted_text}
use Rattle.tv_script.specs.Lines.{IsPoint, is_point_within}
use Rattle.tv_script.specs.Scripts.{SpellsAScript}
use lib.Utf8.{scalar}

-- ---- words

-- what follows the name of a key that has none of its own
abbrev pub key_rest : Key → List ℕ
key_rest (keys.Ctrl letter) = codes "Ctrl-" ++ encode_utf8 letter
key_rest (keys.Function number) = codes "F" ++ decimal number
key_rest (keys.Alt ch) = codes "Alt-" ++ encode_utf8 ch
key_rest _ = []

-- a keyword and what follows it
unfoldable pub said : (keyword rest : List ℕ) → List ℕ
said keyword rest = keyword ++ rest

-- a key has its name, and a character is typed
abbrev pub key_words : Key → List ℕ
key_words (keys.Char ch) = said (codes "type ") (quoted_text (ch ∷ []))
key_words key = said (codes "key ") (key_name key ++ key_rest key)

-- a keyword and a point
abbrev pub point_words : (keyword : List ℕ) → Point → List ℕ
point_words keyword p = said keyword (signed_decimal p.x ++ codes " " ++ signed_decimal p.y)

-- an event. No script has a command or a broadcast: users give none
abbrev pub event_words : Event → List ℕ
event_words (events.Key key) = key_words key
event_words (events.Down p) = point_words (codes "down ") p
event_words (events.Move p) = point_words (codes "move ") p
event_words (events.Up p) = point_words (codes "up ") p
event_words (events.Command command) = []
event_words (events.Broadcast command) = []

-- ---- lines

-- the same, as a line of its own
abbrev pub key_line : Key → List ℕ
key_line (keys.Char ch) = line_of (codes "type ") (quoted_text (ch ∷ []))
key_line key = line_of (codes "key ") (key_name key ++ key_rest key)

abbrev pub point_line : (keyword : List ℕ) → Point → List ℕ
point_line keyword p = line_of keyword (signed_decimal p.x ++ codes " " ++ signed_decimal p.y)

abbrev pub event_line : Event → List ℕ
event_line (events.Key key) = key_line key
event_line (events.Down p) = point_line (codes "down ") p
event_line (events.Move p) = point_line (codes "move ") p
event_line (events.Up p) = point_line (codes "up ") p
event_line (events.Command command) = []
event_line (events.Broadcast command) = []

-- the lines of events
abbrev pub script_text : List Event → List ℕ
script_text events = flat_map event_line events

-- the script that has these events and nothing else
abbrev pub script_with : List Event → List Item
script_with events = map items.Event events

-- ---- what they spell

-- a key with a name, or a character that may stand in a line
abbrev pub IsSayableKey : Key → Type 0
IsSayableKey (keys.Char ch) = (scalar ch ≡ true) × (is_control ch ≡ false)
IsSayableKey key = IsKey key

abbrev pub IsPointOf : (width height : ℤ) → Point → Type 0
IsPointOf width height p = IsPoint p × IsTrue (is_point_within width height p)

-- an event that a script for a screen of so many columns and rows can say
abbrev pub IsSayable : (width height : ℤ) → Event → Type 0
IsSayable width height (events.Key key) = IsSayableKey key
IsSayable width height (events.Down p) = IsPointOf width height p
IsSayable width height (events.Move p) = IsPointOf width height p
IsSayable width height (events.Up p) = IsPointOf width height p
IsSayable width height (events.Command command) = ⊥
IsSayable width height (events.Broadcast command) = ⊥

-- the lines of such events, where there are no more of them and of their bytes than a script may have, spell
-- the script of these events
abbrev pub TapesAreScripts : Type 0
TapesAreScripts =
    (width height : ℤ) (events : List Event) → AllByRecursion (IsSayable width height) events
    → length events ≤ 100000 → length (script_text events) ≤ 1048576
    → SpellsAScript width height (script_text events) (script_with events)
