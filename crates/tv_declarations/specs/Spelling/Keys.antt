-- The words of keys.
use Rattle.std.specs.Prelude.{ℕ, ◌≤◌, pos, List, [], ◌∷◌, ◌++◌, ◌||◌, IsTrue, codes}
use Rattle.std.specs.Fmt.{signed_decimal}
use Rattle.std.specs.Char.{is_ascii_uppercase, is_ascii_digit}
use Rattle.tv_event.specs.declared.event.Key.{Key}
use Rattle.tv_event.specs.declared.event.Key.TheVariants as keys
use Rattle.tv_words.specs.declared.word.Word.{Word}
use Rattle.tv_words.specs.declared.word.Word.TheVariants.{Bare}

-- the name of a key that has one of its own
abbrev pub key_name : Key → List ℕ
key_name keys.Tab = codes "Tab"
key_name keys.ShiftTab = codes "Shift-Tab"
key_name keys.Enter = codes "Enter"
key_name keys.Esc = codes "Esc"
key_name keys.Up = codes "Up"
key_name keys.Down = codes "Down"
key_name keys.Left = codes "Left"
key_name keys.Right = codes "Right"
key_name keys.Home = codes "Home"
key_name keys.End = codes "End"
key_name keys.PageUp = codes "PgUp"
key_name keys.PageDown = codes "PgDn"
key_name keys.CtrlPageUp = codes "Ctrl-PgUp"
key_name keys.CtrlPageDown = codes "Ctrl-PgDn"
key_name keys.Backspace = codes "Backspace"
key_name keys.Delete = codes "Del"
key_name keys.Insert = codes "Ins"
key_name _ = []

-- the text of a key; a typed character has none
abbrev pub key_text : Key → List ℕ
key_text (keys.Ctrl letter) = codes "Ctrl-" ++ letter ∷ []
key_text (keys.Function number) = codes "F" ++ signed_decimal (pos number)
key_text (keys.Alt ch) = codes "Alt-" ++ ch ∷ []
key_text key = key_name key

-- the word of a key
abbrev pub key_word : Key → Word
key_word key = Bare (key_text key)

-- a key that has a name: Ctrl with A to Z, F1 to F12, Alt with A to Z or 0 to 9, or one of the others
abbrev pub IsKey : Key → Type 0
IsKey (keys.Ctrl letter) = IsTrue (is_ascii_uppercase letter)
IsKey (keys.Function number) = (1 ≤ number) × (number ≤ 12)
IsKey (keys.Alt ch) = IsTrue (is_ascii_uppercase ch || is_ascii_digit ch)
IsKey (keys.Char ch) = ⊥
IsKey _ = Unit {0}
