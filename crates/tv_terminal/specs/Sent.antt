-- What a terminal can send.
use Rattle.std.specs.Prelude.{◌≡◌, ◌≤◌, ◌||◌, false, true, IsTrue}
use Rattle.std.specs.Char.{is_ascii_digit, is_ascii_uppercase, is_control}
use Rattle.tv_event.specs.declared.event.Event.{Event as Happening}
use Rattle.tv_event.specs.declared.event.Event.TheVariants as events
use Rattle.tv_event.specs.declared.event.Key.{Key}
use Rattle.tv_event.specs.declared.event.Key.TheVariants as keys
use Rattle.tv_terminal.specs.Points.{HasPlaces}
use Rattle.tv_terminal.specs.declared.action.Action.{Action}
use Rattle.tv_terminal.specs.declared.action.Action.TheVariants.{Event, Quit, Ready, Resized}
use lib.Utf8.{scalar}

-- Ctrl with A to Z, F1 to F12, Alt with A to Z or 0 to 9, a character that is no control character, or a key
-- with a name of its own
abbrev pub IsSentKey : Key → Type 0
IsSentKey (keys.Ctrl letter) = IsTrue (is_ascii_uppercase letter)
IsSentKey (keys.Function number) = (1 ≤ number) × (number ≤ 12)
IsSentKey (keys.Alt ch) = IsTrue (is_ascii_uppercase ch || is_ascii_digit ch)
IsSentKey (keys.Char ch) = (scalar ch ≡ true) × (is_control ch ≡ false)
IsSentKey _ = Unit {0}

-- such a key, or the mouse where it can be
abbrev pub IsSent : Happening → Type 0
IsSent (events.Key key) = IsSentKey key
IsSent (events.Down p) = HasPlaces p
IsSent (events.Move p) = HasPlaces p
IsSent (events.Up p) = HasPlaces p
IsSent (events.Command command) = ⊥
IsSent (events.Broadcast command) = ⊥

abbrev pub IsSentAction : Action → Type 0
IsSentAction (Event event) = IsSent event
IsSentAction Quit = Unit {0}
IsSentAction Ready = Unit {0}
IsSentAction (Resized size) = Unit {0}
