-- What comes of an action in a terminal, and what ends a run there.
use Rattle.std.specs.Prelude.{◌≡◌, Bool, true, false, not, ◌&&◌, ◌||◌, if◌then◌else◌, List, [], ◌∷◌}
use Rattle.std.specs.Prelude.{flat_map, is_some, length, ◌==◌}
use Rattle.std.specs.List.{list_any}
use Rattle.tv_event.specs.declared.event.Event.{Event as Happening}
use Rattle.tv_event.specs.declared.event.Event.TheVariants as events
use Rattle.tv_event.specs.declared.event.Key.{Key}
use Rattle.tv_event.specs.declared.event.Key.TheVariants as keys
use Rattle.tv_machine.specs.Output.{states}
use Rattle.tv_machine.specs.Run.{Session, stepped}
use Rattle.tv_model.specs.declared.desc.Desc.{Desc}
use Rattle.tv_model.specs.declared.log.LogLine.{LogLine}
use Rattle.tv_model.specs.declared.log.LogLine.TheVariants as lines
use Rattle.tv_machine.specs.declared.script.Item.{Item}
use Rattle.tv_model.specs.Faults.Letters.{is_same_key}
use Rattle.tv_play.specs.Edge.{brought}
use Rattle.tv_play.specs.declared.ends.Step.{Step}
use Rattle.tv_play.specs.declared.ends.Step.TheVariants as steps
use Rattle.tv_script.specs.Tapes.{script_with}
use Rattle.tv_terminal.specs.declared.action.Action.{Action}
use Rattle.tv_terminal.specs.declared.action.Action.TheVariants.{Event, Quit, Ready, Resized}

-- ---- events

-- the session to which events lead, with the log of the last one
abbrev pub session_at : Session → List Happening → Session
session_at s events = states stepped s events

-- ---- the player's own keys

-- Ctrl-C
abbrev pub interrupt : Key
interrupt = keys.Ctrl 67

-- Ctrl-L
abbrev pub refresh : Key
refresh = keys.Ctrl 76

-- the key is this one, and no status item has it
abbrev pub is_unclaimed : Desc → (own key : Key) → Bool
is_unclaimed d own key = is_same_key key own && not (list_any (λ item. is_same_key item.key own) d.status)

-- ---- the screen is painted anew

-- where the terminal reports, and by Ctrl-L where no status item has that key
abbrev pub is_refreshing : Desc → Action → Bool
is_refreshing d Quit = false
is_refreshing d Ready = true
is_refreshing d (Resized size) = true
is_refreshing d (Event (events.Key k)) = is_unclaimed d refresh k
is_refreshing d (Event event) = false

-- the events that are performed among actions: all but those, brought to the screen
abbrev pub event_in : Desc → Action → List Happening
event_in d (Event event) = brought d event ∷ []
event_in d _ = []

abbrev pub events_in : Desc → List Action → List Happening
events_in d actions = flat_map (λ action. if is_refreshing d action then [] else event_in d action) actions

-- the session to which actions lead
abbrev pub reached : Session → List Action → Session
reached s actions = session_at s (events_in s.desc actions)

-- the script of their events
abbrev pub script_of : Desc → List Action → List Item
script_of d actions = script_with (events_in d actions)

-- ---- the user leaves

-- by Ctrl-\ always, and by Ctrl-C where no status item has that key
abbrev pub is_leaving : Desc → Action → Bool
is_leaving d Quit = true
is_leaving d Ready = false
is_leaving d (Resized size) = false
is_leaving d (Event (events.Key k)) = is_unclaimed d interrupt k
is_leaving d (Event event) = false

-- what an action is taken for
abbrev pub IsTakenFor : Desc → Action → Step → Type 0
IsTakenFor d action steps.Leave = is_leaving d action ≡ true
IsTakenFor d action steps.Refresh = (is_leaving d action ≡ false) × (is_refreshing d action ≡ true)
IsTakenFor d action (steps.Perform event) =
    (action ≡ Event event) × (is_leaving d action ≡ false) × (is_refreshing d action ≡ false)

-- ---- the run ends by itself

abbrev pub is_quit : LogLine → Bool
is_quit lines.Quit = true
is_quit _ = false

-- there is neither a menu nor a status item
abbrev pub has_no_bars : Desc → Bool
has_no_bars d = (length d.menus == 0) && (length d.status == 0)

-- it was quit, or no dialog is open and nothing can open one
abbrev pub nothing_can_happen : Desc → List LogLine → (is_open : Bool) → Bool
nothing_can_happen d log is_open = list_any is_quit log || (not is_open && has_no_bars d)

abbrev pub is_finished : Session → Bool
is_finished s = nothing_can_happen s.desc s.state.log (is_some s.state.dialog)
