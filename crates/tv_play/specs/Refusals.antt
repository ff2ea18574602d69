-- What an input refuses: a text that isn't right, where the focus would leave it or its dialog end, and a character
-- that is typed in it.
use Rattle.std.specs.Prelude.{ℕ, ◌+◌, Bool, true, false, not, ◌&&◌, ◌==◌, if◌then◌else◌, List, [], ◌∷◌, length}
use Rattle.std.specs.Prelude.{Option, Some, None, is_some, option_map}
use Rattle.std.specs.List.{list_any, range_with_len}
use Rattle.std.specs.Option.{option_and_then, option_or}
use Rattle.tv_cells.specs.Glyph.{Glyph}
use Rattle.tv_event.specs.declared.event.Event.{Event as Happening}
use Rattle.tv_event.specs.declared.event.Event.TheVariants as events
use Rattle.tv_event.specs.declared.event.Key.TheVariants as keys
use Rattle.tv_machine.specs.Output.{screen_cell}
use Rattle.tv_machine.specs.Run.{Session, stepped}
use Rattle.tv_model.specs.Description.Heads.{all_nodes}
use Rattle.tv_model.specs.Description.Nodes.{node_of}
use Rattle.tv_model.specs.Description.Numbers.{natural}
use Rattle.tv_model.specs.declared.desc.Desc.{Desc}
use Rattle.tv_model.specs.declared.kind.Kind.{Kind}
use Rattle.tv_model.specs.declared.kind.Kind.TheVariants as kinds
use Rattle.tv_model.specs.declared.log.LogLine.{LogLine}
use Rattle.tv_model.specs.declared.log.LogLine.TheVariants as lines
use Rattle.tv_model.specs.declared.node.Id.{Id}
use Rattle.tv_model.specs.declared.node.Node.{Node}
use Rattle.tv_play.specs.declared.refusal.Refusal.{Refusal}

-- ---- a text

-- the first input of which the log says that its text isn't right
abbrev pub invalid_in : List LogLine → Option Id
invalid_in [] = None
invalid_in (lines.Invalid id ∷ log) = Some id
invalid_in (line ∷ log) = invalid_in log

-- ---- a character

abbrev pub is_typed : Happening → Bool
is_typed (events.Key (keys.Char ch)) = true
is_typed event = false

abbrev pub is_same_cell : Glyph → Glyph → Bool
is_same_cell a b = (a.ch == b.ch) && (a.attr == b.attr)

-- a cell of the screen, or of one of its rows, shows something else
abbrev pub has_other_cell : (old new : Session) → (row column : ℕ) → Bool
has_other_cell old new row column = not (is_same_cell (screen_cell old column row) (screen_cell new column row))

abbrev pub has_other_in_row : (old new : Session) → (row : ℕ) → Bool
has_other_in_row old new row = list_any (has_other_cell old new row) (range_with_len 0 (natural old.desc.width))

abbrev pub has_changed : (old new : Session) → Bool
has_changed old new = list_any (has_other_in_row old new) (range_with_len 0 (natural old.desc.height))

-- a character was typed, and nothing that shows has changed
abbrev pub is_in_vain : (old new : Session) → Happening → Bool
is_in_vain old new event = is_typed event && not (has_changed old new)

abbrev pub is_input_kind : Kind → Bool
is_input_kind (kinds.Input input) = true
is_input_kind kind = false

abbrev pub is_input : Option Node → Bool
is_input None = false
is_input (Some node) = is_input_kind node.kind

-- the control, where it is an input
abbrev pub input_of : Desc → Id → Option Id
input_of d id = if is_input (node_of (all_nodes d) id) then Some id else None

-- the control of the open dialog that has the focus
abbrev pub focus_of : Session → Option Id
focus_of s = option_map (λ o. o.focus) s.state.dialog

abbrev pub focused_input : Session → Option Id
focused_input s = option_and_then (input_of s.desc) (focus_of s)

-- the input with the focus refused the character where nothing that shows has changed and nothing is logged
abbrev pub refused_character : (old new : Session) → Happening → Option Id
refused_character old new event =
    if is_in_vain old new event && (length new.state.log == 0) then focused_input new else None

-- ---- either

-- whether a control has the focus. An input that isn't right gets it at an end, unless it is hidden
abbrev pub is_focus : Id → Option Id → Bool
is_focus id None = false
is_focus id (Some focus) = id.0 == focus.0

-- what an event was refused by, if it was
abbrev pub refusal_of : (old new : Session) → Happening → Option Refusal
refusal_of old new event =
    option_map (λ id. record { id = id; is_hidden = not (is_focus id (focus_of new)) })
    (option_or (invalid_in new.state.log) (refused_character old new event))

abbrev pub is_refused : Session → Happening → Bool
is_refused s event = is_some (refusal_of s (stepped s event) event)

-- how many of some events are refused
abbrev pub refusals : Session → List Happening → ℕ
refusals s [] = 0
refusals s (e ∷ events) = (if is_refused s e then 1 else 0) + refusals (stepped s e) events
