-- What events and commands make of what stands at a handle.
use Rattle.std.specs.Prelude.{◌≡◌, ◌+◌, ℕ, Bool, true, false, List, [], ◌∷◌, ◌++◌, map, length, Option, None, Some}
use Rattle.tv_app.specs.Running.{Runs, Session, commanded, stepped, takes_command}
use Rattle.tv_app.specs.declared.app.App.{App}
use Rattle.tv_event.specs.declared.event.Command.{Command}
use Rattle.tv_event.specs.declared.event.Event.{Event}
use Rattle.tv_held.specs.Holding.{Holding, IsHeld, Running, Unopened, answer_after, bare, unopened}
use Rattle.tv_held.specs.declared.answer.Answer.{Answer}
use Rattle.tv_held.specs.declared.answer.Answer.TheVariants as answers
use Rattle.tv_held.specs.declared.answer.Told.{Told}
use Rattle.tv_held.specs.declared.held.Held.{Held}
use Rattle.tv_machine.specs.declared.script.Item.{Item}
use Rattle.tv_machine.specs.declared.script.Item.TheVariants as items
use Rattle.tv_play.specs.Edge.{brought}
use Rattle.tv_play.specs.Ends.{is_leaving, is_refreshing}
use Rattle.tv_script.specs.Scripts.{SpellsAScript}
use Rattle.tv_script.specs.declared.script_text.ScriptFault.{ScriptFault}
use Rattle.tv_script.specs.declared.script_text.ScriptFault.TheVariants as faults
use Rattle.tv_terminal.specs.Decoding.{Byte, Listening, between, decode_after, heard, heard_at_pause, left_after, left_by}
use Rattle.tv_terminal.specs.declared.action.Action.{Action}
use Rattle.tv_terminal.specs.declared.action.Action.TheVariants as actions

-- what a call makes of a run
abbrev pub Act : Type 1
Act = Session → Listening → (later : Holding) → Told → Type 0

-- nothing is made of what wasn't opened
abbrev pub Follows : Act → Holding → Holding → Told → Type 0
Follows act (Running s l) later told = act s l later told
Follows act (Unopened fault) later told = (later ≡ Unopened fault) × (told ≡ bare (unopened fault))

-- ---- events

-- the event that is all there is
abbrev pub sole_event : List Item → Option Event
sole_event (items.Event e ∷ []) = Some e
sole_event items = None

-- an event was performed
pub record IsPerformed (s : Session) (l : Listening) (e : Event) (later : Holding) (answer : Answer) : Type 0 where
  pub goes_on : later ≡ Running (stepped s e) l
  pub told : answer ≡ answer_after (stepped s e)

-- the text is a line with this event, whose point is on the screen, and with nothing else
abbrev pub HasLine : Session → List ℕ → Event → Type 0
HasLine s text e = SpellsAScript s.desc.width s.desc.height text (items.Event e ∷ [])

abbrev pub HasNoLine : Session → List ℕ → Type 0
HasNoLine s text = (e : Event) → HasLine s text e → ⊥

-- what is answered to a text that is no script
abbrev pub refusal : ScriptFault → Answer
refusal faults.NoMemory = answers.NoMemory
refusal fault = answers.Refused

abbrev pub LineActsBy : Answer → List ℕ → Act
LineActsBy answers.Refused text s l later told = (later ≡ Running s l) × HasNoLine s text
LineActsBy answers.NoMemory text s l later told = later ≡ Running s l
LineActsBy answer text s l later told = (e : Event) × HasLine s text e × IsPerformed s l e later answer

-- the event of the line is performed
pub record LineActs (text : List ℕ) (s : Session) (l : Listening) (later : Holding) (told : Told) : Type 0 where
  pub none : told.used ≡ 0
  pub acts : LineActsBy told.answer text s l later told

-- ---- commands

abbrev pub command_answer : (is_taken : Bool) → Session → Answer
command_answer true s = answer_after s
command_answer false s = answers.Refused

-- the command is given
pub record CommandActs (c : Command) (s : Session) (l : Listening) (later : Holding) (told : Told) : Type 0 where
  pub none : told.used ≡ 0
  pub goes_on : later ≡ Running (commanded s c) l
  pub acts : told.answer ≡ command_answer (takes_command s.desc s.state c.0) (commanded s c)

-- ---- bytes

-- what an action comes to: the user leaves, the screen is to be shown anew, or an event is performed
abbrev pub ActionActs : Answer → Session → Listening → Action → Holding → Type 0
ActionActs answers.Left s l action later = (is_leaving s.desc action ≡ true) × (later ≡ Running s l)
ActionActs answers.Refresh s l action later =
    (is_leaving s.desc action ≡ false) × (is_refreshing s.desc action ≡ true) × (later ≡ Running s l)
ActionActs answer s l action later =
    (is_leaving s.desc action ≡ false) × (is_refreshing s.desc action ≡ false)
    × ((e : Event) × (action ≡ actions.Event e) × IsPerformed s l (brought s.desc e) later answer)

-- the same of an application that ran
abbrev pub IsDone : Session → Action → App → Answer → Type 0
IsDone s action app answer =
    (l : Listening) → (later : Session) × Runs app later × ActionActs answer s l action (Running later l)

abbrev pub HeardActs : Option Action → Session → Listening → Holding → Answer → Type 0
HeardActs None s l later answer = (later ≡ Running s l) × (answer ≡ answers.Done)
HeardActs (Some action) s l later answer = ActionActs answer s l action later

-- a pause: what was unfinished is taken as it is
pub record PauseActs (s : Session) (l : Listening) (later : Holding) (told : Told) : Type 0 where
  pub none : told.used ≡ 0
  pub acts : HeardActs (heard_at_pause l) s (between l.is_pasting) later told.answer

-- bytes that give nothing
abbrev pub IsSilent : Listening → List ℕ → Type 0
IsSilent l bytes = decode_after l (map Byte bytes) ≡ []

abbrev pub left_behind : Listening → List ℕ → Listening
left_behind l bytes = left_after l (map Byte bytes)

-- the bytes before one give nothing, and that one gives an action, which is done
pub record TakesTo (bytes : List ℕ) (s : Session) (l : Listening) (later : Holding) (told : Told) : Type 0 where
  pub front : List ℕ
  pub byte : ℕ
  pub rest : List ℕ
  pub parts : bytes ≡ front ++ byte ∷ rest
  pub count : told.used ≡ length front + 1
  pub silent : IsSilent l front
  pub action : Action
  pub meant : heard (left_behind l front) byte ≡ Some action
  pub acts : ActionActs told.answer s (left_by (left_behind l front) byte) action later

-- all bytes give nothing
pub record TakesAll (bytes : List ℕ) (s : Session) (l : Listening) (later : Holding) (used : ℕ) : Type 0 where
  pub count : used ≡ length bytes
  pub silent : IsSilent l bytes
  pub goes_on : later ≡ Running s (left_behind l bytes)

-- bytes are taken up to the first with which something is done
abbrev pub TakingActsBy : Answer → List ℕ → Act
TakingActsBy answers.Done bytes s l later told = TakesAll bytes s l later told.used
TakingActsBy answer bytes s l later told = TakesTo bytes s l later told

abbrev pub TakingActs : List ℕ → Act
TakingActs bytes s l later told = TakingActsBy told.answer bytes s l later told

-- ---- calls

-- what a call leads to
abbrev pub Leads : Act → Holding → Held → Told → Type 0
Leads act h held told = (later : Holding) × IsHeld held later × Follows act h later told
