-- A run in a terminal, step by step.
use Rattle.std.specs.Prelude.{◌≡◌, ◌<◌, ◌≤◌, ◌+◌, ◌^◌, ◌⊎◌, ℕ, Bool, true, false, List, [], ◌∷◌, ◌++◌, All}
use Rattle.std.specs.Prelude.{take, drop, length, Option, Some, None, Result, Ok, Err, is_some}
use Rattle.std.specs.List.{concat}
use Rattle.tv_terminal.specs.Displays.{Becomes}
use Rattle.tv_terminal.specs.Terminal.{Display}
use Rattle.tv_terminal.specs.Writing.{IsRight}
use Rattle.tv_terminal.specs.declared.colour.Colours.{Colours}
use Rattle.tv_terminal.specs.declared.painter.Painter.{Painter}
use Rattle.tv_cells.specs.Picture.{IsOn, cell_at}
use Rattle.tv_io.specs.Pen.{PutsBy}
use Rattle.tv_io.specs.Writer.{Cuts, Seen, Takes}
use Rattle.tv_io.specs.declared.writer.WriteFailed.{WriteFailed}
use Rattle.tv_machine.specs.Output.{after, output, screen_cell}
use Rattle.tv_machine.specs.Run.{Session}
use Rattle.tv_script.specs.Streams.{Performs}
use Rattle.tv_terminal.specs.Decoding.{Symbol, decode}
use Rattle.tv_terminal.specs.declared.action.Action.{Action}
use Rattle.tv_script.specs.Tapes.{script_text}
use Rattle.tv_play.specs.Ends.{events_in, is_finished, is_leaving, reached, script_of}
use Rattle.tv_play.specs.Pieces.{ComesNot, HasCome, HasEnded, Heard}
use Rattle.tv_play.specs.Notes.{refusal_told, size_told, window_of}
use Rattle.tv_play.specs.Shown.{HasRoom, HasSize, IsAsTold, ShowsEach, is_whole}
use Rattle.tv_play.specs.declared.monitor.Monitor.{Monitor}
use Rattle.tv_play.specs.declared.pieces.Piece.{Piece}
use Rattle.tv_play.specs.declared.pieces.Piece.TheVariants as pieces
use Rattle.tv_play.specs.declared.parting.Parting.{Parting}
use Rattle.tv_play.specs.declared.parting.Parting.TheVariants as partings
use Rattle.tv_play.specs.declared.parting.PlayFault.{PlayFault}
use Rattle.tv_play.specs.declared.parting.PlayFault.TheVariants as faults

-- ---- the screen

-- the painter took the session's screen over
pub record HasTaken (s : Session) (painter : Painter) : Type 0 where
  pub known : painter.is_known ≡ true
  pub size : HasSize s painter
  pub each : (column row : ℕ) → IsOn painter.shown column row
      → cell_at painter.shown column row ≡ screen_cell s column row

-- what a terminal has to be told of the run so far was written to it, and it is known what that shows
pub record HasBeenShown (colours : Colours) (s : Session) (actions : List Action) (from now : Seen)
    (stopped : Bool)
    (monitor : Monitor) : Type 0 where
  pub frames : List (List ℕ)
  pub same : monitor.painter.colours ≡ colours
  pub told : monitor.size ≡ size_told actions
  pub window : monitor.painter.window ≡ window_of s.desc monitor.size
  pub noted : monitor.is_noted ≡ is_some (refusal_told s actions)
  pub shows : ShowsEach colours s actions frames
  pub put : PutsBy from false now stopped (concat frames)
  pub taken : HasTaken (reached s actions) monitor.painter
  pub right : (d : Display) → HasRoom s d → (j : ℕ) → IsAsTold s actions j (length actions) d
      → is_whole s.desc actions j ≡ true → j ≤ length actions
      → Becomes (concat (drop j frames)) d (IsRight monitor.painter)

-- ---- symbols and actions

-- The actions of a run, among what the symbols mean: the user leaves with none of them, and before each of
-- them something can still happen. What comes after them isn't heard
pub record IsHeard (s : Session) (symbols : List Symbol) (actions rest : List Action) : Type 0 where
  pub parts : decode symbols ≡ actions ++ rest
  pub stays : All (λ action. is_leaving s.desc action ≡ false) actions
  pub goes : (k : ℕ) → k < length actions → is_finished (reached s (take k actions)) ≡ false

-- ---- the run

-- what the three writers took, whether that of the screen or that of the tape failed, and what is known of the
-- terminal
pub record Outside : Type 0 where
  pub log : Seen
  pub screen : Seen
  pub tape : Seen
  pub stopped : Bool
  pub torn : Bool
  pub monitor : Monitor

-- the lines of the events that were performed were written on the tape, or a part of them if it failed
abbrev pub IsTaped : (s : Session) → List Action → (from now : Outside) → Type 0
IsTaped s actions from now = PutsBy from.tape false now.tape now.torn (script_text (events_in s.desc actions))

-- it goes on: all that was meant was performed
pub record IsPlaying (s : Session) (symbols : List Symbol) (from now : Outside) (Left : Session → Type 0)
    : Type 0 where
  pub actions : List Action
  pub heard : IsHeard s symbols actions []
  pub goes : is_finished (reached s actions) ≡ false
  pub shown : HasBeenShown from.monitor.painter.colours s actions from.screen now.screen now.stopped now.monitor
  pub performs : Performs s (script_of s.desc actions) from.log now.log Left
  pub taped : IsTaped s actions from now
  pub going : now.stopped ≡ false
  pub whole : now.torn ≡ false

-- the user leaves with the first of these
abbrev pub LeavesWith : Session → List Action → Type 0
LeavesWith s [] = ⊥
LeavesWith s (action ∷ rest) = is_leaving s.desc action ≡ true

-- why it ended among what was meant
abbrev pub IsEndedBy : (s : Session) (actions rest : List Action) (from now : Outside)
    → Result Parting PlayFault → Type 0
IsEndedBy s actions rest from now (Ok partings.Over) =
    (is_finished (reached s actions) ≡ true) × Takes from.log now.log (output s (script_of s.desc actions))
    × (now.stopped ≡ false) × (now.torn ≡ false)
IsEndedBy s actions rest from now (Ok partings.Left) =
    (is_finished (reached s actions) ≡ false) × LeavesWith s rest
    × Takes from.log now.log (output s (script_of s.desc actions)) × (now.stopped ≡ false) × (now.torn ≡ false)
IsEndedBy s actions rest from now (Err faults.Log) = Cuts from.log now.log (output s (script_of s.desc actions))
IsEndedBy s actions rest from now (Err faults.Screen) =
    Takes from.log now.log (output s (script_of s.desc actions)) × (now.stopped ≡ true)
IsEndedBy s actions rest from now (Err faults.Tape) =
    Takes from.log now.log (output s (script_of s.desc actions)) × (now.stopped ≡ false) × (now.torn ≡ true)
IsEndedBy s actions rest from now _ = ⊥

-- it ended
pub record HasPlayedOut (s : Session) (symbols : List Symbol) (from now : Outside) (Left : Session → Type 0)
    (outcome : Result Parting PlayFault) : Type 0 where
  pub actions : List Action
  pub rest : List Action
  pub heard : IsHeard s symbols actions rest
  pub shown : HasBeenShown from.monitor.painter.colours s actions from.screen now.screen now.stopped now.monitor
  pub left : Left (after s (script_of s.desc actions))
  pub taped : IsTaped s actions from now
  pub ended : IsEndedBy s actions rest from now outcome

-- it goes on, or ended so
abbrev pub TurnsTo : (s : Session) (symbols : List Symbol) (from now : Outside) (Left : Session → Type 0)
    → Option (Result Parting PlayFault) → Type 0
TurnsTo s symbols from now Left None = IsPlaying s symbols from now Left
TurnsTo s symbols from now Left (Some outcome) = HasPlayedOut s symbols from now Left outcome

-- ---- with its input

-- the input ended, and nothing is left. Of an endless one 2 ^ 64 - 1 pieces are heard
abbrev pub IsAtEnd : Heard → List Symbol → Type 0
IsAtEnd input symbols = HasEnded input ⊎ (2 ^ 64 ≤ length symbols + 1)

-- why it ended, with what came
abbrev pub CameTo : (s : Session) (symbols : List Symbol) (actions rest : List Action)
    (input later : Heard) (from now : Outside) → Result Parting PlayFault → Type 0
CameTo s symbols actions rest input later from now (Ok partings.Ended) =
    HasCome input later symbols × (is_finished (reached s actions) ≡ false) × (rest ≡ [])
    × IsAtEnd later symbols
    × Takes from.log now.log (output s (script_of s.desc actions)) × (now.stopped ≡ false) × (now.torn ≡ false)
CameTo s symbols actions rest input later from now (Err faults.Read) =
    ((mid : Heard) × HasCome input mid symbols × ComesNot mid later)
    × (is_finished (reached s actions) ≡ false) × (rest ≡ [])
    × Takes from.log now.log (output s (script_of s.desc actions)) × (now.stopped ≡ false) × (now.torn ≡ false)
    × (now.log.kept ≡ []) × (now.tape.kept ≡ []) × (now.screen.kept ≡ [])
CameTo s symbols actions rest input later from now outcome =
    HasCome input later symbols × IsEndedBy s actions rest from now outcome

-- it ended, but for what is shown at the end
pub record HasRun (s : Session) (input later : Heard) (from now : Outside) (Left : Session → Type 0)
    (outcome : Result Parting PlayFault) : Type 0 where
  pub symbols : List Symbol
  pub actions : List Action
  pub rest : List Action
  pub heard : IsHeard s symbols actions rest
  pub shown : HasBeenShown from.monitor.painter.colours s actions from.screen now.screen now.stopped now.monitor
  pub left : Left (after s (script_of s.desc actions))
  pub taped : IsTaped s actions from now
  pub came : CameTo s symbols actions rest input later from now outcome

-- ---- an action

-- how a run ends with an action: by whether nothing can happen any more, whether its log was written, and
-- whether the writer of the screen or that of the tape failed
abbrev pub outcome_of : Bool → Result (Unit {0}) WriteFailed → (stopped torn : Bool)
    → Option (Result Parting PlayFault)
outcome_of finished (Err failed) stopped torn = Some (Err faults.Log)
outcome_of finished (Ok written) true torn = Some (Err faults.Screen)
outcome_of finished (Ok written) false true = Some (Err faults.Tape)
outcome_of true (Ok written) false false = Some (Ok partings.Over)
outcome_of false (Ok written) false false = None

-- the same after a piece, which may be the last
abbrev pub or_end : Option (Result Parting PlayFault) → Piece → Option (Result Parting PlayFault)
or_end (Some outcome) piece = Some outcome
or_end None pieces.End = Some (Ok partings.Ended)
or_end None (pieces.Bytes count) = None
or_end None pieces.Pause = None

abbrev pub outside : (log screen tape : Seen) (stopped torn : Bool) → Monitor → Outside
outside log screen tape stopped torn monitor =
    record { log = log; screen = screen; tape = tape; stopped = stopped; torn = torn; monitor = monitor }
