-- What a program's run in a terminal comes to.
use Rattle.std.specs.Prelude.{◌≡◌, ◌⊎◌, ℕ, true, List, [], ◌∷◌, ◌++◌, Result, Ok, Err}
use Rattle.tv_app.specs.Running.{Runs}
use Rattle.tv_app.specs.declared.app.App.{App}
use Rattle.tv_io.specs.Writer.{Cuts, Seen}
use Rattle.tv_live.specs.Course.{Cause, Does, GoesOn, IsCourse, Moment, Promise, causes_in, causes_of, symbols_in_all}
use Rattle.tv_live.specs.Shown.{IsRestored, ShowsEach, text}
use Rattle.tv_live.specs.declared.program.Next.TheVariants.{Leave}
use Rattle.tv_machine.specs.Run.{Session}
use Rattle.tv_model.specs.declared.desc.Desc.{Desc}
use Rattle.tv_play.specs.Ends.{is_leaving}
use Rattle.tv_play.specs.Pieces.{ComesNot, HasCome, Heard}
use Rattle.tv_play.specs.Playing.{IsShownOut, IsWrittenOut}
use Rattle.tv_play.specs.Steps.{IsAtEnd}
use Rattle.tv_play.specs.declared.parting.Parting.{Parting}
use Rattle.tv_play.specs.declared.parting.Parting.TheVariants as partings
use Rattle.tv_play.specs.declared.parting.PlayFault.{PlayFault}
use Rattle.tv_play.specs.declared.parting.PlayFault.TheVariants as faults
use Rattle.tv_terminal.specs.Decoding.{Symbol}
use Rattle.tv_terminal.specs.Written.{end_bytes}
use Rattle.tv_terminal.specs.declared.colour.Colours.{Colours}

-- a program's application, the program, its input and its screen
pub record Place (P : Type 0) : Type 0 where
  pub app : App
  pub program : P
  pub input : Heard
  pub screen : Seen

-- the run is over: the program left, or it was quit
abbrev pub IsOver : {P : Type 0} → Moment P → Type 0
IsOver now = (now.next ≡ Leave) ⊎ (now.session.state.is_over ≡ true)

-- the user leaves with the first of these
abbrev pub LeavesWith : Desc → List Cause → Type 0
LeavesWith d (Does action ∷ rest) = is_leaving d action ≡ true
LeavesWith d rest = ⊥

-- why it ended by itself, by the user, or by its input, after a moment and with the rest of what there was to do
abbrev pub PartsBy : {P : Type 0} → Moment P → List Cause → Heard → List Symbol → Parting → Type 0
PartsBy now rest input symbols partings.Over = IsOver now
PartsBy now rest input symbols partings.Left = GoesOn now × LeavesWith now.session.desc rest
PartsBy now rest input symbols partings.Ended = GoesOn now × (rest ≡ []) × IsAtEnd input symbols

-- what came of it, with what was shown
abbrev pub ComesOf : {P : Type 0} → List Symbol → Moment P → List Cause → List ℕ → (old new : Place P)
    → Result Parting PlayFault → Type 0
ComesOf symbols now rest shown old new (Ok parting) =
    HasCome old.input new.input symbols × IsWrittenOut old.screen new.screen (shown ++ end_bytes)
    × PartsBy now rest new.input symbols parting
ComesOf symbols now rest shown old new (Err faults.Read) =
    ((mid : Heard) × HasCome old.input mid symbols × ComesNot mid new.input) × GoesOn now × (rest ≡ [])
    × ((before : Seen) × IsShownOut old.screen before new.screen shown)
ComesOf symbols now rest shown old new (Err faults.Screen) =
    HasCome old.input new.input symbols × Cuts old.screen new.screen (shown ++ end_bytes)
ComesOf symbols now rest shown old new (Err _) = ⊥

-- A run of a program from a session on. Moments came of the first of what there was to do: the begin, what the
-- pieces mean that came, and a turn behind each. At each the program was asked by its news, from the session that
-- the event left, and kept its promise; what is left is what the last one left. A terminal that is told what was
-- written shows the session of each moment, also where it showed something else before one at which the screen is
-- painted anew, and at the end what it showed before
pub record Lives {P : Type 0} (makes : Promise P) (colours : Colours) (s : Session) (old new : Place P)
    (result : Result Parting PlayFault) : Type 0 where
  pub pieces : List (List Symbol)
  pub now : Moment P
  pub earlier : List (Moment P)
  pub rest : List Cause
  pub course : IsCourse makes old.program s now earlier
  pub causes : causes_of pieces ≡ causes_in (now ∷ earlier) ++ rest
  pub app : Runs new.app now.session
  pub program : new.program ≡ now.program
  pub shows : ShowsEach colours s.desc (now ∷ earlier)
  pub restores : IsRestored s.desc (now ∷ earlier)
  pub comes : ComesOf (symbols_in_all pieces) now rest (text (now ∷ earlier)) old new result

-- or there was no memory to begin, and nothing was read or written
abbrev pub LivesTo : {P : Type 0} → Promise P → Colours → Session → (old new : Place P)
    → Result Parting PlayFault → Type 0
LivesTo makes colours s old new (Err faults.NoMemory) = new ≡ old
LivesTo makes colours s old new result = Lives makes colours s old new result
