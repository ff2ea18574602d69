-- What a run in a terminal comes to.
use Rattle.std.specs.Prelude.{◌≡◌, ◌⊎◌, ℕ, Bool, true, false, List, [], ◌++◌, None, Result, Ok, Err}
use Rattle.std.specs.List.{concat}
use Rattle.tv_terminal.specs.Written.{end_bytes}
use Rattle.tv_io.specs.Writer.{Cuts, Seen, Takes}
use Rattle.tv_io.specs.declared.writer.WriteFailed.{WriteFailed}
use Rattle.tv_machine.specs.Output.{after, output}
use Rattle.tv_machine.specs.Run.{Session}
use Rattle.tv_terminal.specs.Decoding.{Symbol}
use Rattle.tv_terminal.specs.declared.action.Action.{Action}
use Rattle.tv_terminal.specs.declared.colour.Colours.{Colours}
use Rattle.tv_script.specs.Tapes.{script_text}
use Rattle.tv_play.specs.Ends.{events_in, is_finished, reached, script_of}
use Rattle.tv_play.specs.Pieces.{ComesNot, HasCome, Heard}
use Rattle.tv_play.specs.Shown.{IsRestored, ShowsEach}
use Rattle.tv_play.specs.Steps.{IsAtEnd, IsHeard, LeavesWith}
use Rattle.tv_play.specs.declared.parting.Parting.{Parting}
use Rattle.tv_play.specs.declared.parting.Parting.TheVariants as partings
use Rattle.tv_play.specs.declared.parting.PlayFault.{PlayFault}
use Rattle.tv_play.specs.declared.parting.PlayFault.TheVariants as faults

-- the whole text was written, and nothing is kept back
pub record IsWrittenOut (old new : Seen) (text : List ℕ) : Type 0 where
  pub takes : Takes old new text
  pub none : new.kept ≡ []

-- or the writer failed
abbrev pub IsWrittenOrCut : (old new : Seen) → List ℕ → Type 0
IsWrittenOrCut old new text = IsWrittenOut old new text ⊎ Cuts old new text

-- what was shown was passed on, with nothing kept back, and the end was written behind it, or the writer failed at
-- that
pub record IsShownOut (old before new : Seen) (shown : List ℕ) : Type 0 where
  pub passed : IsWrittenOut old before shown
  pub ended : IsWrittenOrCut before new end_bytes

-- the whole text was written, of which something may be kept back, or the writer failed
abbrev pub IsTakenOrCut : (old new : Seen) → List ℕ → Type 0
IsTakenOrCut old new text = Takes old new text ⊎ Cuts old new text

-- a run's input and its three outputs
pub record Ports : Type 0 where
  pub input : Heard
  pub log : Seen
  pub screen : Seen
  pub tape : Seen

-- what is known of a tape that keeps nothing
abbrev pub untaped : Seen
untaped = record { taken = None; kept = []; failures = 0 }

-- why it ended by itself, by the user, or by its input
abbrev pub PartsBy : (s : Session) → List Action → Heard → List Symbol → List Action → Parting → Type 0
PartsBy s actions input symbols rest partings.Over = is_finished (reached s actions) ≡ true
PartsBy s actions input symbols rest partings.Left =
    (is_finished (reached s actions) ≡ false) × LeavesWith s rest
PartsBy s actions input symbols rest partings.Ended =
    (is_finished (reached s actions) ≡ false) × (rest ≡ []) × IsAtEnd input symbols

-- what came of it
pub record IsPlayed (s : Session) (symbols : List Symbol) (actions rest : List Action)
    (bytes : List ℕ)
    (old new : Ports) (parting : Parting) : Type 0 where
  pub came : HasCome old.input new.input symbols
  pub log : IsWrittenOut old.log new.log (output s (script_of s.desc actions))
  pub screen : IsWrittenOut old.screen new.screen bytes
  pub tape : IsWrittenOut old.tape new.tape (script_text (events_in s.desc actions))
  pub parts : PartsBy s actions new.input symbols rest parting

-- what came of one that was broken off
abbrev pub IsBroken : (s : Session) (symbols : List Symbol) (actions rest : List Action)
    (shown : List ℕ)
    (old new : Ports) → PlayFault → Type 0
IsBroken s symbols actions rest shown old new faults.Read =
    ((mid : Heard) × HasCome old.input mid symbols × ComesNot mid new.input)
    × (is_finished (reached s actions) ≡ false) × (rest ≡ [])
    × IsWrittenOut old.log new.log (output s (script_of s.desc actions))
    × ((before : Seen) × IsShownOut old.screen before new.screen shown)
    × IsWrittenOut old.tape new.tape (script_text (events_in s.desc actions))
IsBroken s symbols actions rest shown old new faults.Log =
    HasCome old.input new.input symbols
    × Cuts old.log new.log (output s (script_of s.desc actions))
    × IsWrittenOrCut old.screen new.screen (shown ++ end_bytes)
    × IsTakenOrCut old.tape new.tape (script_text (events_in s.desc actions))
IsBroken s symbols actions rest shown old new faults.Screen =
    HasCome old.input new.input symbols
    × Takes old.log new.log (output s (script_of s.desc actions)) × Cuts old.screen new.screen (shown ++ end_bytes)
    × IsTakenOrCut old.tape new.tape (script_text (events_in s.desc actions))
IsBroken s symbols actions rest shown old new faults.Tape =
    HasCome old.input new.input symbols
    × Takes old.log new.log (output s (script_of s.desc actions))
    × IsWrittenOrCut old.screen new.screen (shown ++ end_bytes)
    × Cuts old.tape new.tape (script_text (events_in s.desc actions))
IsBroken s symbols actions rest shown old new faults.NoMemory = ⊥

abbrev pub ComesOf : (s : Session) (symbols : List Symbol) (actions rest : List Action)
    (shown : List ℕ)
    (old new : Ports) → Result Parting PlayFault → Type 0
ComesOf s symbols actions rest shown old new (Ok parting) =
    IsPlayed s symbols actions rest (shown ++ end_bytes) old new parting
ComesOf s symbols actions rest shown old new (Err fault) = IsBroken s symbols actions rest shown old new fault

-- A run from a session, shown by some colours. The actions are the first of what the symbols that came mean; the
-- session that is left is the one to which their events lead; the log is what the script of these writes, and the
-- tape has their lines. A terminal that is told what
-- was written for the screen shows the session's screen at the beginning and after each action, also where it
-- showed something else before an action that has the screen painted anew, and at the end what it showed
-- before. Before each call of the input, and at the end, what was written is passed on
pub record Plays (colours : Colours) (s : Session) (old new : Ports) (Left : Session → Type 0)
    (result : Result Parting PlayFault) : Type 0 where
  pub symbols : List Symbol
  pub actions : List Action
  pub rest : List Action
  pub heard : IsHeard s symbols actions rest
  pub left : Left (after s (script_of s.desc actions))
  pub frames : List (List ℕ)
  pub shows : ShowsEach colours s actions frames
  pub restores : IsRestored s actions frames
  pub comes : ComesOf s symbols actions rest (concat frames) old new result

-- nothing was read or written, and the session is left as it was
pub record IsUnbegun (s : Session) (old new : Ports) (Left : Session → Type 0) : Type 0 where
  pub ports : new ≡ old
  pub left : Left s

-- it was played, or there was no memory to begin
abbrev pub PlaysTo : (colours : Colours) (s : Session) (old new : Ports) (Left : Session → Type 0)
    → Result Parting PlayFault → Type 0
PlaysTo colours s old new Left (Err faults.NoMemory) = IsUnbegun s old new Left
PlaysTo colours s old new Left result = Plays colours s old new Left result

-- Where a read failed, the writer of the screen was once as after all that was shown had been passed on, and only
-- the end was written since
abbrev pub IsShownBefore : {T : Type 0} → (T → Seen) → (old new : Seen) → Result Parting PlayFault → Type 0
IsShownBefore {T} seen old new (Err faults.Read) = (shown : List ℕ) × ((before : T) × IsShownOut old (seen before) new shown)
IsShownBefore {T} seen old new result = Unit {0}

-- a run that ended by itself, but for a log that couldn't be passed on, or a screen or a tape that couldn't be
-- written
abbrev pub told_with : Parting → Result (Unit {0}) WriteFailed → (stopped torn : Bool) → Result Parting PlayFault
told_with parting (Err failed) stopped torn = Err faults.Log
told_with parting (Ok passed) true torn = Err faults.Screen
told_with parting (Ok passed) false true = Err faults.Tape
told_with parting (Ok passed) false false = Ok parting
