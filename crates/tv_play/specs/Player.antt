-- The player of a run in a terminal: what its calls keep, and what comes of them.
use Rattle.std.specs.Prelude.{◌≡◌, false, List, ◌++◌, Option, None, Result}
use Rattle.tv_io.specs.Writer.{Seen}
use Rattle.tv_machine.specs.Run.{Session}
use Rattle.tv_terminal.specs.Decoding.{Symbol, decode, left}
use Rattle.tv_terminal.specs.declared.action.Action.{Action}
use Rattle.tv_play.specs.Pieces.{Heard}
use Rattle.tv_play.specs.Playing.{Ports}
use Rattle.tv_play.specs.Notes.{IsMonitorOf}
use Rattle.tv_play.specs.Steps.{IsPlaying, Outside, TurnsTo, outside}
use Rattle.tv_play.specs.declared.parting.Parting.{Parting}
use Rattle.tv_play.specs.declared.parting.PlayFault.{PlayFault}
use Rattle.tv_play.specs.declared.player.Player.{Player}

-- ---- what is seen of it

-- what its writers took, whether that of the screen or that of the tape failed, and what is known of the terminal
abbrev pub outside_of : {L T W R : Type 0} → (T → Seen) → (W → Seen) → (R → Seen) → Player L T W R → Outside
outside_of screen log tape p =
    outside (log p.log.now) (screen p.pen.out.now) (tape p.tape.out.now) p.pen.stopped p.tape.stopped p.monitor.now

-- its outputs, beside an input
abbrev pub ports_of : {L T W R : Type 0} → (T → Seen) → (W → Seen) → (R → Seen) → Heard → Player L T W R → Ports
ports_of screen log tape input p =
    record { input = input; log = log p.log.now; screen = screen p.pen.out.now; tape = tape p.tape.out.now }

-- ---- what every call keeps

-- its stage stands for a session, and what it knows of the terminal is of that session's screen
pub record HasStage {L T W R : Type 0} (stands : L → Session → Type 0) (p : Player L T W R) : Type 0 where
  pub session : Session
  pub here : stands p.stage.now session
  pub size : IsMonitorOf session.desc p.monitor.now

-- it can go on: neither the writer of the screen nor that of the tape has failed
pub record IsReady {L T W R : Type 0} (stands : L → Session → Type 0) (p : Player L T W R) : Type 0 where
  pub staged : HasStage stands p
  pub going : p.pen.stopped ≡ false
  pub whole : p.tape.stopped ≡ false

-- it has the same stage and the same writers
pub record HasSame {L T W R : Type 0} (old new : Player L T W R) : Type 0 where
  pub stage : new.stage.ghost_name ≡ old.stage.ghost_name
  pub screen : new.pen.out.ghost_name ≡ old.pen.out.ghost_name
  pub log : new.log.ghost_name ≡ old.log.ghost_name
  pub tape : new.tape.out.ghost_name ≡ old.tape.out.ghost_name

-- it has the same, and a stage as before; and it can go on where the run isn't over
pub record KeepsPlayer {L T W R : Type 0} (stands : L → Session → Type 0) (old new : Player L T W R)
    (result : Option (Result Parting PlayFault)) : Type 0 where
  pub same : HasSame old new
  pub staged : HasStage stands new
  pub going : result ≡ None → new.pen.stopped ≡ false
  pub whole : result ≡ None → new.tape.stopped ≡ false

-- ---- what comes of a call

-- what these symbols mean was played, and its decoder took them
pub record HasPlayed {L T W R : Type 0} (stands : L → Session → Type 0) (screen : T → Seen) (log : W → Seen) (tape : R → Seen)
    (s : Session) (symbols : List Symbol) (from : Outside) (p : Player L T W R) : Type 0 where
  pub run : IsPlaying s symbols from (outside_of screen log tape p) (stands p.stage.now)
  pub read : p.decoder ≡ left symbols

-- the same, or the run ended with them
pub record HasTurned {L T W R : Type 0} (stands : L → Session → Type 0) (screen : T → Seen) (log : W → Seen) (tape : R → Seen)
    (s : Session) (symbols : List Symbol) (from : Outside) (p : Player L T W R)
    (result : Option (Result Parting PlayFault)) : Type 0 where
  pub turns : TurnsTo s symbols from (outside_of screen log tape p) (stands p.stage.now) result
  pub read : result ≡ None → p.decoder ≡ left symbols

-- whatever was played, it plays these actions too, which its decoder has just given
abbrev pub Acts : {L T W R : Type 0} → (L → Session → Type 0) → (T → Seen) → (W → Seen) → (R → Seen)
    → (old new : Player L T W R) → List Action → Option (Result Parting PlayFault) → Type 0
Acts stands screen log tape old new actions result =
    (s : Session) (symbols next : List Symbol) (from : Outside)
    → IsPlaying s symbols from (outside_of screen log tape old) (stands old.stage.now)
    → old.decoder ≡ left next → decode next ≡ decode symbols ++ actions
    → HasTurned stands screen log tape s next from new result

-- whatever was played, it plays what these symbols mean too
abbrev pub Hears : {L T W R : Type 0} → (L → Session → Type 0) → (T → Seen) → (W → Seen) → (R → Seen)
    → (old new : Player L T W R) → List Symbol → Option (Result Parting PlayFault) → Type 0
Hears stands screen log tape old new more result =
    (s : Session) (symbols : List Symbol) (from : Outside)
    → HasPlayed stands screen log tape s symbols from old
    → HasTurned stands screen log tape s (symbols ++ more) from new result
