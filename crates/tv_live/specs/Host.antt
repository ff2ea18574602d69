-- The host of a program in a terminal: what its calls keep, and what comes of them.
use Rattle.std.specs.Prelude.{◌≡◌, Bool, true, false, List, [], ◌∷◌, ◌++◌, Option, Some, None, Result, Ok, Err}
use Rattle.tv_app.specs.Running.{Runs}
use Rattle.tv_app.specs.declared.app.App.{App}
use Rattle.tv_io.specs.Writer.{Seen}
use Rattle.tv_live.specs.Course.{Cause, GoesOn, IsAsked, IsCourse, Makes, Moment, Promise, causes_in, causes_of, size_by, symbols_in_all}
use Rattle.tv_live.specs.Living.{IsOver, LeavesWith, Place}
use Rattle.tv_live.specs.Shown.{HasBeenShown, IsPainterOf, is_whole}
use Rattle.tv_live.specs.declared.host.Host.{Host}
use Rattle.tv_live.specs.declared.program.News.{News}
use Rattle.tv_live.specs.declared.program.Next.{Next}
use Rattle.tv_live.specs.declared.program.Next.TheVariants.{Leave, Wait}
use Rattle.tv_machine.specs.Run.{Session}
use Rattle.tv_play.specs.Pieces.{ComesNot, HasCome, Heard}
use Rattle.tv_play.specs.Steps.{IsAtEnd}
use Rattle.tv_play.specs.declared.parting.Parting.{Parting}
use Rattle.tv_play.specs.declared.parting.Parting.TheVariants as partings
use Rattle.tv_play.specs.declared.parting.PlayFault.{PlayFault}
use Rattle.tv_play.specs.declared.parting.PlayFault.TheVariants as faults
use Rattle.tv_terminal.specs.Decoding.{Symbol}
use Rattle.tv_terminal.specs.declared.action.Size.{Size}
use Rattle.tv_terminal.specs.declared.colour.Colours.{Colours}
use Rattle.tv_terminal.specs.declared.painter.Painter.{Painter}

-- ---- what is seen of it

-- its application and its program, its painter, the size that the terminal told last, what the writer of the screen
-- took, and whether that failed
pub record Scene (P : Type 0) : Type 0 where
  pub app : App
  pub program : P
  pub painter : Painter
  pub size : Option Size
  pub screen : Seen
  pub stopped : Bool

abbrev pub scene_of : {P T : Type 0} → (T → Seen) → Host P T → Scene P
scene_of seen host = record {
  app = host.app.now;
  program = host.program.now;
  painter = host.painter.now;
  size = host.size;
  screen = seen host.pen.out.now;
  stopped = host.pen.stopped;
}

-- ---- what every call keeps

-- its application stands for a session, and its painter is one for that session's screen
pub record IsSet {P : Type 0} (scene : Scene P) : Type 0 where
  pub session : Session
  pub here : Runs scene.app session
  pub size : IsPainterOf session.desc scene.size scene.painter

-- and it can go on: the writer of the screen hasn't failed
pub record IsReady {P : Type 0} (scene : Scene P) : Type 0 where
  pub set : IsSet scene
  pub going : scene.stopped ≡ false

-- it has the same application, program, painter and writer
pub record HasSame {P T : Type 0} (old new : Host P T) : Type 0 where
  pub app : new.app.ghost_name ≡ old.app.ghost_name
  pub program : new.program.ghost_name ≡ old.program.ghost_name
  pub screen : new.pen.out.ghost_name ≡ old.pen.out.ghost_name

-- it has the same, is set as before, and can go on where the run isn't over
pub record KeepsHost {P T : Type 0} (seen : T → Seen) (old new : Host P T) (result : Option (Result Parting PlayFault))
    : Type 0 where
  pub same : HasSame old new
  pub set : IsSet (scene_of seen new)
  pub going : result ≡ None → new.pen.stopped ≡ false

-- ---- what was done

-- Moments came of these causes, of which the last is this, and they were shown; since then the application has come
-- to a session
pub record HasDone {P : Type 0} (makes : Promise P) (colours : Colours) (program : P) (s : Session) (from : Seen)
    (causes : List Cause) (now : Moment P) (earlier : List (Moment P)) (at : Session) (scene : Scene P) : Type 0 where
  pub course : IsCourse makes program s now earlier
  pub all : causes ≡ causes_in (now ∷ earlier)
  pub here : Runs scene.app at
  pub left : scene.program ≡ now.program
  pub size : scene.size ≡ now.size
  pub painter : IsPainterOf s.desc scene.size scene.painter
  pub shown : HasBeenShown colours s.desc (now ∷ earlier) from scene.screen scene.stopped scene.painter

-- all of the causes were seen to, and the run goes on
pub record IsLiving {P : Type 0} (makes : Promise P) (colours : Colours) (program : P) (s : Session) (from : Seen)
    (causes : List Cause) (scene : Scene P) : Type 0 where
  pub now : Moment P
  pub earlier : List (Moment P)
  pub done : HasDone makes colours program s from causes now earlier now.session scene
  pub goes : GoesOn now
  pub going : scene.stopped ≡ false

-- why it ended before the rest of them
abbrev pub IsEndedBy : {P : Type 0} → Moment P → (rest : List Cause) → (stopped : Bool) → Result Parting PlayFault → Type 0
IsEndedBy now rest stopped (Ok partings.Over) = IsOver now × (stopped ≡ false)
IsEndedBy now rest stopped (Ok partings.Left) = GoesOn now × LeavesWith now.session.desc rest × (stopped ≡ false)
IsEndedBy now rest stopped (Err faults.Screen) = stopped ≡ true
IsEndedBy now rest stopped _ = ⊥

-- it ended, with the first of the causes
pub record HasLived {P : Type 0} (makes : Promise P) (colours : Colours) (program : P) (s : Session) (from : Seen)
    (causes : List Cause) (scene : Scene P) (outcome : Result Parting PlayFault) : Type 0 where
  pub first : List Cause
  pub rest : List Cause
  pub parts : causes ≡ first ++ rest
  pub now : Moment P
  pub earlier : List (Moment P)
  pub done : HasDone makes colours program s from first now earlier now.session scene
  pub ended : IsEndedBy now rest scene.stopped outcome

-- it goes on, or ended so
abbrev pub LivesOn : {P : Type 0} → Promise P → Colours → P → Session → Seen → List Cause → Scene P
    → Option (Result Parting PlayFault) → Type 0
LivesOn makes colours program s from causes scene None = IsLiving makes colours program s from causes scene
LivesOn makes colours program s from causes scene (Some outcome) = HasLived makes colours program s from causes scene outcome

-- whatever was done before, these causes were seen to
abbrev pub SeesTo : {P : Type 0} → Promise P → (old new : Scene P) → List Cause → Option (Result Parting PlayFault) → Type 0
SeesTo {P} makes old new more result =
    (colours : Colours) (program : P) (s : Session) (from : Seen) (causes : List Cause)
    → IsLiving makes colours program s from causes old → LivesOn makes colours program s from (causes ++ more) new result

-- where a cause is seen to by asking the program, it is asked, and what it left is shown
abbrev pub Asks : {P : Type 0} → Promise P → (old new : Scene P) → News → Option (Result Parting PlayFault) → Type 0
Asks {P} makes old new news result =
    (colours : Colours) (program : P) (s : Session) (from : Seen) (causes : List Cause) (before : Moment P)
    (earlier : List (Moment P)) (at : Session) (cause : Cause)
    → HasDone makes colours program s from causes before earlier at old → GoesOn before
    → at.desc ≡ before.session.desc → is_whole s.desc cause ≡ false → size_by before.size cause ≡ before.size
    → ((now : Moment P) → IsAsked makes news before.program at now → Makes makes before cause now)
    → LivesOn makes colours program s from (causes ++ cause ∷ []) new result

-- ---- with its input

-- why it ended, with what came
abbrev pub CameTo : {P : Type 0} → List Symbol → Moment P → List Cause → (input later : Heard) → (stopped : Bool)
    → Result Parting PlayFault → Type 0
CameTo symbols now rest input later stopped (Ok partings.Ended) =
    HasCome input later symbols × GoesOn now × (rest ≡ []) × IsAtEnd later symbols × (stopped ≡ false)
CameTo symbols now rest input later stopped (Err faults.Read) =
    ((mid : Heard) × HasCome input mid symbols × ComesNot mid later) × GoesOn now × (rest ≡ []) × (stopped ≡ false)
CameTo symbols now rest input later stopped outcome =
    HasCome input later symbols × IsEndedBy now rest stopped outcome

-- it ended, but for what is shown at the end
pub record HasRun {P : Type 0} (makes : Promise P) (colours : Colours) (program : P) (s : Session) (from : Seen)
    (input later : Heard) (scene : Scene P) (outcome : Result Parting PlayFault) : Type 0 where
  pub pieces : List (List Symbol)
  pub first : List Cause
  pub rest : List Cause
  pub parts : causes_of pieces ≡ first ++ rest
  pub now : Moment P
  pub earlier : List (Moment P)
  pub done : HasDone makes colours program s from first now earlier now.session scene
  pub came : CameTo (symbols_in_all pieces) now rest input later scene.stopped outcome
  pub passed : outcome ≡ Err faults.Read → scene.screen.kept ≡ []

-- begun, and with nothing read yet, it comes to that
abbrev pub RunsOn : {P : Type 0} → Promise P → (input later : Heard) → (old new : Scene P) → Result Parting PlayFault → Type 0
RunsOn {P} makes input later old new outcome =
    (colours : Colours) (program : P) (s : Session) (from : Seen)
    → IsLiving makes colours program s from (causes_of []) old → HasRun makes colours program s from input later new outcome

-- what it has, with an input
abbrev pub place_in : {P : Type 0} → Heard → Scene P → Place P
place_in input scene = record { app = scene.app; program = scene.program; input = input; screen = scene.screen }

abbrev pub place_with : {P : Type 0} → App → P → Heard → Seen → Place P
place_with app program input screen = record { app = app; program = program; input = input; screen = screen }

-- ---- how a run ends

-- after a call of the program: by whether the writer of the screen failed, what the program answered, and whether
-- the run is over
abbrev pub outcome_of : (stopped : Bool) → Next → (is_over : Bool) → Option (Result Parting PlayFault)
outcome_of true next is_over = Some (Err faults.Screen)
outcome_of false Leave is_over = Some (Ok partings.Over)
outcome_of false Wait true = Some (Ok partings.Over)
outcome_of false Wait false = None

-- at the end of all, where the writer of the screen may have failed
abbrev pub told_with : Result Parting PlayFault → (stopped : Bool) → Result Parting PlayFault
told_with (Ok parting) true = Err faults.Screen
told_with (Ok parting) false = Ok parting
told_with (Err fault) stopped = Err fault
