-- A program's run in a terminal, moment by moment.
use Rattle.std.specs.Prelude.{◌≡◌, ℕ, false, List, [], ◌∷◌, ◌++◌, map, flat_map, Option, None}
use Rattle.tv_event.specs.declared.event.Event.{Event as Happening}
use Rattle.tv_live.specs.declared.program.News.{News}
use Rattle.tv_live.specs.declared.program.News.TheVariants.{Begin, Event, Turn}
use Rattle.tv_live.specs.declared.program.Next.{Next}
use Rattle.tv_live.specs.declared.program.Next.TheVariants.{Wait}
use Rattle.tv_machine.specs.Run.{Session, quiet, stepped}
use Rattle.tv_machine.specs.Session.Left.{is_left}
use Rattle.tv_play.specs.Edge.{brought}
use Rattle.tv_play.specs.Ends.{IsTakenFor}
use Rattle.tv_play.specs.Notes.{size_with}
use Rattle.tv_play.specs.declared.ends.Step.{Step}
use Rattle.tv_play.specs.declared.ends.Step.TheVariants as steps
use Rattle.tv_terminal.specs.Decoding.{Listening, Symbol, between, decode_after, left_after}
use Rattle.tv_terminal.specs.declared.action.Action.{Action}
use Rattle.tv_terminal.specs.declared.action.Size.{Size}

-- why something is to be done: the run begins, the user or the terminal did something, or a read is over
pub data Cause : Type 0 where
  Begins : Cause
  Does : Action → Cause
  Turns : Cause

-- ---- what there is to do

-- what pieces mean that come after those that left this, with a turn behind each
abbrev pub causes_after : Listening → List (List Symbol) → List Cause
causes_after l [] = []
causes_after l (piece ∷ pieces) = map Does (decode_after l piece) ++ Turns ∷ causes_after (left_after l piece) pieces

-- what all pieces have
abbrev pub symbols_in_all : List (List Symbol) → List Symbol
symbols_in_all pieces = flat_map (λ piece. piece) pieces

-- the begin, and what all pieces mean
abbrev pub causes_of : List (List Symbol) → List Cause
causes_of pieces = Begins ∷ causes_after (between false) pieces

-- ---- what was done

-- what came of a cause: what the program answered, the program and the session that were left, how large the
-- terminal told last that it is, and the bytes that were written to show it
pub record Moment (P : Type 0) : Type 0 where
  pub cause : Cause
  pub next : Next
  pub program : P
  pub session : Session
  pub size : Option Size
  pub bytes : List ℕ

-- the causes of some moments, of which the last stands first
abbrev pub causes_in : {P : Type 0} → List (Moment P) → List Cause
causes_in [] = []
causes_in (now ∷ earlier) = causes_in earlier ++ now.cause ∷ []

-- what a program promises of each call: by the news, from a program and a session to its answer and what is left
abbrev pub Promise : Type 0 → Type 1
Promise P = News → P → Session → Next → P → Session → Type 0

-- the program was asked, and kept its promise
pub record IsAsked {P : Type 0} (makes : Promise P) (news : News) (program : P) (s : Session) (now : Moment P) : Type 0 where
  pub made : makes news program s now.next now.program now.session
  pub desc : now.session.desc ≡ s.desc

-- nothing but the screen was shown anew
pub record IsSame {P : Type 0} (before now : Moment P) : Type 0 where
  pub next : now.next ≡ Wait
  pub program : now.program ≡ before.program
  pub session : now.session ≡ before.session

-- the program was asked after an event, and told whether the event was left to it
abbrev pub IsTold : {P : Type 0} → Promise P → Moment P → Happening → Moment P → Type 0
IsTold makes before event now =
    IsAsked makes (Event event (is_left before.session.desc before.session.state event)) before.program
    (stepped before.session event) now

abbrev pub StepsTo : {P : Type 0} → Promise P → Moment P → Step → Moment P → Type 0
StepsTo makes before steps.Leave now = ⊥
StepsTo makes before steps.Refresh now = IsSame before now
StepsTo makes before (steps.Perform event) now = IsTold makes before (brought before.session.desc event) now

-- what comes of a cause after another moment
abbrev pub Makes : {P : Type 0} → Promise P → Moment P → Cause → Moment P → Type 0
Makes makes before Begins now = ⊥
Makes makes before (Does action) now =
    (step : Step) × IsTakenFor before.session.desc action step × StepsTo makes before step now
Makes makes before Turns now = IsAsked makes Turn before.program (quiet before.session) now

-- the run goes on after it
pub record GoesOn {P : Type 0} (now : Moment P) : Type 0 where
  pub waits : now.next ≡ Wait
  pub going : now.session.state.is_over ≡ false

abbrev pub size_by : Option Size → Cause → Option Size
size_by was (Does action) = size_with was action
size_by was Begins = was
size_by was Turns = was

pub record Follows {P : Type 0} (makes : Promise P) (before now : Moment P) : Type 0 where
  pub goes : GoesOn before
  pub comes : Makes makes before now.cause now
  pub size : now.size ≡ size_by before.size now.cause

pub record IsFirst {P : Type 0} (makes : Promise P) (program : P) (s : Session) (now : Moment P) : Type 0 where
  pub cause : now.cause ≡ Begins
  pub asked : IsAsked makes Begin program s now
  pub size : now.size ≡ None

-- a moment and those before it, of which the last stands first: each follows the one before
abbrev pub IsCourse : {P : Type 0} → Promise P → P → Session → Moment P → List (Moment P) → Type 0
IsCourse makes program s now [] = IsFirst makes program s now
IsCourse makes program s now (before ∷ earlier) =
    Follows makes before now × IsCourse makes program s before earlier
