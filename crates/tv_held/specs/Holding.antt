-- What stands at a handle.
use Rattle.std.specs.Prelude.{◌≡◌, ℕ, false, List, Result, Ok, Err, if◌then◌else◌}
use Rattle.tv_app.specs.Opening.{IsSpelledSound, RefusesOpening}
use Rattle.tv_app.specs.Running.{Runs, Session, started}
use Rattle.tv_app.specs.declared.app.App.{App}
use Rattle.tv_app.specs.declared.fault.OpenFault.{OpenFault}
use Rattle.tv_app.specs.declared.fault.OpenFault.TheVariants as faults
use Rattle.tv_held.specs.declared.answer.Answer.{Answer}
use Rattle.tv_held.specs.declared.answer.Answer.TheVariants as answers
use Rattle.tv_held.specs.declared.answer.Told.{Told}
use Rattle.tv_held.specs.declared.held.Held.{Held}
use Rattle.tv_model.specs.declared.desc.Desc.{Desc}
use Rattle.tv_play.specs.Ends.{is_finished}
use Rattle.tv_terminal.specs.Decoding.{Listening, between}

-- a run, with what of a terminal's bytes is unfinished; or why no run was begun
pub data Holding : Type 0 where
  Running : Session → Listening → Holding
  Unopened : OpenFault → Holding

abbrev pub Holds : Result App OpenFault → Listening → Holding → Type 0
Holds (Ok app) l (Running s listening) = Runs app s × (l ≡ listening)
Holds (Ok app) l (Unopened fault) = ⊥
Holds (Err own) l (Running s listening) = ⊥
Holds (Err own) l (Unopened fault) = own ≡ fault

-- the one stands for the other
abbrev pub IsHeld : Held → Holding → Type 0
IsHeld held h = Holds held.opened held.decoder h

-- ---- opening

-- the run of the description that the text spells, from which nothing has come; or why none begins
abbrev pub Begins : List ℕ → Holding → Type 0
Begins text (Running s l) = ((d : Desc) × IsSpelledSound text d × (s ≡ started d)) × (l ≡ between false)
Begins text (Unopened fault) = RefusesOpening text fault

-- ---- answers

abbrev pub answer_number : Answer → ℕ
answer_number answers.Done = 0
answer_number answers.Event = 1
answer_number answers.Refused = 2
answer_number answers.NoMemory = 3
answer_number answers.NoRoom = 4
answer_number answers.Left = 5
answer_number answers.Over = 6
answer_number answers.Unsound = 7
answer_number answers.Refresh = 8

-- an answer that counts nothing
abbrev pub bare : Answer → Told
bare answer = record { answer = answer; used = 0 }

-- what is answered where nothing was opened
abbrev pub unopened : OpenFault → Answer
unopened faults.NoMemory = answers.NoMemory
unopened fault = answers.Unsound

-- whether something was
abbrev pub status_of : Holding → Answer
status_of (Running s l) = answers.Done
status_of (Unopened fault) = unopened fault

-- what is answered after an event
abbrev pub answer_after : Session → Answer
answer_after s = if is_finished s then answers.Over else answers.Event
