-- Runs that are begun to give dialogs their ends. Private functions are held to this.
use Rattle.std.specs.Prelude.{◌≡◌, Bool, true, false, List, map, Result, Ok, Err}
use Rattle.tv_io.specs.Writer.{Seen, Takes, Cuts}
use Rattle.tv_machine.specs.Run.{started}
use Rattle.tv_model.specs.declared.desc.Desc.{Desc}
use Rattle.tv_program.specs.declared.answer_fault.AnswerFault.{AnswerFault}
use Rattle.tv_program.specs.declared.answer_fault.AnswerFault.TheVariants.{Disabled, Refused, Write}
use Rattle.tv_program.specs.declared.answer_fault.Ending.{Ending}
use Rattle.tv_program.specs.declared.answering.BegunRun.{BegunRun}
use Rattle.tv_program.specs.Answering.{AllEnd, AnsweredRun, StaysOpen, begun_text, runs_log, stays_open, takes_end}
use Rattle.tv_program.specs.Reading.{IsSoundText}
use Rattle.tv_session.specs.Session.{StandsFor}
use Rattle.tv_view.specs.Meaning.{Leaf}

-- the end that it is for, and what is run
abbrev pub run_of : {V : Type 0} → BegunRun V → AnsweredRun
run_of run = record { ending = run.ending; desc = run.session.checked }

-- the same of each
abbrev pub runs_of : {V : Type 0} → List (BegunRun V) → List AnsweredRun
runs_of runs = map run_of runs

-- it runs what the text with its dialog open spells
abbrev pub RunsText : {V : Type 0} → Desc → BegunRun V → Type 0
RunsText d run = IsSoundText (begun_text d run.ending.dialog) run.session.checked

-- its session stands at the start
abbrev pub StandsBegun : {V : Type 0} → (V → Leaf) → BegunRun V → Type 0
StandsBegun look run = StandsFor look run.session (started run.session.checked)

-- what giving an end comes to: whether the dialog's rules allow it, it is still open, and the writer failed
abbrev pub outcome_of : Ending → (allowed is_open unwritten : Bool) → Result (Unit {0}) AnswerFault
outcome_of ending allowed is_open true = Err Write
outcome_of ending allowed false false = Ok tt
outcome_of ending true true false = Err (Refused ending)
outcome_of ending false true false = Err (Disabled ending)

-- what giving the end in a run comes to, by whether the writer has failed now
abbrev pub EndsBy : AnsweredRun → Bool → Result (Unit {0}) AnswerFault → Type 0
EndsBy run stopped (Ok _) = (stopped ≡ false) × (stays_open run ≡ false)
EndsBy run stopped (Err (Disabled ending)) =
    (stopped ≡ false) × (stays_open run ≡ true) × (run.ending ≡ ending) × (takes_end run ≡ false)
EndsBy run stopped (Err (Refused ending)) =
    (stopped ≡ false) × (stays_open run ≡ true) × (run.ending ≡ ending) × (takes_end run ≡ true)
EndsBy run stopped (Err Write) = stopped ≡ true
EndsBy run stopped (Err _) = ⊥

-- the same in one run after the other
abbrev pub AllEndBy : List AnsweredRun → Bool → Result (Unit {0}) AnswerFault → Type 0
AllEndBy runs stopped (Ok _) = (stopped ≡ false) × AllEnd runs
AllEndBy runs stopped (Err (Disabled ending)) = (stopped ≡ false) × StaysOpen ending false runs
AllEndBy runs stopped (Err (Refused ending)) = (stopped ≡ false) × StaysOpen ending true runs
AllEndBy runs stopped (Err Write) = stopped ≡ true
AllEndBy runs stopped (Err _) = ⊥

-- the same, by what the writer took
abbrev pub EndsAll : List AnsweredRun → Seen → Seen → Result (Unit {0}) AnswerFault → Type 0
EndsAll runs old new (Ok _) = Takes old new (runs_log runs) × AllEnd runs
EndsAll runs old new (Err (Disabled ending)) = Takes old new (runs_log runs) × StaysOpen ending false runs
EndsAll runs old new (Err (Refused ending)) = Takes old new (runs_log runs) × StaysOpen ending true runs
EndsAll runs old new (Err Write) = Cuts old new (runs_log runs)
EndsAll runs old new (Err _) = ⊥
