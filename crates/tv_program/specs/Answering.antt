-- What giving each answered dialog its end comes to.
use Rattle.std.specs.Prelude.{◌≡◌, ◌≢◌, ◌⊎◌, ℕ, Bool, true, false, List, [], ◌∷◌, ◌++◌, map, find, filter_map, zip, All}
use Rattle.std.specs.Prelude.{Contains, Option, Some, None, is_some, option_map, Result, Ok, Err, if◌then◌else◌}
use Rattle.tv_answers.specs.declared.answers.Answer.{Answer}
use Rattle.tv_answers.specs.declared.answers.Answers.{Answers}
pub use Rattle.tv_answers.specs.Again.{begun_text, begun_with}
use Rattle.tv_answers.specs.Filling.{filled}
use Rattle.tv_answers.specs.ReadLogs.{IsAnswered}
use Rattle.tv_declarations.specs.CanonicalDescription.{description_text}
use Rattle.tv_lang.specs.Faults.{Spells}
use Rattle.tv_words.specs.Fields.{IsName}
use Rattle.tv_io.specs.Writer.{Seen, Takes, Cuts}
use Rattle.tv_machine.specs.Run.{Session, commanded, quiet, started}
use Rattle.tv_machine.specs.Safe.{IsSafe}
use Rattle.tv_machine.specs.Session.Step.{takes_command}
use Rattle.tv_model.specs.declared.desc.Desc.{Desc}
use Rattle.tv_model.specs.declared.desc.Dialog.{Dialog}
use Rattle.tv_model.specs.Description.Certificates.{dialog_name}
use Rattle.tv_model.specs.Log.LogText.{log_text}
use Rattle.tv_program.specs.declared.answer_fault.AnswerFault.{AnswerFault}
use Rattle.tv_program.specs.declared.answer_fault.AnswerFault.TheVariants as fails
use Rattle.tv_program.specs.declared.answer_fault.Ending.{Ending}
use Rattle.tv_program.specs.declared.run_fault.RunFault.{RunFault}
use Rattle.tv_program.specs.declared.run_fault.RunFault.TheVariants as unrun
use Rattle.tv_program.specs.Filling.{IsNoLog, Written, misfit_messages}
use Rattle.tv_program.specs.Playing.{IsNoStart, RefusesDesc}
use Rattle.tv_program.specs.Reading.{IsSoundText}
use Rattle.tv_program.specs.Report.{IsOffered}

-- ---- which ends are given, and in which runs

-- the end that a dialog is given, where it is answered
abbrev pub ending_of : Dialog × Answer → Option Ending
ending_of (dialog, answer) =
    option_map (λ command. record { dialog = dialog_name dialog; command = command }) answer.command

-- the ends of all answered dialogs, in description order
abbrev pub endings_of : Desc → Answers → List Ending
endings_of d a = filter_map ending_of (zip d.dialogs a.dialogs)

-- what that text spells has it as its own canonical text: it is the description with the dialog open, but for the
-- numbers of its lines
abbrev pub BeginsAlike : Desc → Type 0
BeginsAlike d = (name : List ℕ) (e : Desc) → IsName name → Spells (begun_text d name) e → description_text e ≡ begun_text d name

-- an end that is given, and the description in whose run it is
pub record AnsweredRun : Type 0 where
  pub ending : Ending
  pub desc : Desc

-- the runs of a description for these ends: each begins with the dialog of its end open
pub record AreRuns (d : Desc) (endings : List Ending) (runs : List AnsweredRun) : Type 0 where
  pub ends : map (λ run. run.ending) runs ≡ endings
  pub begun : All (λ run. IsSoundText (begun_text d run.ending.dialog) run.desc) runs

-- ---- how a run goes

-- before the end, when what the start logged was taken
abbrev pub before_end : AnsweredRun → Session
before_end run = quiet (started run.desc)

-- after it
abbrev pub after_end : AnsweredRun → Session
after_end run = commanded (before_end run) run.ending.command

-- the lines that a session has logged
abbrev pub logged : Session → List ℕ
logged s = log_text s.desc s.state.log

-- the log of the start, and that of the end
abbrev pub run_log : AnsweredRun → List ℕ
run_log run = logged (started run.desc) ++ logged (after_end run)

-- the rules of the dialog don't disable its end
abbrev pub takes_end : AnsweredRun → Bool
takes_end run = takes_command run.desc (before_end run).state run.ending.command.0

-- the dialog didn't end
abbrev pub stays_open : AnsweredRun → Bool
stays_open run = is_some (after_end run).state.dialog

-- the logs of runs, up to the first whose dialog doesn't end
abbrev pub runs_log : List AnsweredRun → List ℕ
runs_log [] = []
runs_log (run ∷ runs) = run_log run ++ (if stays_open run then [] else runs_log runs)

-- each dialog ends
abbrev pub AllEnd : List AnsweredRun → Type 0
AllEnd runs = find stays_open runs ≡ None

-- after its end the run is safe: what its dialog saved is exactly that dialog's fields, each text in its domain
abbrev pub IsSafeAfter : AnsweredRun → Type 0
IsSafeAfter run = IsSafe run.desc (after_end run).state

-- the first dialog that doesn't end is that of this end, which its rules allow, or not
pub record StaysOpen (ending : Ending) (allowed : Bool) (runs : List AnsweredRun) : Type 0 where
  pub run : AnsweredRun
  pub first : find stays_open runs ≡ Some run
  pub same : run.ending ≡ ending
  pub takes : takes_end run ≡ allowed

-- ---- what comes of it

-- a log answers so of the description: all of it fits, and some dialog is answered
pub record IsFitLog (d : Desc) (written : List ℕ) (a : Answers) : Type 0 where
  pub answered : IsAnswered d written a
  pub fit : a.misfits ≡ []
  pub some : endings_of d a ≢ []

-- each answered dialog was given its end in a run of its own, up to the first that didn't end, and each run is safe
-- then; of their logs this was written, and it came to this
pub record Ends (d : Desc) (written : List ℕ) (old new : Written) (Writes : Seen → Seen → List ℕ → Type 0)
    (Comes : List AnsweredRun → Type 0) : Type 0 where
  pub answers : Answers
  pub runs : List AnsweredRun
  pub fit : IsFitLog d written answers
  pub begun : AreRuns (filled d answers) (endings_of d answers) runs
  pub safe : All IsSafeAfter runs
  pub logs : Writes old.out new.out (runs_log runs)
  pub untold : new.told ≡ old.told
  pub comes : Comes runs

-- why a text isn't run: it spells no sound description, or no run of that was begun
abbrev pub RefusesRun : (Desc → Type 0) → List ℕ → RunFault → Type 0
RefusesRun Mismade text fault =
    RefusesDesc text fault ⊎ ((d : Desc) × IsSoundText text d × IsNoStart Mismade d fault)

-- why the runs of a description for these ends weren't begun: one of them can't begin
abbrev pub IsUnbegun : (Desc → Type 0) → Desc → List Ending → RunFault → Type 0
IsUnbegun Mismade d endings fault =
    (ending : Ending) × Contains endings ending × RefusesRun Mismade (begun_text d ending.dialog) fault

-- why no runs were begun for what a log answers
abbrev pub IsUnrun : (Desc → Type 0) → Desc → List ℕ → RunFault → Type 0
IsUnrun Mismade d written unrun.NoMemory = Unit {0}
IsUnrun Mismade d written fault =
    (a : Answers) × IsFitLog d written a × IsUnbegun Mismade (filled d a) (endings_of d a) fault

-- With Ok each answered dialog ended. Where one doesn't end, the dialogs after it aren't run. Nothing is written
-- before all runs are begun. Misfits are told, and then nothing is run; a message that can't be written changes
-- nothing else.
abbrev pub AnswersTo : (Desc → Type 0) → List ℕ → Desc → List ℕ → Written → Written
    → Result (Unit {0}) AnswerFault → Type 0
AnswersTo Mismade name d written old new (Ok _) = Ends d written old new Takes AllEnd
AnswersTo Mismade name d written old new (Err (fails.Disabled ending)) =
    Ends d written old new Takes (StaysOpen ending false)
AnswersTo Mismade name d written old new (Err (fails.Refused ending)) =
    Ends d written old new Takes (StaysOpen ending true)
AnswersTo Mismade name d written old new (Err fails.Write) = Ends d written old new Cuts (λ runs. Unit {0})
AnswersTo Mismade name d written old new (Err (fails.Run fault)) =
    IsUnrun Mismade d written fault × (new ≡ old)
AnswersTo Mismade name d written old new (Err (fails.Answers fault)) = IsNoLog d written fault × (new ≡ old)
AnswersTo Mismade name d written old new (Err fails.Misfits) =
    (a : Answers) × IsAnswered d written a × (a.misfits ≢ []) × (new.out ≡ old.out)
    × IsOffered old.told new.told (misfit_messages name a.misfits)
AnswersTo Mismade name d written old new (Err fails.NoAnswers) =
    (a : Answers) × IsAnswered d written a × (a.misfits ≡ []) × (endings_of d a ≡ []) × (new ≡ old)
