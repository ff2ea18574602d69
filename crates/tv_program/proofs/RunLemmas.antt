-- Why nothing is run, and how a run that was begun is left.
use Rattle.std.proofs.Common.{◌≡◌, ℕ, List, Result, Ok, Err, IfErr, IsErrAnd, inr, ap, pos, refl, subst}
use Rattle.tv_session.specs.declared.building.Views.{Views}
use Rattle.tv_session.specs.declared.build_fault.BuildFault.{BuildFault}
use Rattle.tv_faults.proofs.SoundDialogLemmas.{sound_dialogs}
use Rattle.tv_io.specs.Reader.{Given}
use Rattle.tv_io.specs.Writer.{Seen}
use Rattle.tv_lang.specs.Faults.{Spells}
use Rattle.tv_machine.specs.Run.{Session, started}
use Rattle.tv_model.specs.declared.desc.Desc.{Desc}
use Rattle.tv_model.specs.Description.Numbers.{IsBetween}
use Rattle.tv_check.specs.declared.desc_fault.DescFault.{DescFault}
use Rattle.tv_check.specs.declared.desc_fault.DescFault.TheVariants as descs
use Rattle.tv_program.specs.declared.run_fault.RunFault.{RunFault}
use Rattle.tv_program.specs.Conversions.{desc_run, session_run, stream_run}
use Rattle.tv_program.specs.Playing.{IsLawfulText, IsMismade, IsNoStart, RefusesDesc, RunsTo}
use Rattle.tv_program.specs.Playing.RunsTo.{refused, unbegun, stopped}
use Rattle.tv_check.specs.Refusals.{IsFaulty}
use Rattle.tv_program.specs.Reading.{IsSoundText}
use Rattle.tv_lawful.proofs.LawLemmas.{RunsByLaws-of}
use Rattle.tv_script.proofs.FeedLemmas.{comes_weaker}
use Rattle.tv_script.specs.declared.stream_fault.StreamFault.{StreamFault}
use Rattle.tv_script.specs.Performed.{FitsLargestScreen}
use Rattle.tv_script.specs.Streams.{ComesFrom}
use Rattle.tv_session.specs.Starting.{RefusesViews}
use Rattle.tv_session.specs.declared.fault.SessionFault.{SessionFault}
use Rattle.tv_session.specs.declared.fault.SessionFault.TheVariants as sessions
use Rattle.tv_view.specs.Meaning.{Leaf}

-- ---- descriptions

desc_run-RefusesDesc : (text : List ℕ) (d : Desc) → Spells text d → (fault : DescFault) → IsFaulty d fault → RefusesDesc text (desc_run fault)
desc_run-RefusesDesc text d spelled descs.NoMemory is = tt
desc_run-RefusesDesc text d spelled (descs.Faults list) is = (d, spelled, is)

-- faults were found
pub faulty-RefusesDesc : {T : Type 0} (text : List ℕ) (d : Desc) → Spells text d → (fault : DescFault) → IsFaulty d fault → (r : Result T RunFault) → IsErrAnd r (λ told. told ≡ desc_run fault) → IfErr r (λ told. RefusesDesc text told)
faulty-RefusesDesc text d spelled fault is (Ok x) told = absurd told
faulty-RefusesDesc text d spelled fault is (Err other) told = rw told (desc_run-RefusesDesc text d spelled fault is)

-- the laws of every run of what the text spells
pub lawful : (text : List ℕ) → IsLawfulText text
lawful text = λ d read. RunsByLaws-of d read.spelled.lines.can (sound_dialogs d read.spelled.lines.can read.sound) read.sound

-- ---- views

module _ {V : Type 0} (Answers : Desc → Result (Views V) BuildFault → Type 0) (look : V → Leaf) (d : Desc) where
  -- the views were refused
  pub refused-IsNoStart : (views : Views V) → Answers d (Ok views) → (fault : SessionFault) → RefusesViews look d views.windows.items views.bodies.items fault → IsNoStart (IsMismade Answers look) d (session_run fault)
  refused-IsNoStart views answer sessions.NoMemory mismatch = tt
  refused-IsNoStart views answer (sessions.ViewMismatch place) mismatch = inr (views, place, answer, mismatch)

-- ---- runs

-- a description whose screen is lawful fits the largest screen
pub fits : (d shown : Desc) → shown ≡ d → IsBetween (pos 20) (pos 132) shown.width → IsBetween (pos 10) (pos 60) shown.height → FitsLargestScreen d
fits d shown same columns rows = subst FitsLargestScreen same (record { columns = columns.1; rows = rows.1 })

pub err-is : {T : Type 0} (fault : RunFault) (r : Result T RunFault) → IsErrAnd r (λ told. told ≡ fault) → r ≡ Err fault
err-is fault (Ok x) told = absurd told
err-is fault (Err other) told = ap Err told

module _ {T : Type 0} (Mismade : Desc → Type 0) (Stands : T → Session → Type 0) (text : List ℕ) (reader : Given) (seen : Seen) where
  -- the description is refused
  pub refused-RunsTo : (fault : RunFault) → RefusesDesc text fault → (r : Result T RunFault) → IsErrAnd r (λ told. told ≡ fault) → RunsTo Mismade Stands text reader reader seen seen r
  refused-RunsTo fault is r told = refused fault is (record { unread = refl; unwritten = refl }) (err-is fault r told)

  module _ (d : Desc) (read : IsSoundText text d) where
    -- no views were made, or they were refused
    pub unbegun-RunsTo : (fault : RunFault) → IsNoStart Mismade d fault → (r : Result T RunFault) → IsErrAnd r (λ told. told ≡ fault) → RunsTo Mismade Stands text reader reader seen seen r
    unbegun-RunsTo fault unmade r told = unbegun d fault read unmade (record { unread = refl; unwritten = refl }) (err-is fault r told)

    -- the script was left
    pub stopped-RunsTo : (left : Given) (new : Seen) (Left : Session → Type 0) (fault : StreamFault) → ComesFrom (started d) reader left seen new Left (Err fault) → (r : Result T RunFault) → IsErrAnd r (λ told. told ≡ stream_run fault) → RunsTo Mismade Stands text reader left seen new r
    stopped-RunsTo left new Left fault comes r told = stopped d fault read (comes_weaker (started d) reader left seen new Left (λ s. Unit {0}) (λ s stands. tt) (Err fault) comes) (err-is (stream_run fault) r told)
