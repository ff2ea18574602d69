-- What a run of a script on a description comes to.
use Rattle.std.specs.Prelude.{◌≡◌, ◌⊎◌, ℕ, List, Result, Ok, Err}
use Rattle.std.specs.Fn.{FnReturns, Shared}
use Rattle.std.specs.Borrow.{Bor}
use Rattle.tv_session.specs.declared.building.Views.{Views}
use Rattle.tv_session.specs.declared.build_fault.BuildFault.{BuildFault}
use Rattle.tv_session.specs.declared.build_fault.BuildFault.TheVariants as unbuilt
use Rattle.tv_check.specs.Refusals.{HasFaults}
use Rattle.tv_lang.specs.Faults.{Spells}
use Rattle.tv_machine.specs.Run.{Session, started}
use Rattle.tv_view.specs.Meaning.{Leaf}
use Rattle.tv_model.specs.declared.desc.Desc.{Desc}
use Rattle.tv_io.specs.Reader.{Given}
use Rattle.tv_io.specs.Writer.{Seen}
use Rattle.tv_program.specs.declared.run_fault.RunFault.{RunFault}
use Rattle.tv_program.specs.declared.run_fault.RunFault.TheVariants.{NoMemory, Lang, Faults, View}
use Rattle.tv_program.specs.Conversions.{stream_run}
use Rattle.tv_lawful.specs.Laws.{RunsByLaws}
use Rattle.tv_program.specs.Reading.{IsNoDescription, IsSoundText}
use Rattle.tv_script.specs.declared.stream_fault.StreamFault.{StreamFault}
use Rattle.tv_script.specs.Streams.{ComesFrom}
use Rattle.tv_session.specs.Starting.{RefusesViews}
use Rattle.tv_session.specs.declared.fault.SessionFault.TheVariants.{ViewMismatch}

-- ---- the maker of views

-- the maker may answer so when it is handed the description
pub record Makes {F A R : Type 0} (calls : Shared F (A × (Bor Desc × Unit {0})) R) (make : F) (d : Desc)
    (answer : R) : Type 0 where
  pub alloc : A
  pub shown : Bor Desc
  pub shows : shown.now ≡ d
  pub says : FnReturns calls make (alloc, (shown, tt)) answer

-- it may answer that it can make no views, or with some of which one isn't as it is declared, is missing or
-- is one too many
abbrev pub IsMismade : {V : Type 0} → (Desc → Result (Views V) BuildFault → Type 0) → (V → Leaf) → Desc
    → Type 0
IsMismade {V} Answers look d =
    Answers d (Err unbuilt.WrongPlan)
    ⊎
    ((views : Views V) × (place : ℕ) × Answers d (Ok views)
    × RefusesViews look d views.windows.items views.bodies.items (ViewMismatch place))

-- ---- runs

-- why a description is not run: by its text, or by its faults
abbrev pub RefusesDesc : List ℕ → RunFault → Type 0
RefusesDesc text NoMemory = Unit {0}
RefusesDesc text (Lang fault) = IsNoDescription text fault
RefusesDesc text (Faults list) = (d : Desc) × Spells text d × HasFaults d list
RefusesDesc text _ = ⊥

-- why no run of a description was begun
abbrev pub IsNoStart : (Desc → Type 0) → Desc → RunFault → Type 0
IsNoStart Mismade d NoMemory = Unit {0}
IsNoStart Mismade d View = Mismade d
IsNoStart Mismade d _ = ⊥

-- nothing was read of the script, and nothing was written
pub record IsUntouched (reader left : Given) (old new : Seen) : Type 0 where
  pub unread : left ≡ reader
  pub unwritten : new ≡ old

-- A run of a description on a script that comes from a reader. Only a sound description is run, and the
-- script is read only
-- once its views were made; then it is performed as it comes, by the flat machine, from the description's
-- start. What is
-- handed back stands for the run after the script.
pub data RunsTo {T : Type 0} (Mismade : Desc → Type 0) (Stands : T → Session → Type 0) (text : List ℕ)
    (reader left : Given) (old new : Seen) (result : Result T RunFault) : Type 0 where
  refused : (fault : RunFault) → RefusesDesc text fault → IsUntouched reader left old new
      → result ≡ Err fault → RunsTo Mismade Stands text reader left old new result
  unbegun : (d : Desc) (fault : RunFault) → IsSoundText text d → IsNoStart Mismade d fault
      → IsUntouched reader left old new → result ≡ Err fault
      → RunsTo Mismade Stands text reader left old new result
  stopped : (d : Desc) (fault : StreamFault) → IsSoundText text d
      → ComesFrom (started d) reader left old new (λ s. Unit {0}) (Err fault)
      → result ≡ Err (stream_run fault)
      → RunsTo Mismade Stands text reader left old new result
  done : (d : Desc) (run : T) → IsSoundText text d
      → ComesFrom (started d) reader left old new (Stands run) (Ok tt) → result ≡ Ok run
      → RunsTo Mismade Stands text reader left old new result

-- every run of a sound description that the text spells goes by the laws
abbrev pub IsLawfulText : List ℕ → Type 0
IsLawfulText text = (d : Desc) → IsSoundText text d → RunsByLaws d
