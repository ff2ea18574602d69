-- What warning of a description comes to.
use Rattle.std.specs.Prelude.{◌≡◌, ℕ, Bool, true, false, ◌&&◌, if◌then◌else◌, List, Option, Result, Ok, Err, string_bytes}
use Rattle.tv_advice.specs.declared.manner.Manner.{Manner}
use Rattle.tv_advice.specs.Told.{SpellsSound}
use Rattle.tv_files.specs.Ends.{End, done_in, end_as}
use Rattle.tv_files.specs.Explaining.{EndsThere, ExplainsTo}
use Rattle.tv_files.specs.Files.{Known}
use Rattle.tv_files.specs.Tasks.{OnFile}
use Rattle.tv_files.specs.Ways.{done_faulty}
use Rattle.tv_files.specs.declared.done.Done.{Done}
use Rattle.tv_files.specs.declared.done.Done.TheVariants.{Whole, Faulty}
use Rattle.tv_io.specs.Writer.{Cuts, Seen, Takes}
use Rattle.tv_model.specs.declared.desc.Desc.{Desc}
use Rattle.tv_program.specs.declared.trouble.Trouble.{Trouble}
use Rattle.tv_program.specs.declared.trouble.Trouble.TheVariants as faults
use Rattle.tv_warnings.specs.Warned.{IsWarned}
use Rattle.tv_warnings.specs.declared.warning.Warned.{Warned}

-- the report of all that is found was written, or a proper prefix of it
abbrev pub WritesWarned : Manner → (name text : List ℕ) → Desc → (writes : (report : List ℕ) → Type 0) → (w : Warned) → Type 0
WritesWarned manner name text d writes w = IsWarned manner name text d w × writes (string_bytes w.report)

-- and whether there is a warning
abbrev pub WarnsOf : Manner → (name text : List ℕ) → Desc → (old new : Seen) → Result Bool Trouble → Type 0
WarnsOf manner name text d old new (Ok any) =
    (w : Warned) × WritesWarned manner name text d (Takes old new) w × (any ≡ w.is_any)
WarnsOf manner name text d old new (Err faults.NoMemory) = new ≡ old
WarnsOf manner name text d old new (Err faults.Write) = (w : Warned) × WritesWarned manner name text d (Cuts old new) w
WarnsOf manner name text d old new (Err _) = ⊥

-- how it was done: where warnings are denied, one counts as a fault
abbrev pub how_warned : (denies any : Bool) → Done
how_warned denies any = if any && denies then Faulty else Whole

abbrev pub done_warned : (denies : Bool) → Result Bool Trouble → Result Done Trouble
done_warned denies (Ok any) = Ok (how_warned denies any)
done_warned denies (Err fault) = Err fault

-- the faults of the text are told as by `explain`; where it has none, what there is to warn of is
pub data WarnsTo (manner : Manner) (denies : Bool) (name text : List ℕ) (old new : Seen) (r : Result Done Trouble) : Type 0
  where
    faulty : (told : Result (Option Desc) Trouble) → ExplainsTo manner name text old new told → EndsThere told
        → r ≡ done_faulty told → WarnsTo manner denies name text old new r
    sound : (d : Desc) (any : Result Bool Trouble) → SpellsSound text d → WarnsOf manner name text d old new any
        → r ≡ done_warned denies any → WarnsTo manner denies name text old new r

-- the same, told as an end
abbrev pub WarnsAs : Manner → (denies : Bool) → (file : List ℕ) → (old new : Seen) → Done → End → (text : List ℕ) → Type 0
WarnsAs manner denies file old new how end text =
    (r : Result Done Trouble) × WarnsTo manner denies file text old new r × (how ≡ done_in r)
    × (end ≡ end_as (λ fault. fault) file file r)

-- the file is read, and it is warned of
abbrev pub WarnsFile : Manner → (denies : Bool) → (files after : Known) → (file : List ℕ) → (old new : Seen) → Done → End
    → Type 0
WarnsFile manner denies files after file old new how end =
    OnFile (WarnsAs manner denies file old new how end) files after file old new end
