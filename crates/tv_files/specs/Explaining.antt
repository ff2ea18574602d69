-- What explaining the faults of files comes to.
use Rattle.std.specs.Prelude.{◌≡◌, ◌⊎◌, ℕ, ◌<◌, List, [], ◌∷◌, Option, Some, None, length, Result, Ok, Err}
use Rattle.tv_certificate.specs.declared.reading.CertificateFault.TheVariants as certificates
use Rattle.tv_files.specs.Ends.{End, done_in, end_as}
use Rattle.tv_files.specs.Files.{Known, longest}
use Rattle.tv_files.specs.Tasks.{GivesText, IsUnread, OnFile}
use Rattle.tv_files.specs.declared.done.Done.{Done}
use Rattle.tv_files.specs.declared.done.Done.TheVariants.{Whole, Faulty, BrokenOff}
use Rattle.tv_io.specs.Writer.{Cuts, Seen, Takes}
use Rattle.tv_model.specs.declared.desc.Desc.{Desc}
use Rattle.tv_lang.specs.declared.description.LangFault.TheVariants as langs
use Rattle.tv_program.specs.Reading.{IsNoDescription}
use Rattle.tv_program.specs.declared.trouble.Trouble.{Trouble}
use Rattle.tv_program.specs.declared.trouble.Trouble.TheVariants as faults
use Rattle.tv_advice.specs.Beside.{IsReportBeside, IsToldBeside}
use Rattle.tv_advice.specs.Told.{IsReportOf, SpellsSound}
use Rattle.tv_advice.specs.declared.beside.Beside.TheVariants as besides
use Rattle.tv_advice.specs.declared.manner.Manner.{Manner}
use Rattle.tv_script.specs.declared.script_text.ScriptFault.TheVariants as scripts

-- ---- a description

-- a report on the text was written, or a proper prefix of it
abbrev pub WritesReport : (writes : (report : List ℕ) → Type 0) → (IsOn : (report : List ℕ) → Type 0)
    → Type 0
WritesReport writes IsOn = (report : List ℕ) × IsOn report × writes report

-- A report was written where there is something to tell, and nothing where there isn't. A text that is too long
-- is not told of.
abbrev pub ExplainsTo : Manner → (name text : List ℕ) → (old new : Seen) → Result (Option Desc) Trouble
    → Type 0
ExplainsTo manner name text old new (Ok (Some desc)) = SpellsSound text desc × (new ≡ old)
ExplainsTo manner name text old new (Ok None) = WritesReport (Takes old new) (IsReportOf manner name text)
ExplainsTo manner name text old new (Err faults.NoMemory) = new ≡ old
ExplainsTo manner name text old new (Err (faults.Lang langs.TooLong)) =
    IsNoDescription text langs.TooLong × (new ≡ old)
ExplainsTo manner name text old new (Err faults.Write) =
    WritesReport (Cuts old new) (IsReportOf manner name text)
ExplainsTo manner name text old new (Err _) = ⊥

-- how the task was done where this was found: the description, if it is sound
abbrev pub how_found : Option Desc → Done
how_found (Some desc) = Whole
how_found None = Faulty

-- the same of the answer
abbrev pub how_explained : Result (Option Desc) Trouble → Done
how_explained (Ok found) = how_found found
how_explained (Err fault) = Whole

-- the same, told as an end
abbrev pub ExplainsAs : Manner → (file : List ℕ) → (old new : Seen) → Done → End → (text : List ℕ) → Type 0
ExplainsAs manner file old new how end text =
    (r : Result (Option Desc) Trouble) × ExplainsTo manner file text old new r × (how ≡ how_explained r)
    × (end ≡ end_as (λ fault. fault) file file r)

-- the file is read, and what there is to tell of it is written
abbrev pub ExplainsFile : Manner → (files after : Known) → (file : List ℕ) → (old new : Seen) → Done → End
    → Type 0
ExplainsFile manner files after file old new how end =
    OnFile (ExplainsAs manner file old new how end) files after file old new end

-- ---- a text beside it

-- what is told of the text beside the description, as the same: a report, a refusal, or that it is too long.
-- Of a file that is longer than `longest` no more is read
abbrev pub ExplainsBesideTo : Manner → (name : List ℕ) → Desc → (text : List ℕ) → (old new : Seen)
    → Result Done Trouble → Type 0
ExplainsBesideTo manner name desc text old new (Ok Whole) =
    IsToldBeside manner name desc text besides.Fine × (new ≡ old)
ExplainsBesideTo manner name desc text old new (Ok Faulty) =
    WritesReport (Takes old new) (IsReportBeside manner name desc text)
ExplainsBesideTo manner name desc text old new (Ok BrokenOff) = ⊥
ExplainsBesideTo manner name desc text old new (Err faults.NoMemory) = new ≡ old
ExplainsBesideTo manner name desc text old new (Err (faults.Script scripts.TooLong)) =
    ((longest < length text) ⊎ IsToldBeside manner name desc text besides.LongScript) × (new ≡ old)
ExplainsBesideTo manner name desc text old new (Err (faults.Cert certificates.TooLong)) =
    IsToldBeside manner name desc text besides.LongCertificate × (new ≡ old)
ExplainsBesideTo manner name desc text old new (Err (faults.Refused refusal)) =
    IsToldBeside manner name desc text (besides.Refused refusal) × (new ≡ old)
ExplainsBesideTo manner name desc text old new (Err faults.Write) =
    WritesReport (Cuts old new) (IsReportBeside manner name desc text)
ExplainsBesideTo manner name desc text old new (Err _) = ⊥

-- the same, told as an end
abbrev pub ExplainsBesideAs : Manner → (beside : List ℕ) → Desc → (old new : Seen) → Done → End
    → (text : List ℕ) → Type 0
ExplainsBesideAs manner beside desc old new how end text =
    (r : Result Done Trouble) × ExplainsBesideTo manner beside desc text old new r × (how ≡ done_in r)
    × (end ≡ end_as (λ fault. fault) beside beside r)

-- the file beside a sound description is read, and what there is to tell of it is written
abbrev pub ExplainsSecond : Manner → Desc → (files after : Known) → (beside : List ℕ) → (old new : Seen)
    → Done → End → Type 0
ExplainsSecond manner desc files after beside old new how end =
    OnFile (ExplainsBesideAs manner beside desc old new how end) files after beside old new end

-- ---- both

-- there was something to tell, or it couldn't be told
abbrev pub EndsThere : Result (Option Desc) Trouble → Type 0
EndsThere (Ok (Some desc)) = ⊥
EndsThere _ = Unit {0}

-- The file beside the description is looked for once the description is found sound: so it is told of alone
pub data ExplainsFiles (manner : Manner) (files after : Known) (file beside : List ℕ) (old new : Seen)
    (how : Done) (end : End) : Type 0 where
  unread : IsUnread longest files after (file ∷ []) file end → new ≡ old
      → ExplainsFiles manner files after file beside old new how end
  first : (text : List ℕ) (r : Result (Option Desc) Trouble) → GivesText longest files after (file ∷ []) file text
      → ExplainsTo manner file text old new r → EndsThere r → how ≡ how_explained r
      → end ≡ end_as (λ fault. fault) file file r
      → ExplainsFiles manner files after file beside old new how end
  second : (mid : Known) (text : List ℕ) (desc : Desc) → GivesText longest files mid (file ∷ []) file text
      → SpellsSound text desc → ExplainsSecond manner desc mid after beside old new how end
      → ExplainsFiles manner files after file beside old new how end
