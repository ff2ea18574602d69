-- What is told of the text of a file.
use Rattle.std.specs.Prelude.{◌≢◌, ◌⊎◌, ℕ, ◌<◌, List, [], length, map, string_bytes}
use Rattle.tv_explain.specs.Explaining.{explained}
use Rattle.tv_model.specs.declared.desc.Desc.{Desc}
use Rattle.tv_model.specs.Faults.{IsSound, faults_of}
use Rattle.tv_lang.specs.declared.description.LangFault.TheVariants.{Syntax, Version}
use Rattle.tv_lang.specs.CanonicalDescription.{CanBeSpelled}
use Rattle.tv_lang.specs.Faults.{RefusesToParse, Spells}
use Rattle.tv_words.specs.Lines.{lines_of}
use Rattle.tv_advice.specs.Beginnings.{first_declared}
use Rattle.tv_advice.specs.Blocks.{IsReportOn, IsUnreadReport, IsVersionBlock}
use Rattle.tv_advice.specs.declared.manner.Manner.{Manner}
use Rattle.tv_advice.specs.declared.whole.Told.{Told}
use Rattle.tv_advice.specs.declared.whole.Told.TheVariants as tellings

-- the text spells a description that has no fault
pub record SpellsSound (text : List ℕ) (desc : Desc) : Type 0 where
  pub spelled : Spells text desc
  pub sound : IsSound desc
  pub can_be_spelled : CanBeSpelled desc

-- the text spells a description with faults, and the report has a block for each of them, in their order
pub record TellsFaults (manner : Manner) (name text report : List ℕ) : Type 0 where
  pub desc : Desc
  pub spelled : Spells text desc
  pub some : faults_of desc ≢ []
  pub blocks : IsReportOn manner name (map (explained text desc) (faults_of desc)) report

-- some line of the text can't be read: the report begins with a block on the first such line, and has further
-- blocks on lines behind it alone
pub record TellsLine (manner : Manner) (name text report : List ℕ) : Type 0 where
  pub line : ℕ
  pub refused : RefusesToParse text (Syntax line)
  pub blocks : IsUnreadReport manner name line report

-- the text is of another version, and the report is one block on the line that says so, the first declaration
pub record TellsVersion (manner : Manner) (name text report : List ℕ) : Type 0 where
  pub refused : RefusesToParse text Version
  pub block : IsVersionBlock manner name (first_declared 1 (lines_of text)) report

-- the report tells of the faults of the text, of lines that can't be read, or of the version
abbrev pub IsReportOf : Manner → (name text report : List ℕ) → Type 0
IsReportOf manner name text report =
    TellsFaults manner name text report ⊎ (TellsLine manner name text report
    ⊎ TellsVersion manner name text report)

-- what is told holds of the text
abbrev pub IsToldOf : Manner → (name text : List ℕ) → Told → Type 0
IsToldOf manner name text (tellings.Sound desc) = SpellsSound text desc
IsToldOf manner name text (tellings.Faulty report) = IsReportOf manner name text (string_bytes report)
IsToldOf manner name text tellings.TooLong = 262144 < length text
