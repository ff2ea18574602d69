-- What was told of a text beside a description, where it is a report.
use Rattle.std.proofs.Common.{ℕ, List, string_bytes}
use Rattle.std.specs.Prelude.{Bool, true, false}
use Rattle.tv_model.specs.declared.desc.Desc.{Desc}
use Rattle.tv_advice.specs.Beside.{IsReportByKind, IsToldByKind}
use Rattle.tv_advice.specs.declared.beside.Beside.{Beside}
use Rattle.tv_advice.specs.declared.beside.Beside.TheVariants as besides
use Rattle.tv_advice.specs.declared.manner.Manner.{Manner}

-- the report, if it is one, tells of a line of the text
abbrev pub IsReportIn : Bool → Manner → (name : List ℕ) → Desc → (text : List ℕ) → Beside → Type 0
IsReportIn kind manner name desc text (besides.Faulty report) = IsReportByKind kind manner name desc text (string_bytes report)
IsReportIn kind manner name desc text _ = Unit {0}

pub told_report : (kind : Bool) (manner : Manner) (name : List ℕ) (desc : Desc) (text : List ℕ) (told : Beside) → IsToldByKind kind manner name desc text told → IsReportIn kind manner name desc text told
told_report true manner name desc text (besides.Faulty report) is = is
told_report false manner name desc text (besides.Faulty report) is = is
told_report kind manner name desc text besides.Fine is = tt
told_report kind manner name desc text besides.LongScript is = tt
told_report kind manner name desc text besides.LongCertificate is = tt
told_report kind manner name desc text (besides.Refused refusal) is = tt
