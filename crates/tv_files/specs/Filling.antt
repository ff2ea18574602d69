-- What filling a description with answers, and giving answered dialogs their ends, come to.
use Rattle.std.specs.Prelude.{◌≡◌, ℕ, List, Result}
use Rattle.tv_model.specs.declared.desc.Desc.{Desc}
use Rattle.tv_program.specs.Answering.{AnswersTo}
use Rattle.tv_program.specs.Conversions.{answer_told, fill_told}
use Rattle.tv_program.specs.declared.answer_fault.AnswerFault.{AnswerFault}
use Rattle.tv_program.specs.declared.fill_fault.FillFault.{FillFault}
use Rattle.tv_program.specs.declared.trouble.Trouble.{Trouble}
use Rattle.tv_program.specs.Filling.{FillsTo, RefusesSound, Written}
use Rattle.tv_program.specs.Reading.{IsSoundText}
use Rattle.tv_files.specs.Ends.{End, end_as}
use Rattle.tv_files.specs.Files.{Known, longest_log}
use Rattle.tv_files.specs.Tasks.{OnFiles}

-- the text spells no sound description
abbrev pub IsUnsound : (text : List ℕ) → Trouble → Type 0
IsUnsound text fault = (refused : FillFault) × RefusesSound text refused × (fault ≡ fill_told refused)

abbrev pub IsSoundAs : Desc → (text : List ℕ) → Type 0
IsSoundAs d text = IsSoundText text d

abbrev pub SpellsSome : (text : List ℕ) → Type 0
SpellsSome text = (d : Desc) × IsSoundAs d text

-- what `fill_text` answers about the description of the text and the log, told as an end
abbrev pub FillsAs : (file answers : List ℕ) → (old new : Written) → End → (text written : List ℕ) → Type 0
FillsAs file answers old new end text written =
    (d : Desc) × (r : Result (Unit {0}) FillFault) × IsSoundAs d text × FillsTo answers d written old new r
    × (end ≡ end_as fill_told file answers r)

-- the log is looked for once the description is found sound
abbrev pub FillsFiles : (files after : Known) → (file answers : List ℕ) → (old new : Written) → End → Type 0
FillsFiles files after file answers old new end =
    OnFiles longest_log IsUnsound SpellsSome (FillsAs file answers old new end) files after file answers old
    new end

-- ---- ends

-- what `answer_text` answers about them; the views may be refused only where they are mismade
abbrev pub AnswersAs : (Mismade : Desc → Type 0) → (file answers : List ℕ) → (old new : Written) → End
    → (text written : List ℕ) → Type 0
AnswersAs Mismade file answers old new end text written =
    (d : Desc) × (r : Result (Unit {0}) AnswerFault) × IsSoundAs d text
    × AnswersTo Mismade answers d written old new r × (end ≡ end_as answer_told file answers r)

abbrev pub AnswersFiles : (Mismade : Desc → Type 0) → (files after : Known) → (file answers : List ℕ)
    → (old new : Written) → End → Type 0
AnswersFiles Mismade files after file answers old new end =
    OnFiles longest_log IsUnsound SpellsSome (AnswersAs Mismade file answers old new end) files after file
    answers old new end
