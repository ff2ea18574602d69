-- What is written where a description is filled with answers.
use Rattle.std.specs.Prelude.{◌≡◌, ◌≢◌, ℕ, ◌<◌, List, ◌++◌, flat_map, length, Result, Ok, Err, codes}
use Rattle.tv_answers.specs.declared.answers.Answers.{Answers}
use Rattle.tv_answers.specs.declared.misfit.Misfit.{Misfit}
use Rattle.tv_answers.specs.declared.reading.AnswersFault.{AnswersFault}
use Rattle.tv_answers.specs.declared.reading.AnswersFault.TheVariants as answers
use Rattle.tv_answers.specs.Filling.{filled}
use Rattle.tv_answers.specs.Misfits.{misfit_text}
use Rattle.tv_answers.specs.ReadLogs.{IsAnswered, RefusesAnswers}
use Rattle.tv_check.specs.Refusals.{HasFaults}
use Rattle.tv_declarations.specs.CanonicalDescription.{description_text}
use Rattle.tv_io.specs.Writer.{Seen, Takes, Cuts}
use Rattle.tv_lang.specs.declared.description.LangFault.{LangFault}
use Rattle.tv_lang.specs.declared.description.LangFault.TheVariants as lang
use Rattle.tv_lang.specs.Faults.{Spells}
use Rattle.tv_model.specs.declared.desc.Desc.{Desc}
use Rattle.tv_model.specs.Log.LogText.{line_of}
use Rattle.tv_program.specs.declared.fill_fault.FillFault.{FillFault}
use Rattle.tv_program.specs.declared.fill_fault.FillFault.TheVariants as fills
use Rattle.tv_program.specs.Reading.{IsNoDescription, IsSoundText}
use Rattle.tv_program.specs.Report.{IsOffered}

-- why a text spells no sound description
abbrev pub RefusesSound : List ℕ → FillFault → Type 0
RefusesSound text fills.NoMemory = Unit {0}
RefusesSound text (fills.Lang fault) = IsNoDescription text fault
RefusesSound text (fills.Faults list) = (d : Desc) × Spells text d × HasFaults d list
RefusesSound text _ = ⊥

-- the message of what doesn't fit, with the name of the file that has it
abbrev pub misfit_message : List ℕ → Misfit → List ℕ
misfit_message name misfit = line_of (codes "tvdlg: ") (name ++ codes ": " ++ misfit_text misfit)

-- the message of each
abbrev pub misfit_messages : List ℕ → List Misfit → List ℕ
misfit_messages name misfits = flat_map (misfit_message name) misfits

-- the text of the description filled with the answers
abbrev pub filled_text : Desc → Answers → List ℕ
filled_text d a = description_text (filled d a)

-- the text spells no log of the description, for a reason of its own
abbrev pub IsNoLog : Desc → List ℕ → AnswersFault → Type 0
IsNoLog d written fault = RefusesAnswers d written fault × (fault ≢ answers.NoMemory)

-- what both writers have seen
pub record Written : Type 0 where
  pub out : Seen
  pub told : Seen

-- the text is longer than that of a description may be
abbrev pub IsTooLong : List ℕ → LangFault → Type 0
IsTooLong text fault = (fault ≡ lang.TooLong) × (262144 < length text)

-- With Ok the text of the filled description was written, which spells that description, a sound one, and
-- what doesn't fit was told. Nothing is written or told before the answers are read and the filled description
-- has passed. A message that can't be written changes nothing else.
abbrev pub FillsTo : {T : Type 0} → List ℕ → Desc → List ℕ → Written → Written → Result T FillFault → Type 0
FillsTo name d written old new (Ok _) =
    (a : Answers) × IsAnswered d written a × IsSoundText (filled_text d a) (filled d a)
    × Takes old.out new.out (filled_text d a) × IsOffered old.told new.told (misfit_messages name a.misfits)
FillsTo name d written old new (Err fills.NoMemory) = new ≡ old
FillsTo name d written old new (Err (fills.Answers fault)) = IsNoLog d written fault × (new ≡ old)
FillsTo name d written old new (Err (fills.Lang fault)) =
    (a : Answers) × IsAnswered d written a × IsTooLong (filled_text d a) fault × (new ≡ old)
FillsTo name d written old new (Err (fills.Faults list)) =
    (a : Answers) × IsAnswered d written a
    × Spells (filled_text d a) (filled d a) × HasFaults (filled d a) list × (new ≡ old)
FillsTo name d written old new (Err fills.Write) =
    (a : Answers) × IsAnswered d written a × IsSoundText (filled_text d a) (filled d a)
    × Cuts old.out new.out (filled_text d a) × IsOffered old.told new.told (misfit_messages name a.misfits)
