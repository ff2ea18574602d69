-- What is told of a call that didn't come to its end.
use Rattle.std.specs.Prelude.{ℕ, List, [], ◌++◌, ◌⊎◌, flat_map, codes, decimal, encode_utf8}
use Rattle.tv_answers.specs.declared.reading.AnswersFault.{AnswersFault}
use Rattle.tv_answers.specs.declared.reading.AnswersFault.TheVariants as answers
use Rattle.tv_check.specs.declared.acceptance.Refusal.{Refusal}
use Rattle.tv_check.specs.declared.acceptance.Refusal.TheVariants as refusals
use Rattle.tv_certificate.specs.declared.reading.CertificateFault.{CertificateFault}
use Rattle.tv_certificate.specs.declared.reading.CertificateFault.TheVariants as certificates
use Rattle.tv_lang.specs.declared.description.LangFault.{LangFault}
use Rattle.tv_lang.specs.declared.description.LangFault.TheVariants as lang
use Rattle.tv_model.specs.declared.fault.Fault.{Fault}
use Rattle.tv_model.specs.Faults.{fault_number}
use Rattle.tv_model.specs.Log.LogText.{bytes_of, end_word, line_of}
use Rattle.tv_program.specs.declared.answer_fault.Ending.{Ending}
use Rattle.tv_program.specs.declared.trouble.Trouble.{Trouble}
use Rattle.tv_program.specs.declared.trouble.Trouble.TheVariants.{NoMemory, Lang, Faults, Script, Answers, Misfits}
use Rattle.tv_program.specs.declared.trouble.Trouble.TheVariants.{NoAnswers, Disabled, Unended, Write, Read, Cert, Refused, View}
use Rattle.tv_io.specs.Writer.{Seen, Takes, Cuts}
use Rattle.tv_script.specs.declared.script_text.ScriptFault.{ScriptFault}
use Rattle.tv_script.specs.declared.script_text.ScriptFault.TheVariants as scripts

-- the text was taken, or a proper prefix of it because the writer failed
abbrev pub IsOffered : Seen → Seen → List ℕ → Type 0
IsOffered old new text = Takes old new text ⊎ Cuts old new text

-- a fault by its number and line
abbrev pub fault_line : Fault → List ℕ
fault_line fault =
    line_of (codes "F") (decimal (fault_number fault.kind) ++ codes " line " ++ decimal fault.line)

-- a refusal by its reason
abbrev pub refusal_text : Refusal → List ℕ
refusal_text refusals.NoMemory = []
refusal_text (refusals.Faulty fault) = codes "refused " ++ fault_line fault
refusal_text refusals.CertVersion = line_of (codes "refused version") []
refusal_text (refusals.TabOrder place) = line_of (codes "refused tab ") (decimal place)
refusal_text (refusals.Owner letter) = line_of (codes "refused key ") (encode_utf8 letter)

-- faults and refusals go to standard output
abbrev pub out_text : Trouble → List ℕ
out_text (Faults list) = flat_map fault_line list
out_text (Refused refusal) = refusal_text refusal
out_text _ = []

-- what is the matter with a line of the file
abbrev pub line_message : List ℕ → List ℕ → ℕ → List ℕ
line_message name text line = line_of (codes "tvdlg: ") (name ++ text ++ decimal line)

-- the line is none of its language
abbrev pub syntax_message : List ℕ → ℕ → List ℕ
syntax_message name line = line_message name (codes ": syntax at line ") line

abbrev pub lang_message : List ℕ → LangFault → List ℕ
lang_message name lang.NoMemory = line_of (codes "tvdlg: ") (codes "no memory")
lang_message name (lang.Syntax line) = syntax_message name line
lang_message name lang.TooLong = line_of (codes "tvdlg: ") (name ++ codes ": too long")
lang_message name lang.Version = line_of (codes "tvdlg: ") (name ++ codes ": unknown version")

abbrev pub script_message : List ℕ → ScriptFault → List ℕ
script_message name scripts.NoMemory = line_of (codes "tvdlg: ") (codes "no memory")
script_message name (scripts.Syntax line) = syntax_message name line
script_message name (scripts.OffScreen line) = line_message name (codes ": off screen at line ") line
script_message name scripts.TooLong = line_of (codes "tvdlg: ") (name ++ codes ": too long")

abbrev pub cert_message : List ℕ → CertificateFault → List ℕ
cert_message name certificates.NoMemory = line_of (codes "tvdlg: ") (codes "no memory")
cert_message name (certificates.Syntax line) = syntax_message name line
cert_message name certificates.TooLong = line_of (codes "tvdlg: ") (name ++ codes ": too long")

abbrev pub answers_message : List ℕ → AnswersFault → List ℕ
answers_message name answers.NoMemory = line_of (codes "tvdlg: ") (codes "no memory")
answers_message name (answers.Syntax line) = syntax_message name line
answers_message name answers.TooLong = line_of (codes "tvdlg: ") (name ++ codes ": too long")

-- an end that a dialog isn't given, because its rules disable it, or because it stays open
abbrev pub disabled_message : List ℕ → Ending → List ℕ
disabled_message name ending =
    line_of (codes "tvdlg: ")
    (name ++ codes ": " ++ end_word ending.command.0 ++ codes " is disabled in " ++ bytes_of ending.dialog)

abbrev pub unended_message : List ℕ → Ending → List ℕ
unended_message name ending =
    line_of (codes "tvdlg: ")
    (name ++ codes ": " ++ bytes_of ending.dialog ++ codes " refuses " ++ end_word ending.command.0)

-- the message on standard error, with the bytes of the file's name
abbrev pub err_text : List ℕ → Trouble → List ℕ
err_text name NoMemory = line_of (codes "tvdlg: ") (codes "no memory")
err_text name (Lang fault) = lang_message name fault
err_text name (Faults list) = []
err_text name (Script fault) = script_message name fault
err_text name (Answers fault) = answers_message name fault
err_text name Misfits = []
err_text name NoAnswers = line_of (codes "tvdlg: ") (name ++ codes ": no answers")
err_text name (Disabled ending) = disabled_message name ending
err_text name (Unended ending) = unended_message name ending
err_text name (Cert fault) = cert_message name fault
err_text name (Refused refusals.NoMemory) = line_of (codes "tvdlg: ") (codes "no memory")
err_text name (Refused refusal) = []
err_text name View = line_of (codes "tvdlg: ") (codes "view refused")
err_text name Read = line_of (codes "tvdlg: ") (codes "cannot read " ++ name)
err_text name Write = line_of (codes "tvdlg: ") (codes "cannot write")

-- 1 for a text that is not right, 3 for memory and devices
abbrev pub lang_status : LangFault → ℕ
lang_status lang.NoMemory = 3
lang_status _ = 1

abbrev pub script_status : ScriptFault → ℕ
script_status scripts.NoMemory = 3
script_status _ = 1

abbrev pub cert_status : CertificateFault → ℕ
cert_status certificates.NoMemory = 3
cert_status _ = 1

abbrev pub answers_status : AnswersFault → ℕ
answers_status answers.NoMemory = 3
answers_status _ = 1

abbrev pub refusal_status : Refusal → ℕ
refusal_status refusals.NoMemory = 3
refusal_status _ = 1

abbrev pub status_of : Trouble → ℕ
status_of NoMemory = 3
status_of (Lang fault) = lang_status fault
status_of (Faults list) = 1
status_of (Script fault) = script_status fault
status_of (Answers fault) = answers_status fault
status_of Misfits = 1
status_of NoAnswers = 1
status_of (Disabled ending) = 1
status_of (Unended ending) = 1
status_of (Cert fault) = cert_status fault
status_of (Refused refusal) = refusal_status refusal
status_of View = 1
status_of Read = 3
status_of Write = 3
