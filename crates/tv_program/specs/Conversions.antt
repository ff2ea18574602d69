-- Faults handed on: the fault of a part as that of the call which it ends, and that of each call as the one
-- that is told.
use Rattle.tv_session.specs.declared.build_fault.BuildFault.{BuildFault}
use Rattle.tv_session.specs.declared.build_fault.BuildFault.TheVariants as unbuilt
use Rattle.tv_check.specs.declared.acceptance.Refusal.{Refusal}
use Rattle.tv_check.specs.declared.acceptance.Refusal.TheVariants as refusals
use Rattle.tv_check.specs.declared.desc_fault.DescFault.{DescFault}
use Rattle.tv_check.specs.declared.desc_fault.DescFault.TheVariants as descs
use Rattle.tv_certificate.specs.declared.reading.CertificateFault.{CertificateFault}
use Rattle.tv_certificate.specs.declared.reading.CertificateFault.TheVariants as certificates
use Rattle.tv_lang.specs.declared.description.LangFault.{LangFault}
use Rattle.tv_lang.specs.declared.description.LangFault.TheVariants as lang
use Rattle.tv_play.specs.declared.parting.PlayFault.{PlayFault}
use Rattle.tv_play.specs.declared.parting.PlayFault.TheVariants as terminals
use Rattle.tv_program.specs.declared.accept_fault.AcceptFault.{AcceptFault}
use Rattle.tv_program.specs.declared.accept_fault.AcceptFault.TheVariants as accepts
use Rattle.tv_program.specs.declared.answer_fault.AnswerFault.{AnswerFault}
use Rattle.tv_program.specs.declared.answer_fault.AnswerFault.TheVariants as answers
use Rattle.tv_program.specs.declared.check_fault.CheckFault.{CheckFault}
use Rattle.tv_program.specs.declared.check_fault.CheckFault.TheVariants as checks
use Rattle.tv_program.specs.declared.fill_fault.FillFault.{FillFault}
use Rattle.tv_program.specs.declared.fill_fault.FillFault.TheVariants as fills
use Rattle.tv_program.specs.declared.trouble.Trouble.{Trouble}
use Rattle.tv_program.specs.declared.trouble.Trouble.TheVariants as told
use Rattle.tv_program.specs.declared.run_fault.RunFault.{RunFault}
use Rattle.tv_program.specs.declared.run_fault.RunFault.TheVariants as runs
use Rattle.tv_script.specs.declared.script_text.ScriptFault.TheVariants as scripts
use Rattle.tv_script.specs.declared.stream_fault.StreamFault.{StreamFault}
use Rattle.tv_script.specs.declared.stream_fault.StreamFault.TheVariants as streams
use Rattle.tv_session.specs.declared.fault.SessionFault.{SessionFault}
use Rattle.tv_session.specs.declared.fault.SessionFault.TheVariants as refused

-- ---- checking

-- the description is not spelled
abbrev pub lang_checked : LangFault → CheckFault
lang_checked lang.NoMemory = checks.NoMemory
lang_checked fault = checks.Lang fault

-- the description has faults
abbrev pub desc_checked : DescFault → CheckFault
desc_checked descs.NoMemory = checks.NoMemory
desc_checked (descs.Faults list) = checks.Faults list

-- ---- accepting

-- the description is not spelled
abbrev pub lang_accepted : LangFault → AcceptFault
lang_accepted lang.NoMemory = accepts.NoMemory
lang_accepted fault = accepts.Lang fault

-- the certificate is not spelled
abbrev pub certificate_accepted : CertificateFault → AcceptFault
certificate_accepted certificates.NoMemory = accepts.NoMemory
certificate_accepted fault = accepts.Cert fault

-- the certificate is refused
abbrev pub refusal_accepted : Refusal → AcceptFault
refusal_accepted refusals.NoMemory = accepts.NoMemory
refusal_accepted refusal = accepts.Refused refusal

-- ---- running

-- the description is not spelled
abbrev pub lang_run : LangFault → RunFault
lang_run lang.NoMemory = runs.NoMemory
lang_run fault = runs.Lang fault

-- the description has faults
abbrev pub desc_run : DescFault → RunFault
desc_run descs.NoMemory = runs.NoMemory
desc_run (descs.Faults list) = runs.Faults list

-- no views were made
abbrev pub build_run : BuildFault → RunFault
build_run unbuilt.NoMemory = runs.NoMemory
build_run unbuilt.WrongPlan = runs.View

-- the views were refused
abbrev pub session_run : SessionFault → RunFault
session_run refused.NoMemory = runs.NoMemory
session_run (refused.ViewMismatch place) = runs.View

-- the script was left before its end
abbrev pub stream_run : StreamFault → RunFault
stream_run streams.NoMemory = runs.NoMemory
stream_run (streams.Syntax line) = runs.Script (scripts.Syntax line)
stream_run (streams.OffScreen line) = runs.Script (scripts.OffScreen line)
stream_run streams.TooLong = runs.Script scripts.TooLong
stream_run streams.Read = runs.Read
stream_run (streams.Write begun) = runs.Write

-- the run in a terminal was broken off
abbrev pub terminal_run : PlayFault → RunFault
terminal_run terminals.NoMemory = runs.NoMemory
terminal_run terminals.Read = runs.Read
terminal_run terminals.Log = runs.Write
terminal_run terminals.Screen = runs.Write
terminal_run terminals.Tape = runs.Tape

-- ---- telling

-- a fault of reading a description
abbrev pub lang_told : LangFault → Trouble
lang_told lang.NoMemory = told.NoMemory
lang_told fault = told.Lang fault

-- a fault of checking
abbrev pub check_told : CheckFault → Trouble
check_told checks.NoMemory = told.NoMemory
check_told (checks.Lang fault) = told.Lang fault
check_told (checks.Faults list) = told.Faults list
check_told checks.Write = told.Write

-- a fault of accepting
abbrev pub accept_told : AcceptFault → Trouble
accept_told accepts.NoMemory = told.NoMemory
accept_told (accepts.Lang fault) = told.Lang fault
accept_told (accepts.Cert fault) = told.Cert fault
accept_told (accepts.Refused refusal) = told.Refused refusal
accept_told accepts.Write = told.Write

-- a fault of a run
abbrev pub run_told : RunFault → Trouble
run_told runs.NoMemory = told.NoMemory
run_told (runs.Lang fault) = told.Lang fault
run_told (runs.Faults list) = told.Faults list
run_told (runs.Script fault) = told.Script fault
run_told runs.View = told.View
run_told runs.Read = told.Read
run_told runs.Write = told.Write
run_told runs.Tape = told.Write

-- a fault of filling
abbrev pub fill_told : FillFault → Trouble
fill_told fills.NoMemory = told.NoMemory
fill_told (fills.Lang fault) = told.Lang fault
fill_told (fills.Faults list) = told.Faults list
fill_told (fills.Answers fault) = told.Answers fault
fill_told fills.Write = told.Write

-- a fault of answering
abbrev pub answer_told : AnswerFault → Trouble
answer_told (answers.Run fault) = run_told fault
answer_told (answers.Answers fault) = told.Answers fault
answer_told answers.Misfits = told.Misfits
answer_told answers.NoAnswers = told.NoAnswers
answer_told (answers.Disabled ending) = told.Disabled ending
answer_told (answers.Refused ending) = told.Unended ending
answer_told answers.Write = told.Write
