-- Faults handed on as those of filling.
use Rattle.tv_answers.specs.declared.reading.AnswersFault.{AnswersFault}
use Rattle.tv_answers.specs.declared.reading.AnswersFault.TheVariants as answers
use Rattle.tv_lang.specs.declared.description.LangFault.{LangFault}
use Rattle.tv_lang.specs.declared.description.LangFault.TheVariants as lang
use Rattle.tv_program.specs.declared.fill_fault.FillFault.{FillFault}
use Rattle.tv_program.specs.declared.fill_fault.FillFault.TheVariants as fills

-- the description is not spelled
abbrev pub lang_filled : LangFault → FillFault
lang_filled lang.NoMemory = fills.NoMemory
lang_filled fault = fills.Lang fault

-- the answers are not spelled
abbrev pub answers_filled : AnswersFault → FillFault
answers_filled answers.NoMemory = fills.NoMemory
answers_filled fault = fills.Answers fault
