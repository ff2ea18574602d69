-- Faults handed on as those of answering.
use Rattle.tv_answers.specs.declared.reading.AnswersFault.{AnswersFault}
use Rattle.tv_answers.specs.declared.reading.AnswersFault.TheVariants as answers
use Rattle.tv_program.specs.declared.answer_fault.AnswerFault.{AnswerFault}
use Rattle.tv_program.specs.declared.answer_fault.AnswerFault.TheVariants.{Answers, Run}
use Rattle.tv_program.specs.declared.run_fault.RunFault.TheVariants.{NoMemory}

-- the answers are not spelled
abbrev pub answers_told : AnswersFault → AnswerFault
answers_told answers.NoMemory = Run NoMemory
answers_told fault = Answers fault
