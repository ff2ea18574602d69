-- The lines that are left decide.
use Rattle.std.proofs.Common.{◌≡◌}
use Rattle.tv_words.specs.Lines.{lines_of}
use Rattle.tv_words.specs.LinesLeft.{lines_left}
use Rattle.tv_advice.specs.Beginnings.{first_answer}
use Rattle.tv_advice.proofs.beginning.is_certificate.Given as goal

abbrev pub invariant-loop-line : goal.invariant-loop-line
invariant-loop-line l = first_answer (lines_left l.line-iterator) ≡ first_answer (lines_of l.text)
