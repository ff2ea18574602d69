-- The lines that are left decide, and they are few.
use Rattle.std.proofs.Common.{◌≡◌, ◌+◌, ◌≤◌, length}
use Rattle.tv_words.specs.Lines.{lines_of}
use Rattle.tv_words.specs.LinesLeft.{lines_left}
use Rattle.tv_advice.specs.Beginnings.{first_declared}
use Rattle.tv_advice.proofs.beginning.first_declared.Given as goal

abbrev pub invariant-loop-line : goal.invariant-loop-line
invariant-loop-line l = (first_declared l.number (lines_left l.line-iterator) ≡ first_declared 1 (lines_of l.text)) × (l.number + length (lines_left l.line-iterator) ≤ 262145)
