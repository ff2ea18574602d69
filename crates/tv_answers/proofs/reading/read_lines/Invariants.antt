use Rattle.std.proofs.Common.{◌≡◌, ◌+◌, ◌≤◌, length}
use Rattle.tv_words.specs.LinesLeft.{lines_left}
use Rattle.tv_answers.specs.Outcomes.{log_outcome, outcome_from}
use Rattle.tv_answers.proofs.reading.read_lines.Given as goal

-- the lines that are left
abbrev pub invariant-loop-line : goal.invariant-loop-line
invariant-loop-line l = (outcome_from l.desc l.number l.read (lines_left l.line-iterator) ≡ log_outcome l.desc l.text) × (l.number + length (lines_left l.line-iterator) ≤ 1048577)
