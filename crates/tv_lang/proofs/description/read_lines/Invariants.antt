use Rattle.std.proofs.Common.{◌≡◌, ◌+◌, ◌≤◌, length}
use Rattle.tv_words.specs.LinesLeft.{lines_left}
use Rattle.tv_lang.specs.Reading.Descriptions.{description_from, description_outcome}
use Rattle.tv_lang.proofs.description.read_lines.Given as goal

abbrev pub invariant-loop-line : goal.invariant-loop-line
invariant-loop-line l = (description_from l.number l.progress (lines_left l.line-iterator) ≡ description_outcome l.text) × (l.number + length (lines_left l.line-iterator) ≤ 262145) × (l.progress.next ≤ l.number)
