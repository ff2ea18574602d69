use Rattle.std.proofs.Common.{◌≡◌, ◌+◌, ◌≤◌, [], length}
use Rattle.tv_words.specs.Lines.{lines_of}
use Rattle.tv_words.specs.LinesLeft.{lines_left}
use Rattle.tv_script.specs.Judging.{judged_from}
use Rattle.tv_script.proofs.script_text.read_lines.Given as goal

abbrev pub invariant-loop-line : goal.invariant-loop-line
invariant-loop-line l =
    (judged_from l.width l.height l.number l.items (lines_left l.line-iterator) ≡ judged_from l.width l.height 1 [] (lines_of l.text)) × (l.number + length (lines_left l.line-iterator) ≤ length l.text + 1)
