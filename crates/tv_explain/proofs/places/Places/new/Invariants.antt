use Rattle.std.proofs.Common.{◌≡◌, ◌+◌, ◌++◌, ◌≤◌, length}
use Rattle.tv_words.specs.LinesLeft.{lines_left}
use Rattle.tv_explain.specs.Places.{places_of, said_from}
use Rattle.tv_explain.proofs.places.Places.new.Given as goal

abbrev pub invariant-loop-line : goal.invariant-loop-line
invariant-loop-line l =
    (l.numbers.items ++ said_from l.number (lines_left l.line-iterator) ≡ places_of l.text)
    × (l.number + length (lines_left l.line-iterator) ≤ 262145)
