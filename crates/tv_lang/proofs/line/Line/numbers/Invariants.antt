-- The words so far and those of the numbers that are left are those of all.
use Rattle.std.proofs.Common.{◌≡◌, ◌++◌, drop, map}
use Rattle.tv_words.specs.Fields.{number_word}
use Rattle.tv_lang.proofs.line.Line.numbers.Given as goal

abbrev pub invariant-loop-number : goal.invariant-loop-number
invariant-loop-number l = l.self ++ map number_word (drop l.number-index l.numbers) ≡ l.fn.self ++ map number_word l.numbers
