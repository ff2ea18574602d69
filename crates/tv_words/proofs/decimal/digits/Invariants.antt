use Rattle.std.proofs.Common.{◌≡◌, drop}
use Rattle.tv_words.specs.Reading.Steps.{steps}
use Rattle.tv_words.specs.Reading.Numbers.{add_digit, digits_in}
use Rattle.tv_words.proofs.decimal.digits.Given as goal

abbrev pub invariant-loop-ch : goal.invariant-loop-ch
invariant-loop-ch l = steps add_digit l.number (drop l.ch-index l.text) ≡ digits_in l.text
