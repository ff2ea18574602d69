use Rattle.std.proofs.Common.{◌≡◌, min, take}
use Rattle.std.specs.List.{All}
use Rattle.tv_picture.specs.Pattern.{IsDigit}
use Rattle.tv_valid.specs.Domain.{number_of_digits}
use Rattle.tv_valid.proofs.range.magnitude.Given as goal

abbrev pub invariant-loop-ch : goal.invariant-loop-ch
invariant-loop-ch l = (l.sum ≡ min (number_of_digits (take l.ch-index l.digits)) 10000000000) × All IsDigit (take l.ch-index l.digits)
