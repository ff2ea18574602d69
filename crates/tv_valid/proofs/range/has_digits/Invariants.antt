use Rattle.std.proofs.Common.{◌≡◌, ◌/◌, ◌^◌}
use Rattle.tv_valid.proofs.range.has_digits.Given as goal

abbrev pub invariant-loop : goal.invariant-loop
invariant-loop l = l.left ≡ l.number / 10 ^ l.counter
