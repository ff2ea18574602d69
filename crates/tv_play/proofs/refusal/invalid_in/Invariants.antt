use Rattle.std.proofs.Common.{◌≡◌, drop}
use Rattle.tv_play.specs.Refusals.{invalid_in}
use Rattle.tv_play.proofs.refusal.invalid_in.Given as goal

abbrev pub invariant-loop-line : goal.invariant-loop-line
invariant-loop-line l = invalid_in l.log ≡ invalid_in (drop l.line-index l.log)
