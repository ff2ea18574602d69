use Rattle.std.proofs.Common.{◌≡◌, map}
use Rattle.tv_answers.specs.Filling.{with_value_of}
use Rattle.tv_answers.proofs.filling.with_values.Given as goal

-- those so far were begun
abbrev pub invariant-loop-view : goal.invariant-loop-view
invariant-loop-view l = l.begun.items ≡ map (with_value_of l.fn.entries) l.yielded
