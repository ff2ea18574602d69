use Rattle.std.proofs.Common.{◌≡◌, ◌≤◌, ◌+◌, ◌++◌, map, reverse, vec_capacity, vec_len}
use Rattle.tv_dialogs.specs.Bodies.{kept_body}
use Rattle.tv_dialogs.proofs.bodies.give_back.Given as goal

abbrev pub invariant-loop-last : goal.invariant-loop-last
invariant-loop-last g l =
    (vec_len l.bodies + vec_len l.kept ≤ vec_capacity l.bodies)
    × (l.bodies.items ++ map kept_body (reverse l.kept.items) ≡ l.initial.bodies.items ++ map kept_body (reverse l.initial.kept.items))

abbrev pub decreases-loop-last : goal.decreases-loop-last
decreases-loop-last g l = vec_len l.kept
