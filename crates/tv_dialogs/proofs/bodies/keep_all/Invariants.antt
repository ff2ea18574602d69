use Rattle.std.proofs.Common.{◌≡◌, length, vec_capacity, vec_len}
use Rattle.tv_dialogs.proofs.BodyLemmas.{IsMaking}
use Rattle.tv_dialogs.proofs.bodies.keep_all.Given as goal

abbrev pub invariant-loop-body : goal.invariant-loop-body
invariant-loop-body g l =
    IsMaking g.V.View.meaning l.dialogs l.initial.bodies.items l.bodies.items l.kept.items
    × (vec_capacity l.bodies ≡ vec_capacity l.initial.bodies) × (vec_capacity l.kept ≡ length l.dialogs)

abbrev pub decreases-loop-body : goal.decreases-loop-body
decreases-loop-body g l = vec_len l.bodies
