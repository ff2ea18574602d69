use Rattle.std.proofs.Common.{◌≡◌, drop}
use Rattle.tv_choices.proofs.check_boxes.marks_of.Given as goal
use Rattle.tv_model.specs.Kinds.Cluster.{marks_of}

-- the marks of the items that were looked at, from the last one
abbrev pub invariant-loop-i : goal.invariant-loop-i
invariant-loop-i l = l.marks ≡ marks_of (drop l.i l.items)
