use Rattle.std.proofs.Common.{◌≡◌, drop, take}
use Rattle.std.specs.Prelude.{slice_index_or}
use Rattle.tv_model.specs.declared.node.Node.{Node}
use Rattle.tv_explain.specs.Rules.{reaching_line}
use Rattle.tv_explain.proofs.rules.reaching_line.Given as goal

abbrev pub invariant-loop-rule : goal.invariant-loop-rule
invariant-loop-rule l =
    (view : Node)
    → reaching_line (drop l.rule-index l.rules) l.views (take l.place l.views) (slice_index_or l.views l.place view)
    ≡ reaching_line l.rules l.views (take l.place l.views) (slice_index_or l.views l.place view)
