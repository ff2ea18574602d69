use Rattle.std.proofs.Common.{◌≡◌, drop, map}
use Rattle.tv_model.specs.declared.node.Node.{Node}
use Rattle.tv_names.specs.Sharing.{first_separating, lent_group}
use Rattle.tv_names.proofs.sharing.separating.Given as goal

abbrev pub invariant-loop-group : goal.invariant-loop-group
invariant-loop-group l = (view : Node) → first_separating l.views (map lent_group (drop l.group-index l.groups)) view l.places ≡ first_separating l.views (map lent_group l.groups) view l.places
