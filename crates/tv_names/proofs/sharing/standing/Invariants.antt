use Rattle.std.proofs.Common.{◌≡◌, ◌≤◌, ◌++◌, length, map, take, get_or}
use Rattle.tv_model.specs.declared.node.Node.{Node}
use Rattle.tv_names.specs.Focus.{standing}
use Rattle.tv_overlaps.proofs.DepthLemmas.{up_to}
use Rattle.tv_overlaps.proofs.OwnerLemmas.{panes_at}
use Rattle.tv_names.proofs.sharing.standing.Given as goal

abbrev pub invariant-loop-around : goal.invariant-loop-around
invariant-loop-around l =
    (up_to l.around ≤ length l.views)
    × ((view : Node) → l.ids.items ++ map (λ pane. pane.id) (panes_at l.views view l.around) ≡ standing (take l.fn.place l.views) (get_or l.views l.fn.place view))

abbrev pub decreases-loop-around : goal.decreases-loop-around
decreases-loop-around l = up_to l.around
