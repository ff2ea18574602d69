use Rattle.std.proofs.Common.{◌≡◌, ◌≤◌, length, take, get_or}
use Rattle.std.specs.List.{list_any}
use Rattle.tv_model.specs.declared.node.Node.{Node}
use Rattle.tv_model.specs.Description.Nodes.{has_id}
use Rattle.tv_model.specs.Description.Rules.{stands_over}
use Rattle.tv_overlaps.proofs.DepthLemmas.{up_to}
use Rattle.tv_overlaps.proofs.OwnerLemmas.{panes_at}
use Rattle.tv_overlaps.proofs.owner.stands_over.Given as goal

abbrev pub invariant-loop-around : goal.invariant-loop-around
invariant-loop-around l =
    (up_to l.around ≤ length l.views)
    × ((view : Node) → list_any (has_id l.target) (panes_at l.views view l.around) ≡ stands_over l.target (take l.fn.place l.views) (get_or l.views l.fn.place view))

abbrev pub decreases-loop-around : goal.decreases-loop-around
decreases-loop-around l = up_to l.around
