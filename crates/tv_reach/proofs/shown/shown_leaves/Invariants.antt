use Rattle.std.proofs.Common.{◌≡◌, ◌++◌, List, drop, map}
use Rattle.std.specs.List.{AllZip}
use Rattle.tv_machine.specs.Leaves.{PlacedNode, leaf_list, leaves_in}
use Rattle.tv_reach.specs.Shown.{IsShownLeaf}
use Rattle.tv_reach.proofs.shown.shown_leaves.Given as goal

-- the leaves so far, and those of the views that are left
abbrev pub invariant-loop-view : goal.invariant-loop-view
invariant-loop-view l =
    (done : List PlacedNode)
    × (done ++ leaves_in (map (λ pane. pane.now) l.panes.items) (drop l.view-index l.views) ≡ leaf_list l.views)
    × AllZip (IsShownLeaf l.views l.rules) done l.leaves.items
