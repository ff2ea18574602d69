use Rattle.std.proofs.Common.{◌≡◌, ◌++◌, drop, map, take}
use Rattle.tv_model.specs.declared.node.Node.{Node}
use Rattle.tv_model.specs.Description.Sharing.{markers_of}
use Rattle.tv_names.specs.Sharing.{AreWithin, marker_at}
use Rattle.tv_names.proofs.SharingLemmas.{markers_after}
use Rattle.tv_names.proofs.sharing.markers_of.Given as goal

abbrev pub invariant-loop-place : goal.invariant-loop-place
invariant-loop-place l = record {
  within : AreWithin l.views l.places.items;
  markers : (d : Node) → map (marker_at l.views d) l.places.items ++ markers_after l.letter (take l.place l.views) (drop l.place l.views) ≡ markers_of l.views l.letter;
}
