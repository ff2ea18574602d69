-- The marks of the items so far.
use Rattle.std.proofs.Common.{◌≡◌, fold, take}
use Rattle.tv_boxes.specs.Items.{none_marked, with_mark_of}
use Rattle.tv_boxes.proofs.items.items_on.Given as goal

abbrev pub invariant-loop-item : goal.invariant-loop-item
invariant-loop-item l = l.marks ≡ fold with_mark_of none_marked (take l.item-index l.items)
