use Rattle.std.proofs.Common.{◌≡◌, ◌++◌, drop}
use Rattle.tv_ways.specs.Cuts.{cuts_of_items}
use Rattle.tv_ways.proofs.cuts.Room.add_items.Given as goal

abbrev pub invariant-loop-at : goal.invariant-loop-at
invariant-loop-at l =
    l.cuts.items ++ cuts_of_items l.self.id l.self.width l.at (drop l.at l.items) ≡ l.initial.cuts.items ++ cuts_of_items l.self.id l.self.width 0 l.items
