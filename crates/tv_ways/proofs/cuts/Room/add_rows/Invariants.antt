use Rattle.std.proofs.Common.{◌≡◌, ◌++◌, drop}
use Rattle.tv_ways.specs.Cuts.{cuts_of_rows}
use Rattle.tv_ways.proofs.cuts.Room.add_rows.Given as goal

abbrev pub invariant-loop-at : goal.invariant-loop-at
invariant-loop-at l =
    l.cuts.items ++ cuts_of_rows l.self.id l.self.width l.at (drop l.at l.rows) ≡ l.initial.cuts.items ++ cuts_of_rows l.self.id l.self.width 0 l.rows
