use Rattle.std.proofs.Common.{◌≡◌, ◌++◌}
use Rattle.std.specs.Iterator.Adapters.{zip_first, zip_second}
use Rattle.std.specs.List.{filter_map, zip}
use Rattle.std.specs.Slice.Iter.{iter_rest}
use Rattle.tv_program.specs.Answering.{ending_of}
use Rattle.tv_program.proofs.answering.endings_of.Given as goal

-- the ends so far, and those of the dialogs that are left
abbrev pub invariant-loop-dialog : goal.invariant-loop-dialog
invariant-loop-dialog l =
    l.endings.items
    ++ filter_map ending_of (zip (iter_rest (zip_first l.dialog-iterator)) (iter_rest (zip_second l.dialog-iterator)))
    ≡ filter_map ending_of (zip l.dialogs l.answers)
