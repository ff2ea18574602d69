use Rattle.std.proofs.Common.{◌≡◌, ◌++◌, map, take, drop}
use Rattle.tv_model.specs.Faults.Lines.{after_seen}
use Rattle.tv_model.specs.Faults.Names.{links_nothing}
use Rattle.tv_model.specs.Faults.Each.{each_after}
use Rattle.tv_names.proofs.labels.unlinked_labels.Given as goal

abbrev pub invariant-loop-view : goal.invariant-loop-view
invariant-loop-view l = l.unlinked.items ++ map (λ pair. links_nothing l.fn.views pair.1) (after_seen (take l.view-index l.fn.views) (drop l.view-index l.fn.views)) ≡ each_after (λ _. links_nothing l.fn.views) l.fn.views
