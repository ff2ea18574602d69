use Rattle.std.proofs.Common.{◌≡◌, take}
use Rattle.std.specs.List.{list_any}
use Rattle.tv_model.specs.Description.Nodes.{is_default}
use Rattle.tv_model.specs.Faults.Starts.{is_second_default}
use Rattle.tv_model.specs.Faults.Each.{each_after}
use Rattle.tv_faults.proofs.defaults.second_defaults.Given as goal

abbrev pub invariant-loop-view : goal.invariant-loop-view
invariant-loop-view l = record {
  judged : l.second.items ≡ each_after is_second_default (take l.view-index l.views);
  given : l.has_default ≡ list_any is_default (take l.view-index l.views);
}
