use Rattle.std.proofs.Common.{◌≡◌, map, take}
use Rattle.tv_model.specs.Faults.Names.{window_named_again}
use Rattle.tv_model.specs.Faults.Each.{each_after}
use Rattle.tv_names.specs.Named.{AreNamesOf}
use Rattle.tv_names.proofs.given.windows_named_again.Given as goal

abbrev pub invariant-loop-window : goal.invariant-loop-window
invariant-loop-window l = record {
  judged : l.again.items ≡ each_after window_named_again (take l.window-index l.windows);
  given : AreNamesOf (map (λ window. window.node) (take l.window-index l.windows)) l.given.names;
}
