use Rattle.std.proofs.Common.{◌≡◌, take}
use Rattle.tv_model.specs.Faults.Names.{names_again}
use Rattle.tv_model.specs.Faults.Each.{each_after}
use Rattle.tv_names.specs.Named.{AreNamesOf}
use Rattle.tv_names.proofs.given.names_again.Given as goal

abbrev pub invariant-loop-view : goal.invariant-loop-view
invariant-loop-view l = record {
  judged : l.again.items ≡ each_after names_again (take l.view-index l.views);
  given : AreNamesOf (take l.view-index l.views) l.given.names;
}
