use Rattle.std.proofs.Common.{◌≡◌, ◌++◌, map, take}
use Rattle.tv_model.specs.Faults.Names.{dialog_named_again}
use Rattle.tv_model.specs.Faults.Each.{each_after}
use Rattle.tv_names.specs.Named.{AreNamesOf}
use Rattle.tv_names.proofs.given.dialogs_named_again.Given as goal

abbrev pub invariant-loop-dialog : goal.invariant-loop-dialog
invariant-loop-dialog l = record {
  judged : l.again.items ≡ each_after (dialog_named_again l.desc) (take l.dialog-index l.desc.dialogs);
  given : AreNamesOf (map (λ window. window.node) l.desc.windows ++ map (λ dialog. dialog.node) (take l.dialog-index l.desc.dialogs)) l.given.names;
}
