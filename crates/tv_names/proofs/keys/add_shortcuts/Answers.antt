use Rattle.std.proofs.Common.{arith}
use Rattle.std.proofs.lemmas.Grind.{common_steps}
use Rattle.std.proofs.lemmas.List.Folds.{list_any_more}
use Rattle.tv_names.proofs.keys.add_shortcuts.Goals as goal

pub loop-dialog-preserved : goal.loop-dialog-preserved
loop-dialog-preserved c = λ ch. grind (arith, common_steps, list_any_more, c.loop-dialog.invariant ch)
