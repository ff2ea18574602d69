use Rattle.std.proofs.Common.{arith}
use Rattle.std.proofs.lemmas.Grind.{common_steps}
use Rattle.std.proofs.lemmas.List.Folds.{list_any_more}
use Rattle.tv_names.proofs.keys.add_titles.Goals as goal

pub loop-menu-preserved : goal.loop-menu-preserved
loop-menu-preserved c = λ ch. grind (arith, common_steps, list_any_more, c.loop-menu.invariant ch)
