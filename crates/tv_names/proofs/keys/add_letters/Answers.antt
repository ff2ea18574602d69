use Rattle.std.proofs.Common.{arith}
use Rattle.std.proofs.lemmas.Grind.{common_steps}
use Rattle.std.proofs.lemmas.List.Folds.{list_any_more}
use Rattle.tv_names.proofs.keys.add_letters.Goals as goal

pub loop-text-preserved : goal.loop-text-preserved
loop-text-preserved c = λ ch. grind (arith, common_steps, list_any_more, c.loop-text.invariant ch)
