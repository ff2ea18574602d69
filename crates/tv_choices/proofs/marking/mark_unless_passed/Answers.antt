use Rattle.std.proofs.Common.{sym}
use Rattle.tv_choices.proofs.marking.mark_unless_passed.Goals as goal
use Rattle.tv_view.specs.Core.{leaf_with}
use Rattle.tv_view.proofs.DamageLemmas.{damages-own}

pub returns-then-ne : goal.returns-then-ne
returns-then-ne c old content node stays =
    damages-own old (leaf_with c.args.core.now content) c.args.damage.now c.mark.new.damage (sym node)
    (rw (← node) at c.mark.ensures.all) (rw (← node) at c.mark.ensures.grown)
