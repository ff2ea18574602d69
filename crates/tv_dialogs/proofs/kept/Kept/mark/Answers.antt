use Rattle.std.proofs.Common.{subst}
use Rattle.tv_dialogs.specs.Damage.{HasShadowed}
use Rattle.tv_dialogs.proofs.DamageLemmas.{shadowed-added}
use Rattle.tv_dialogs.proofs.kept.Kept.mark.Goals as goal

pub returns-clause-shadowed : goal.returns-clause-shadowed
returns-clause-shadowed g c =
    subst (λ r. HasShadowed r c.add_with_shadow.new.self) c.bounds.ensures.is (shadowed-added c.bounds.result c.args.damage.now c.add_with_shadow.new.self c.add_with_shadow.ensures)

pub returns-clause-kept : goal.returns-clause-kept
returns-clause-kept g c = c.add_with_shadow.ensures.grown.kept
