use Rattle.std.proofs.Common.{◌≡◌, true, false, sym, ◌∙◌}
use Rattle.tv_cells.proofs.DamageLemmas.{part-all, empty-all}
use Rattle.tv_cells.proofs.damage.Damage.add.Goals as goal
use Rattle.tv_cells.proofs.damage.Damage.add.Goals.{else-is_solid-via-then-is_solid+else-not-has_part, else-is_solid-via-else-is_solid}

pub returns-else-is_solid-clause-added : goal.returns-else-is_solid-clause-added
returns-else-is_solid-clause-added c = elim c.else-is_solid.branch [
  | else-is_solid-via-then-is_solid+else-not-has_part w ↦ part-all c.args.rect c.args.self.now (sym w.has_part.ensures ∙ w.if-not-has_part.false)
  | else-is_solid-via-else-is_solid w ↦ empty-all c.args.rect c.args.self.now (λ solid. let f : true ≡ false = sym (c.is_solid.ensures.1 solid) ∙ w.if-is_solid.false in absurd cc)
]
