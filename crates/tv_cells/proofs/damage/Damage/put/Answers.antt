use Rattle.std.proofs.Common.{◌∷◌, ◌++◌, [], ap, ◌∙◌}
use Rattle.tv_cells.proofs.DamageLemmas.{pushed-grows}
use Rattle.tv_cells.proofs.damage.Damage.put.Goals as goal

pub returns-in_default-clause-grown : goal.returns-in_default-clause-grown
returns-in_default-clause-grown c = pushed-grows c.args.rect c.args.self.now c.push.new.self.items (c.push.ensures.items ∙ ap (λ xs. xs ++ c.args.rect ∷ []) c.self.view_is)
