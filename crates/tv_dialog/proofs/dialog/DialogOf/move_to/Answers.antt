use Rattle.std.proofs.Common.{◌++◌, inr, subst}
use Rattle.tv_cells.specs.Damage.{AddsAll, with_shadow}
use Rattle.tv_cells.proofs.AddedLemmas.{adds-then}
use Rattle.tv_dialog.specs.Bounds.{dialog_bounds}
use Rattle.tv_dialog.proofs.dialog.DialogOf.move_to.Goals as goal

pub returns-then-ne-clause-damaged : goal.returns-then-ne-clause-damaged
returns-then-ne-clause-damaged g c =
    let was = c.bounds in
    let is = c.bounds-then-ne in
    let added = adds-then (with_shadow was.result) (with_shadow is.result) c.args.damage.now c.add_with_shadow.new.self c.add_with_shadow-then-ne.new.self
    c.add_with_shadow.ensures c.add_with_shadow-then-ne.ensures in
    inr (subst (λ r. AddsAll (with_shadow r ++ with_shadow (dialog_bounds (record c.args.self.now { corner = c.new-self.result }))) c.args.damage.now c.add_with_shadow-then-ne.new.self) was.ensures.is
    (subst (λ r. AddsAll (with_shadow was.result ++ with_shadow r) c.args.damage.now c.add_with_shadow-then-ne.new.self) is.ensures.is added))
