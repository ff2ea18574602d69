use Rattle.std.proofs.Common.{◌∷◌, [], subst}
use Rattle.tv_cells.specs.Damage.{AddsAll}
use Rattle.tv_cells.proofs.AddedLemmas.{adds-one, adds-then}
use Rattle.tv_cells.proofs.damage.Damage.add_with_shadow.Goals as goal

pub returns : goal.returns
returns c =
    let rect = c.args.rect in
    let old = c.args.self.now in
    let mid = c.add.new.self in
    let new = c.add-2.new.self in
    let shadow = subst (λ r. AddsAll (r ∷ []) mid new) c.shift.ensures.corners (adds-one c.shift.result mid new c.add-2.ensures.added c.add-2.ensures.grown) in
    adds-then (rect ∷ []) _ old mid new (adds-one rect old mid c.add.ensures.added c.add.ensures.grown) shadow
