use Rattle.std.proofs.lemmas.Int.{to_z-of_z}
use Rattle.tv_cells.proofs.ChangeLemmas.{changes_none, changes_at}
use Rattle.tv_cells.proofs.canvas.Canvas.put.Goals as goal

pub returns-in-Some : goal.returns-in-Some
returns-in-Some c =
    let x = c.ranges.x in
    let y = c.ranges.y in
    let at = simp to_z-of_z at c.in-Some.ensures.some.1 in
    changes_at at c.set.ensures

pub returns-in_default : goal.returns-in_default
returns-in_default c =
    let x = c.ranges.x in
    let y = c.ranges.y in
    let none = simp to_z-of_z at c.in_default.ensures.none in
    changes_none none
