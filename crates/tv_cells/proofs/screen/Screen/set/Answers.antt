use Rattle.tv_cells.specs.Picture.{Picture}
use Rattle.tv_cells.proofs.PictureLemmas.{changes_set}
use Rattle.tv_cells.proofs.screen.Screen.set.Goals as goal

pub returns : goal.returns
returns c =
    let p : Picture = record { width = c.self.inside.width; height = c.self.inside.height; cells = c.self.inside.cells.items } in
    rw (← c.self.view_is) (changes_set p c.args.column c.args.row c.args.cell c.self.invariant.full (rw (← c.self.view_is) at c.requires))
