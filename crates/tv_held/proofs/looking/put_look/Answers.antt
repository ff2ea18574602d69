use Rattle.tv_cells.specs.Picture.{cell_at}
use Rattle.tv_held.proofs.LookingLemmas.{screen-is}
use Rattle.tv_held.specs.Looking.{screen_bytes}
use Rattle.tv_held.proofs.looking.put_look.Goals as goal

pub returns-in-Screen : goal.returns-in-Screen
returns-in-Screen g c = λ s runs.
    let p = c.screen.result.now in
    (screen_bytes p.width p.height (cell_at p), rw c.in-Screen.is (screen-is s p (c.screen.ensures s runs)), c.put_screen.ensures)
