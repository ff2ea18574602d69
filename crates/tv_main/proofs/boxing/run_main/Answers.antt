use Rattle.std.proofs.Common.{Err, refl}
use Rattle.tv_main.proofs.boxing.run_main.Goals as goal

pub returns-in-Err : goal.returns-in-Err
returns-in-Err g c = rw c.in-Err.is (Err c.in-Err.no_task, refl, c.run_with_boxes-in-Err.ensures)
