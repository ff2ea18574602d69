use Rattle.std.proofs.Common.{refl}
use Rattle.tv_files.specs.Ends.{done_in, end_of}
use Rattle.tv_files.specs.World.{known_world}
use Rattle.tv_files.proofs.program.run_program.Goals as goal

pub returns-in-Ok : goal.returns-in-Ok
returns-in-Ok g c =
    let mid = known_world g.F.FileStore.known g.A.Album.hung g.P.Pieces.heard g.O.Writer.seen g.E.Writer.seen c.perform-answer.new.world in
    rw c.in-Ok.is (done_in c.perform-answer.result, end_of c.perform-answer.result, mid, c.perform-answer.ensures, refl, c.finish.ensures)
