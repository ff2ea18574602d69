use Rattle.tv_picture.specs.Table.{Gathers}
use Rattle.tv_picture.proofs.Gathered.{IsRest}
use Rattle.tv_picture.proofs.table.Table.gather.Given as goal

abbrev pub invariant-loop-place : goal.invariant-loop-place
invariant-loop-place l = Gathers l.fn.places l.self l.start l.place l.fn.first l.row × IsRest l.fn.places l.rest l.place
