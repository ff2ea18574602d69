use Rattle.std.specs.Fmt.{signed_decimal}
use Rattle.std.specs.Prelude.{◌++◌, codes}
use Rattle.tv_io.proofs.PenLemmas.{Puts-along, Puts-then}
use Rattle.tv_script.proofs.TapeLemmas.{said_line}
use Rattle.tv_script.proofs.tape.put_point_line.Goals as goal

pub returns : goal.returns
returns g c =
    let p = c.args.point in
    Puts-along (said_line c.args.keyword.now (signed_decimal p.x ++ codes " " ++ signed_decimal p.y)) (Puts-then c.put_point.ensures c.put.ensures)
