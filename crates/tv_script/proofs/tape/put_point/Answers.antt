use Rattle.std.proofs.Common.{◌≡◌, ap, arith, of_z, to_z, w32}
use Rattle.std.specs.Fmt.{signed_decimal}
use Rattle.std.proofs.lemmas.Int.{ints}
use Rattle.tv_io.proofs.PenLemmas.{Puts-along, Puts-then}
use Rattle.tv_script.specs.Tapes.{said}
use Rattle.tv_script.proofs.tape.put_point.Goals as goal

pub returns : goal.returns
unfolding said
returns g c =
    let p = c.args.point in
    let across : to_z w32 (of_z w32 p.x) ≡ p.x = omega (arith, ints) in
    let down : to_z w32 (of_z w32 p.y) ≡ p.y = omega (arith, ints) in
    let column = Puts-then (Puts-along (ap signed_decimal across) c.put_signed.ensures) c.put-2.ensures in
    Puts-then c.put.ensures (Puts-then column (Puts-along (ap signed_decimal down) c.put_signed-2.ensures))
