use Rattle.std.proofs.Common.{◌≡◌, arith, to_z, of_z, w32, ap}
use Rattle.std.specs.Fmt.{signed_decimal}
use Rattle.std.proofs.lemmas.Int.{ints}
use Rattle.tv_model.specs.Log.LogText.{line_of}
use Rattle.tv_io.proofs.PenLemmas.{Puts-then, Puts-along}
use Rattle.tv_script.proofs.lines.put_moved.Goals as goal

pub returns : goal.returns
unfolding line_of
returns g c =
    let p = c.args.corner in
    let across : to_z w32 (of_z w32 p.x) ≡ p.x = omega (arith, ints) in
    let down : to_z w32 (of_z w32 p.y) ≡ p.y = omega (arith, ints) in
    let name = c.put_name.ensures in
    let column = Puts-then (Puts-then name c.put-2.ensures) (Puts-along (ap signed_decimal across) c.put_signed.ensures) in
    let row = Puts-then (Puts-then column c.put-3.ensures) (Puts-along (ap signed_decimal down) c.put_signed-2.ensures) in
    Puts-then (Puts-then c.put.ensures row) c.put-4.ensures
