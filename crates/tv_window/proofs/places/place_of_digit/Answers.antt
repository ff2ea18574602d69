use Rattle.std.proofs.Common.{◌≤◌, arith}
use Rattle.std.proofs.lemmas.Bool.Decides.{nat_tests}
use Rattle.std.proofs.lemmas.Int.{ints}
use Rattle.tv_window.proofs.DeskLemmas.{digit-placed}
use Rattle.tv_window.proofs.places.place_of_digit.Goals as goal

pub returns-in-1-to-9 : goal.returns-in-1-to-9
returns-in-1-to-9 g c =
    let low : 49 ≤ c.args.digit = omega arith in
    let high : c.args.digit ≤ 57 = omega arith in
    digit-placed c.args.windows.now c.args.digit _ c.place_numbered.result c.place_numbered.ensures (omega (arith, ints)) (grind (arith, nat_tests))
