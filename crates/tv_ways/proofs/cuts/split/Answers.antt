use Rattle.std.proofs.Common.{◌≤◌, ◌+◌, ◌-◌, length, drop, arith, length-drop}
use Rattle.std.proofs.lemmas.List.{take_all}
use Rattle.tv_faces.proofs.PieceLemmas.{first_piece, last_piece}
use Rattle.tv_ways.proofs.cuts.split.Goals as goal

pub returns-in-Some : goal.returns-in-Some
returns-in-Some c =
    let text = c.args.text.now in
    let few : length (drop (c.in-Some.end + 1) text) ≤ length text - (c.in-Some.end + 1) = omega (arith, length-drop (c.in-Some.end + 1) text) in
    rw (take_all (length text - (c.in-Some.end + 1)) (drop (c.in-Some.end + 1) text) few) (first_piece text c.in-Some.end c.in-Some.ensures.place)

pub returns-in-None : goal.returns-in-None
returns-in-None c = last_piece c.args.text.now c.in-None.ensures.place
