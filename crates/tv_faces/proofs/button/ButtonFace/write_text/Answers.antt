use Rattle.std.proofs.Common.{◌≡◌, ◌+◌, ◌-◌, arith, inl, inr}
use Rattle.std.proofs.lemmas.Bool.{cases_eq}
use Rattle.std.proofs.lemmas.Bool.Decides.{nat_tests}
use Rattle.tv_faces.proofs.button.ButtonFace.write_text.Goals as goal

pub returns-then-mark-shown-clause-cells : goal.returns-then-mark-shown-clause-cells
returns-then-mark-shown-clause-cells c i lt past before =
    let x = c.args.from + i in
    elim (cases_eq x (c.button_start-start.result + c.in-Some.mark)) [
      | inl at ↦
          let is = c.put.ensures.put i lt at in
          let place : x - c.button_start-start.result ≡ c.in-Some.mark = omega (arith, at) in
          grind (arith, nat_tests, place)
      | inr other ↦ let is = c.put.ensures.kept i lt other in grind (arith, nat_tests)
    ]
