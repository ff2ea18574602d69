use Rattle.std.proofs.Common.{◌≡◌, ◌+◌, ◌-◌, arith, inl, inr}
use Rattle.std.proofs.lemmas.Bool.{cases_eq}
use Rattle.std.proofs.lemmas.Bool.Decides.{nat_tests}
use Rattle.tv_faces.proofs.input.InputFace.write_text.Goals as goal

pub returns-then-self-clause-cells : goal.returns-then-self-clause-cells
returns-then-self-clause-cells c i lt past before =
    let first = c.first_shown-first.result in
    let x = c.args.from + i in
    elim (cases_eq x (c.args.self.now.cursor + 1 - first)) [
      | inl at ↦
          let is = c.put.ensures.put i lt at in
          let place : first + x - 1 ≡ c.args.self.now.cursor = omega (arith, at, c.first_shown-first.ensures.within) in
          grind (arith, nat_tests, place)
      | inr other ↦
          let is = c.put.ensures.kept i lt other in
          let elsewhere : first + x - 1 ≡ c.args.self.now.cursor → ⊥ = λ e. other (omega (arith, e, c.first_shown-first.ensures.within)) in
          grind (arith, nat_tests, elsewhere)
    ]
