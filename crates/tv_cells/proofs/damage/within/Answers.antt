use Rattle.std.proofs.Common.{◌≡◌, ◌+ℤ◌, ◌<ℤ◌, ℤ, pos, ◌∙◌, arith}
use Rattle.std.proofs.lemmas.Int.{ints, clamps}
use Rattle.tv_cells.specs.Damage.{seen_along}
use Rattle.tv_cells.proofs.damage.within.Goals as goal

inside : (from at to : ℤ) → pos 0 <ℤ at → (from +ℤ at) <ℤ to → (from +ℤ at) ≡ seen_along from at to
inside from at to after before = omega (arith, ints, clamps)

pub returns-then-from-at : goal.returns-then-from-at
returns-then-from-at c =
    let f = c.args.from.now in let a = c.args.at.now in let t = c.args.to.now in
    let after : pos 0 <ℤ a = omega (arith, ints) in
    let before : (f +ℤ a) <ℤ t = omega (arith, ints) in
    omega (arith, ints) ∙ inside f a t after before
