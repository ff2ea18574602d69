use Rattle.std.proofs.Common.{arith, ◌≡◌, ℤ, pos, ◌-ℤ◌, to_z, of_z, w32, ap, ◌∙◌}
use Rattle.std.proofs.lemmas.Int.{ints}
use Rattle.tv_machine.specs.Session.Dragging.{clamped}
use Rattle.tv_session.proofs.DraggingLemmas.{clamped-from, point-is}
use Rattle.tv_session.proofs.dragging.HeldFrame.corner.Goals as goal

-- a number as the code reads it
abbrev read : ℤ → ℤ
read n = to_z w32 (of_z w32 n)

pub returns-clause-is : goal.returns-clause-is
returns-clause-is c =
    let d = c.args.desc.now in
    let p = c.args.mouse in
    let off = c.args.self.now.off in
    let column : read p.x ≡ p.x = omega (arith, ints) in
    let last : read (read d.width -ℤ pos 1) ≡ d.width -ℤ pos 1 = omega (arith, ints) in
    let row : read p.y ≡ p.y = omega (arith, ints) in
    let lowest : read (read d.height -ℤ pos 2) ≡ d.height -ℤ pos 2 = omega (arith, ints) in
    let across = clamped-from (pos 0) (d.width -ℤ pos 1) p.x c.clamp.result (read p.x) (read (read d.width -ℤ pos 1)) (omega (arith, ints)) column last c.clamp.ensures.value in
    let down = clamped-from (pos 1) (d.height -ℤ pos 2) p.y c.clamp-2.result (read p.y) (read (read d.height -ℤ pos 2)) (omega (arith, ints)) row lowest c.clamp-2.ensures.value in
    let left : read (read c.clamp.result -ℤ read off) ≡ c.clamp.result -ℤ off = omega (arith, ints) in
    let top : read c.clamp-2.result ≡ c.clamp-2.result = omega (arith, ints) in
    point-is (read (read c.clamp.result -ℤ read off)) (read c.clamp-2.result) (clamped (pos 0) (d.width -ℤ pos 1) p.x -ℤ off) (clamped (pos 1) (d.height -ℤ pos 2) p.y)
    (left ∙ ap (λ n. n -ℤ off) across) (top ∙ down)
