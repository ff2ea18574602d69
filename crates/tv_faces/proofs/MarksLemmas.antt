-- The marks of check boxes.
use Rattle.std.proofs.Common.{◌≡◌, ◌∙◌, ℕ, false, ◌+◌, ◌-◌, ◌/◌, ◌%◌, ◌^◌, ◌==◌, ◌<◌, ◌≤◌, ap, arith}
use Rattle.std.proofs.Math.Nat.{div-eq_of_lt, pow-le-pow_right}

-- no item past the sixteenth is marked
pub past-marks : (marks place : ℕ) → marks < 2 ^ 16 → 16 ≤ place → ((marks / 2 ^ (place + 1 - 1)) % 2 == 1) ≡ false
past-marks marks place fits past =
    let same : place + 1 - 1 ≡ place = omega arith in
    let large : 2 ^ 16 ≤ 2 ^ place = pow-le-pow_right (omega arith) past in
    let less : marks < 2 ^ place = omega (arith, fits, large) in
    ap (λ k. (marks / 2 ^ k) % 2 == 1) same ∙ ap (λ q. q % 2 == 1) (div-eq_of_lt less)
