use Rattle.std.proofs.Common.{arith, ◌≡◌, ◌-◌, ◌/◌, ◌%◌, ◌^◌, ◌<◌, ◌≤◌, ℕ, ap, sym, ◌∙◌, false, nat_eq, nat_lt}
use Rattle.std.proofs.Math.Nat.{div-eq_of_lt, pow-le-pow_right}
use Rattle.std.proofs.lemmas.Bool.Decides.{nat_tests}
use Rattle.tv_dialog.proofs.condition.has_mark.Goals as goal

-- marks have no bit so high
no_high_mark : (marks place : ℕ) → marks < 65536 → 16 ≤ place → nat_eq (marks / 2 ^ place % 2) 1 ≡ false
no_high_mark marks place few high =
    let power : 2 ^ 16 ≤ 2 ^ place = pow-le-pow_right {n = 2} (omega arith) {i = 16} {j = place} high in
    let none : marks / 2 ^ place ≡ 0 = div-eq_of_lt (omega (arith, power)) in
    ap (λ q. nat_eq (q % 2) 1) none

both_false : (marks item place : ℕ) → place ≡ item - 1 → marks < 65536 → 16 ≤ place → nat_lt place 16 ≡ nat_eq (marks / 2 ^ (item - 1) % 2) 1
both_false marks item place at few high =
    let low : nat_lt place 16 ≡ false = grind (arith, nat_tests) in
    low ∙ sym (ap (λ p. nat_eq (marks / 2 ^ p % 2) 1) (sym at) ∙ no_high_mark marks place few high)

pub returns-else-place-lt16 : goal.returns-else-place-lt16
returns-else-place-lt16 c = both_false c.args.marks c.args.item c.saturating_sub-place.result c.saturating_sub-place.ensures (omega arith) c.if-place-lt16.false
