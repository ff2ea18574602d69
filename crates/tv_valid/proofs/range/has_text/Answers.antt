use Rattle.std.proofs.Common.{◌↔◌, ◌-◌, ◌^◌, ◌<◌, ◌≤◌, ℕ, arith, refl, sym, subst}
use Rattle.std.specs.Prelude.{ℤ, pos, neg_ℤ, ◌≤ℤ◌, ◌<ℤ◌, unsigned_abs}
use Rattle.std.proofs.lemmas.Int.{ints}
use Rattle.tv_valid.specs.Domain.{HasNumber}
use Rattle.tv_valid.proofs.Numbers.{number_positive, number_negative, number_zero, abs_pos, abs_neg}
use Rattle.tv_valid.proofs.range.has_text.Goals as goal

pub returns-then-least-gt0 : goal.returns-then-least-gt0
returns-then-least-gt0 c =
    let above : pos 0 <ℤ c.args.least.now = omega (arith, ints) in
    let same = abs_pos c.args.least.now above in
    let order : pos (unsigned_abs c.args.least.now) ≤ℤ c.args.greatest.now = omega (arith, ints) in
    let some : 1 ≤ unsigned_abs c.args.least.now = omega (arith, ints) in
    let law : (unsigned_abs c.args.least.now < 10 ^ c.args.room) ↔ HasNumber c.args.least.now c.args.greatest.now c.args.room = subst (λ (z : ℤ). (unsigned_abs c.args.least.now < 10 ^ c.args.room) ↔ HasNumber z c.args.greatest.now c.args.room) (sym same) (number_positive (unsigned_abs c.args.least.now) c.args.room c.args.greatest.now some order) in (
      (λ e. law.0 (subst (λ (n : ℕ). n < 10 ^ c.args.room) c.size.ensures (c.has_digits.ensures.0 e))),
      (λ h. c.has_digits.ensures.1 (subst (λ (n : ℕ). n < 10 ^ c.args.room) (sym c.size.ensures) (law.1 h))),
    )

pub returns-then-greatest-lt0 : goal.returns-then-greatest-lt0
returns-then-greatest-lt0 c =
    let beneath : c.args.greatest.now <ℤ pos 0 = omega (arith, ints) in
    let same = abs_neg c.args.greatest.now beneath in
    let order : c.args.least.now ≤ℤ neg_ℤ (pos (unsigned_abs c.args.greatest.now)) = omega (arith, ints) in
    let some : 1 ≤ unsigned_abs c.args.greatest.now = omega (arith, ints) in
    let law : (unsigned_abs c.args.greatest.now < 10 ^ (c.args.room - 1)) ↔ HasNumber c.args.least.now c.args.greatest.now c.args.room = subst (λ (z : ℤ). (unsigned_abs c.args.greatest.now < 10 ^ (c.args.room - 1)) ↔ HasNumber c.args.least.now z c.args.room) (sym same) (number_negative (unsigned_abs c.args.greatest.now) c.args.room c.args.least.now some (omega arith) order) in (
      (λ e. law.0 (subst (λ (n : ℕ). n < 10 ^ (c.args.room - 1)) c.size-then-greatest-lt0.ensures (c.has_digits-then-greatest-lt0.ensures.0 e))),
      (λ h. c.has_digits-then-greatest-lt0.ensures.1 (subst (λ (n : ℕ). n < 10 ^ (c.args.room - 1)) (sym c.size-then-greatest-lt0.ensures) (law.1 h))),
    )

pub returns : goal.returns
returns c = (
  (λ e. number_zero c.args.room c.args.least.now c.args.greatest.now (omega arith) (omega (arith, ints)) (omega (arith, ints))),
  (λ h. refl),
)
