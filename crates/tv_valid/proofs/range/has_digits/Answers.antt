use Rattle.std.proofs.Common.{◌≡◌, ◌/◌, ◌^◌, ℕ, arith, sym, ◌∙◌, ap}
use Rattle.std.proofs.lemmas.Bool.{eqb-true, eq-eqb}
use Rattle.tv_valid.proofs.Numbers.{cut_more, cut_none}
use Rattle.tv_valid.proofs.range.has_digits.Goals as goal

pub loop-preserved : goal.loop-preserved
loop-preserved c = ap (λ (n : ℕ). n / 10) c.loop.invariant ∙ cut_more c.args.number c.loop.counter

pub returns : goal.returns
returns c =
    let end : c.loop.counter ≡ c.args.digits = omega arith in
    let left : c.loop.left ≡ c.args.number / 10 ^ c.args.digits = c.loop.invariant ∙ ap (λ (k : ℕ). c.args.number / 10 ^ k) end in (
      (λ e. (cut_none c.args.number c.args.digits).0 (sym left ∙ eqb-true c.loop.left 0 e)),
      (λ h. eq-eqb c.loop.left 0 (left ∙ (cut_none c.args.number c.args.digits).1 h)),
    )
