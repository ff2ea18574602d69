use Rattle.std.proofs.Common.{◌≡◌, ◌+◌, ◌*◌, ◌-◌, ℕ, min, take, get_or, arith, sym, ◌∙◌, ap, subst}
use Rattle.std.proofs.lemmas.List.{take_more}
use Rattle.std.proofs.lemmas.List.Elements.{All-more}
use Rattle.tv_picture.specs.Pattern.{IsDigit}
use Rattle.tv_valid.specs.Domain.{number_of_digits}
use Rattle.tv_valid.proofs.Numbers.{whole-push, cut_off}
use Rattle.tv_valid.proofs.range.magnitude.Goals as goal

pub loop-ch-preserved : goal.loop-ch-preserved
loop-ch-preserved c =
    let i : ℕ = c.loop-ch.ch-index in
    let ch : ℕ = c.ch-item.result in
    let digit : IsDigit ch = c.if-not-is_ascii_digit.ensures.cases in
    let grown = take_more c.args.digits.now i ch (omega arith) in
    let read : c.from-in-loop-ch.result ≡ get_or c.args.digits.now i ch - 48 = c.from-in-loop-ch.ensures ∙ ap (λ (n : ℕ). n - 48) (c.from.ensures ∙ c.ch-item.is) in (
      c.min-sum.ensures
          ∙ ap (λ (s : ℕ). min (s * 10 + c.from-in-loop-ch.result) 10000000000) c.loop-ch.invariant.0
          ∙ cut_off (number_of_digits (take i c.args.digits.now)) c.from-in-loop-ch.result
          ∙ ap (λ (d : ℕ). min (number_of_digits (take i c.args.digits.now) * 10 + d) 10000000000) read
          ∙ ap (λ (n : ℕ). min n 10000000000) (sym (ap number_of_digits grown ∙ whole-push (take i c.args.digits.now) (get_or c.args.digits.now i ch))),
      All-more IsDigit c.args.digits.now i ch (omega arith) c.loop-ch.invariant.1 (subst IsDigit c.ch-item.is digit),
    )
