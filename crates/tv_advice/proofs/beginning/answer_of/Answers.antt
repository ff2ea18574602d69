use Rattle.std.proofs.Common.{◌≡◌, Some, sym, ap, ◌∙◌}
use Rattle.tv_advice.specs.Beginnings.{answer_by}
use Rattle.tv_advice.proofs.BeginningLemmas.{answer_found}
use Rattle.tv_advice.proofs.beginning.answer_of.Goals as goal

pub returns-in_default : goal.returns-in_default
returns-in_default c = ap answer_by (sym c.in_default.is) ∙ answer_found c.args.line.now c.in_ok-list.field-0 c.in_ok-list.ensures.spelled c.in_ok-list.ensures.only

pub returns : goal.returns
returns c =
    let found : Some c.as_slice-words.result.now ≡ c.in_ok-list.field-0 = cc (c.in-Some.is, c.as_slice-words.ensures) in
    c.begins_certificate.ensures ∙ ap answer_by found ∙ answer_found c.args.line.now c.in_ok-list.field-0 c.in_ok-list.ensures.spelled c.in_ok-list.ensures.only
