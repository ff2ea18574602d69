use Rattle.std.proofs.Common.{◌≡◌, Some, sym, ap, ◌∙◌}
use Rattle.tv_explain.specs.Places.{are_words}
use Rattle.tv_explain.proofs.PlaceLemmas.{says_found}
use Rattle.tv_explain.proofs.places.says_something.Goals as goal

pub returns-in_default : goal.returns-in_default
returns-in_default c = ap are_words (sym c.in_default.is) ∙ says_found c.args.line.now c.in_ok-list.field-0 c.in_ok-list.ensures.spelled c.in_ok-list.ensures.only

pub returns : goal.returns
returns c =
    let found : Some c.as_slice-words.result.now ≡ c.in_ok-list.field-0 = cc (c.in-Some.is, c.as_slice-words.ensures) in
    c.are_words.ensures ∙ ap are_words found ∙ says_found c.args.line.now c.in_ok-list.field-0 c.in_ok-list.ensures.spelled c.in_ok-list.ensures.only
