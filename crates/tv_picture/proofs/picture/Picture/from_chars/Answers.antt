use Rattle.std.proofs.Common.{◌≡◌, length, take, true, false, arith, subst, sym, ap, ◌∙◌}
use Rattle.std.specs.Prelude.{MatchOption}
use Rattle.std.proofs.lemmas.List.{take_all}
use Rattle.tv_picture.specs.Parsing.{reading, text_step, text_steps, nothing_parsed, Took, is_closed, built_by, merged}
use Rattle.tv_picture.specs.Spelling.{IsFirstFaultyPlace}
use Rattle.tv_picture.proofs.Parsed.{Parsed, parsed, takes_more, refuses_at, refuses_end}
use Rattle.tv_picture.proofs.picture.Picture.from_chars.Goals as goal

pub loop-place-preserved : goal.loop-place-preserved
loop-place-preserved c =
    takes_more c.args.text.now c.loop-place.place c.index-text-place.result (reading c.loop-place.parser) (reading c.take.new.self) (omega arith) c.index-text-place.is c.loop-place.invariant
    (subst (λ b. Took (text_step (reading c.loop-place.parser) c.index-text-place.result) b (reading c.take.new.self)) c.if-not-took.false (c.in_ok-took.ensures {u = tt}))

pub returns-then-not-took-clause-err : goal.returns-then-not-took-clause-err
returns-then-not-took-clause-err c =
    refuses_at c.args.text.now c.loop-place.place c.index-text-place.result (reading c.loop-place.parser) (omega arith) c.index-text-place.is c.loop-place.invariant
    (subst (λ b. Took (text_step (reading c.loop-place.parser) c.index-text-place.result) b (reading c.take.new.self)) c.if-not-took.true (c.in_ok-took.ensures {u = tt}))

pub returns-then-not-took-clause-only : goal.returns-then-not-took-clause-only
returns-then-not-took-clause-only c = λ p pic sp. absurd ((refuses_at c.args.text.now c.loop-place.place c.index-text-place.result (reading c.loop-place.parser) (omega arith) c.index-text-place.is c.loop-place.invariant
    (subst (λ b. Took (text_step (reading c.loop-place.parser) c.index-text-place.result) b (reading c.take.new.self)) c.if-not-took.true (c.in_ok-took.ensures {u = tt}))).refused p pic sp)

in_some : (c : goal.In-Some) → Parsed c.args.text.now c.in-Some.code.items
in_some c =
    let whole : take c.loop-place.place c.args.text.now ≡ c.args.text.now = take_all c.loop-place.place c.args.text.now (omega arith) in
    let h = subst (λ o. MatchOption o (is_closed (reading c.loop-place.parser) ≡ false) (λ v. (is_closed (reading c.loop-place.parser) ≡ true) × (built_by v.items ≡ merged c.loop-place.parser.choice (built_by c.loop-place.parser.code.items)))) c.in-Some.is c.in_ok-code.ensures in
    parsed c.args.text.now (reading c.loop-place.parser) c.in-Some.code.items (ap (text_steps nothing_parsed) (sym whole) ∙ c.loop-place.invariant) h.0 h.1

pub invariant_of-result : goal.invariant_of-result
invariant_of-result c = (in_some c).height

pub returns-in-Some-clause-ok : goal.returns-in-Some-clause-ok
returns-in-Some-clause-ok c = ((in_some c).picture, (in_some c).spelling)

pub returns-in-Some-clause-only : goal.returns-in-Some-clause-only
returns-in-Some-clause-only c = λ p pic sp. (in_some c).only p pic sp

in_none : (c : goal.In-None) → IsFirstFaultyPlace c.args.text.now (length c.args.text.now)
in_none c =
    let whole : take c.loop-place.place c.args.text.now ≡ c.args.text.now = take_all c.loop-place.place c.args.text.now (omega arith) in
    let h = subst (λ o. MatchOption o (is_closed (reading c.loop-place.parser) ≡ false) (λ v. (is_closed (reading c.loop-place.parser) ≡ true) × (built_by v.items ≡ merged c.loop-place.parser.choice (built_by c.loop-place.parser.code.items)))) c.in-None.is c.in_ok-code.ensures in
    refuses_end c.args.text.now (reading c.loop-place.parser) (ap (text_steps nothing_parsed) (sym whole) ∙ c.loop-place.invariant) h

pub returns-in-None-clause-err : goal.returns-in-None-clause-err
returns-in-None-clause-err c = in_none c

pub returns-in-None-clause-only : goal.returns-in-None-clause-only
returns-in-None-clause-only c = λ p pic sp. absurd ((in_none c).refused p pic sp)
