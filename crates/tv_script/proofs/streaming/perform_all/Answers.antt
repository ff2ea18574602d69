use Rattle.std.proofs.Common.{◌≡◌, ◌≤◌, ◌<◌, ◌+◌, ◌++◌, [], OnOk, length, take, refl, subst, ◌∙◌, arith, rules, length-append}
use Rattle.std.proofs.lemmas.List.{length-take-le}
use Rattle.tv_io.proofs.ReaderLemmas.{HasGiven-none, HasGiven-then}
use Rattle.tv_script.specs.Streams.ComesFrom.{broken as comes_broken}
use Rattle.tv_script.proofs.FeedLemmas.{answer_ok, comes_end, comes_fault, comes_told, ended_by, goes_on, read_so_far}
use Rattle.tv_script.proofs.StreamLemmas.{fed_judged}
use Rattle.tv_script.proofs.streaming.perform_all.Goals as goal

pub loop-count-init : goal.loop-count-init
loop-count-init g c = record {
  going = c.requires.going;
  passed = c.requires.passed;
  same = refl;
  there = c.requires.there;
  given = [];
  gave = HasGiven-none (g.R.Reader.seen c.args.reader.now);
  bytes = c.requires.start;
  fed = λ s from fed. fed;
}

pub returns-in_default-clause-comes : goal.returns-in_default-clause-comes
returns-in_default-clause-comes g c = λ s from fed.
    let before = c.loop-count.invariant in
    let here = before.fed s from fed in
    let few : length before.given ≤ 1048576 = omega (arith, before.bytes, c.loop-count.feed.few) in
    comes_broken before.given here.played.items (g.R.Reader.seen c.loop-count.reader) before.gave (c.read.ensures.failed c.in_default.is) few
    (fed_judged s from _ _ c.loop-count.feed before.given few here) (record { performs = here.played.performs; passed = before.passed }) refl

pub returns-then-count-eq0-clause-comes : goal.returns-then-count-eq0-clause-comes
returns-then-count-eq0-clause-comes g c = λ s from fed.
    let before = c.loop-count.invariant in
    let here = before.fed s from fed in
    let piece = take c.in-Some.count c.read.new.room in
    let none : piece ≡ [] = search rules in
    let few : length before.given ≤ 1048576 = omega (arith, before.bytes, c.loop-count.feed.few) in
    let gives = c.in-Some.ensures.gave in
    comes_end s c.take-answer.new.self before.given from _ _ _ (g.R.Reader.seen c.args.reader.now) (g.R.Reader.seen c.read.new.self) piece c.take-answer.result _ none
    (read_so_far _ _ _ before.given piece before.gave gives) few (ended_by _ _ piece gives) (c.take-answer.ensures.taken s from before.given here) c.in_ok-pass_on.ensures.passed

pub loop-count-preserved : goal.loop-count-preserved
loop-count-preserved g c =
    let before = c.loop-count.invariant in
    let piece = take c.in-Some.count c.read.new.room in
    let some : 0 < length piece = search rules in
    let ok = answer_ok c.in_ok-pass_on.ensures.passed in
    record {
      going = c.in_ok-pass_on.ensures.going;
      passed = ok.2;
      same = c.pass_on.ensures.same ∙ c.take-answer.ensures.same ∙ before.same;
      there = c.take-answer.ensures.there;
      given = before.given ++ piece;
      gave = HasGiven-then before.given piece before.gave c.in-Some.ensures.gave.has;
      bytes =
          let more : c.take-answer.new.self.bytes ≡ c.loop-count.feed.bytes + length piece = subst (λ r. OnOk r (c.take-answer.new.self.bytes ≡ c.loop-count.feed.bytes + length piece)) ok.0 (c.take-answer.ensures.bytes some) in
          omega (arith, more, before.bytes, length-append before.given piece);
      fed = λ s from fed. goes_on s c.take-answer.new.self before.given from _ _ _ piece c.take-answer.result _ some (c.take-answer.ensures.taken s from before.given (before.fed s from fed)) c.in_ok-pass_on.ensures.passed;
    }

pub returns-in_err-pass_on-clause-comes : goal.returns-in_err-pass_on-clause-comes
returns-in_err-pass_on-clause-comes g c = λ s from fed.
    let before = c.loop-count.invariant in
    let here = before.fed s from fed in
    let piece = take c.in-Some.count c.read.new.room in
    let fault = c.in_err-pass_on.field-0.0 in
    let reader = g.R.Reader.seen c.args.reader.now in
    let left = g.R.Reader.seen c.read.new.self in
    let Left = g.S.Stage.stands c.take-answer.new.stage in
    let gives = c.in-Some.ensures.gave in
    let short : length before.given ≤ 1048576 = omega (arith, before.bytes, c.loop-count.feed.few) in
    let most : length c.read.new.room ≤ c.min-most.result = search rules in
    let within : length piece ≤ c.min-most.result = omega (arith, most, c.in-Some.ensures.bound, length-take-le c.in-Some.count c.read.new.room c.in-Some.ensures.bound) in
    let few : length (before.given ++ piece) ≤ 1048577 = omega (arith, within, length-append before.given piece, c.room.ensures, c.min-most.ensures, before.bytes) in
    let small : length piece ≤ 4096 = omega (arith, within, c.min-most.ensures) in
    comes_told s fault reader left from _ Left
    (
    comes_fault s c.take-answer.new.self reader left before.given from _ _ Left piece (read_so_far _ _ _ before.given piece before.gave gives) few
    (λ at later. record {
      front = before.given;
      piece = piece;
      parts = refl;
      few = small;
      items = here.played.items;
      performed = fed_judged s from _ _ c.loop-count.feed before.given short here;
      earlier = omega (arith, here.played.count, c.take-answer.ensures.grown, later);
    })
    (ended_by _ _ piece gives) c.take-answer.result fault (c.take-answer.ensures.taken s from before.given here) c.in_err-pass_on.ensures.passed
    )
    c.from_residual.result c.from_residual.ensures.1
