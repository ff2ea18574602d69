use Rattle.std.proofs.Common.{◌≡◌, ◌-◌, arith, []}
use Rattle.tv_picture.specs.Pattern.{IsMember, sequence, many, times}
use Rattle.tv_picture_tests.specs.Trees.{pattern_of}
use Rattle.tv_picture_tests.proofs.Splits.{none_left, is_none, nothing_many, the_other, right_yes, right_no, sequence_divided, many_divided, divided_many, divided_sequence, times_sequence, sequence_times}
use Rattle.tv_picture_tests.proofs.plain.+member.Goals as goal

pub is_sequence-returns : goal.is_sequence-returns
is_sequence-returns t c =
    let a = pattern_of c.args.first.now in
    let b = pattern_of c.args.second.now in
    right_no (IsMember (sequence a b) c.args.text.now) (λ m. none_left (IsMember a) (IsMember b) 0 c.loop-at.at c.args.text.now (omega arith) c.loop-at.invariant (sequence_divided a b c.args.text.now m))

pub is_many-returns-then-is_many : goal.is_many-returns-then-is_many
is_many-returns-then-is_many t c =
    let a = pattern_of c.args.part.now in
    right_yes (IsMember (many a) c.args.text.now) (divided_many a c.args.text.now c.loop-at.at (c.is_member.ensures.0 c.if-is_member.true) (c.is_many.ensures.0 c.if-is_many.true))

pub is_many-returns : goal.is_many-returns
is_many-returns t c =
    let a = pattern_of c.args.part.now in
    let none = is_none c.is_empty.result c.args.text.now c.is_empty.ensures in (
      (λ e. nothing_many a c.args.text.now (none.0 e)),
      (λ m. none.1 (the_other (c.args.text.now ≡ []) (IsMember a) (IsMember (many a)) 1 c.loop-at.at c.args.text.now (omega arith) c.loop-at.invariant (many_divided a c.args.text.now m))),
    )

pub is_times-returns-then-is_times : goal.is_times-returns-then-is_times
is_times-returns-then-is_times t c =
    let a = pattern_of c.args.part.now in
    right_yes (IsMember (times c.args.count a) c.args.text.now) (sequence_times (c.args.count - 1) c.args.count a c.args.text.now (omega arith) (divided_sequence a (times (c.args.count - 1) a) c.args.text.now c.loop-at.at (c.is_member.ensures.0 c.if-is_member.true) (c.is_times.ensures.0 c.if-is_times.true)))

pub is_times-returns : goal.is_times-returns
is_times-returns t c =
    let a = pattern_of c.args.part.now in
    right_no (IsMember (times c.args.count a) c.args.text.now) (λ m. none_left (IsMember a) (IsMember (times (c.args.count - 1) a)) 0 c.loop-at.at c.args.text.now (omega arith) c.loop-at.invariant (sequence_divided a (times (c.args.count - 1) a) c.args.text.now (times_sequence (c.args.count - 1) c.args.count a c.args.text.now (omega arith) m)))
