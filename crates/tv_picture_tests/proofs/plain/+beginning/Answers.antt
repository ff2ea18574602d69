use Rattle.std.proofs.Common.{◌≡◌, ◌↔◌, subst, ◌⊎◌, inl, inr, ◌-◌, arith, IsTrue, []}
use Rattle.tv_picture.specs.Pattern.{IsMember, Begins, empty, one, sequence, many, times}
use Rattle.tv_picture_tests.specs.Trees.{mark_of, pattern_of}
use Rattle.tv_picture_tests.proofs.Splits.{the_other, is_none, right_yes, begins_nothing, empty_begun, one_begun, member_begins, optional_begun, begun_optional, sequence_begun, begun_first, begun_later, many_begun, begun_many, begun_many_later, times_begun, begun_times, times_none_begun}
use Rattle.tv_picture_tests.proofs.plain.+beginning.Goals as goal

pub begins-returns-in-Empty : goal.begins-returns-in-Empty
begins-returns-in-Empty t c =
    let none = is_none c.is_empty.result c.args.text.now c.is_empty.ensures in
    rw c.in-Empty.is (
      (λ e. begins_nothing empty c.args.text.now (none.0 e)),
      (λ h. none.1 (empty_begun c.args.text.now h)),
    )

pub begins-returns-then-is_empty : goal.begins-returns-then-is_empty
begins-returns-then-is_empty t c = (
  (λ e. begins_nothing (pattern_of c.args.tree.now) c.args.text.now ((is_none c.is_empty-in-One.result c.args.text.now c.is_empty-in-One.ensures).0 c.if-is_empty.true)),
  (λ h. c.if-is_empty.true),
)

pub begins-returns-else-is_empty : goal.begins-returns-else-is_empty
begins-returns-else-is_empty t c = rw c.in-One.is (
  (λ e. member_begins (one (mark_of c.in-One.mark)) c.args.text.now (c.is_one.ensures.0 e)),
  (λ h. c.is_one.ensures.1 (typed (one_begun (mark_of c.in-One.mark) c.args.text.now h))),
)
  where
    typed : (c.args.text.now ≡ []) ⊎ IsMember (one (mark_of c.in-One.mark)) c.args.text.now → IsMember (one (mark_of c.in-One.mark)) c.args.text.now
    typed (inl e) = let yes : IsTrue c.is_empty-in-One.result = (is_none c.is_empty-in-One.result c.args.text.now c.is_empty-in-One.ensures).1 e in absurd (cc)
    typed (inr m) = m

pub begins-returns-in-Optional : goal.begins-returns-in-Optional
begins-returns-in-Optional t c =
    let a = pattern_of c.in-Optional.part.value in
    let inner : IsTrue c.begins-in-Optional.result ↔ Begins a c.args.text.now = subst (λ x. IsTrue c.begins-in-Optional.result ↔ Begins (pattern_of x) c.args.text.now) c.deref-in-Optional.ensures c.begins-in-Optional.ensures in
    rw c.in-Optional.is (
      (λ e. begun_optional a c.args.text.now (inner.0 e)),
      (λ h. inner.1 (optional_begun a c.args.text.now h)),
    )

pub begins_sequence-returns-then-begins : goal.begins_sequence-returns-then-begins
begins_sequence-returns-then-begins t c =
    let a = pattern_of c.args.first.now in
    let b = pattern_of c.args.second.now in
    right_yes (Begins (sequence a b) c.args.text.now) (begun_later a b c.args.text.now c.loop-at.at (c.is_member.ensures.0 c.if-is_member.true) (c.begins.ensures.0 c.if-begins.true))

pub begins_sequence-returns : goal.begins_sequence-returns
begins_sequence-returns t c =
    let a = pattern_of c.args.first.now in
    let b = pattern_of c.args.second.now in (
      (λ e. begun_first a b c.args.text.now (c.begins-2.ensures.0 e)),
      (λ h. c.begins-2.ensures.1 (the_other (Begins a c.args.text.now) (IsMember a) (Begins b) 0 c.loop-at.at c.args.text.now (omega arith) c.loop-at.invariant (sequence_begun a b c.args.text.now h))),
    )

pub begins_many-returns-then-begins_many : goal.begins_many-returns-then-begins_many
begins_many-returns-then-begins_many t c =
    let a = pattern_of c.args.part.now in
    right_yes (Begins (many a) c.args.text.now) (begun_many_later a c.args.text.now c.loop-at.at (c.is_member.ensures.0 c.if-is_member.true) (c.begins_many.ensures.0 c.if-begins_many.true))

pub begins_many-returns : goal.begins_many-returns
begins_many-returns t c =
    let a = pattern_of c.args.part.now in (
      (λ e. begun_many a c.args.text.now (c.begins.ensures.0 e)),
      (λ h. c.begins.ensures.1 (the_other (Begins a c.args.text.now) (IsMember a) (Begins (many a)) 1 c.loop-at.at c.args.text.now (omega arith) c.loop-at.invariant (many_begun a c.args.text.now h))),
    )

pub begins_times-returns-then-count-eq0 : goal.begins_times-returns-then-count-eq0
begins_times-returns-then-count-eq0 t c =
    let none = is_none c.is_empty.result c.args.text.now c.is_empty.ensures in
    rw c.if-count-eq0.true (
      (λ e. begins_nothing (times 0 (pattern_of c.args.part.now)) c.args.text.now (none.0 e)),
      (λ h. none.1 (times_none_begun (pattern_of c.args.part.now) c.args.text.now h)),
    )

pub begins_times-returns-then-begins_times : goal.begins_times-returns-then-begins_times
begins_times-returns-then-begins_times t c =
    let a = pattern_of c.args.part.now in
    let b = times (c.args.count - 1) a in
    right_yes (Begins (times c.args.count a) c.args.text.now) (begun_times (c.args.count - 1) c.args.count a c.args.text.now (omega arith) (begun_later a b c.args.text.now c.loop-at.at (c.is_member.ensures.0 c.if-is_member.true) (c.begins_times.ensures.0 c.if-begins_times.true)))

pub begins_times-returns : goal.begins_times-returns
begins_times-returns t c =
    let a = pattern_of c.args.part.now in
    let b = times (c.args.count - 1) a in (
      (λ e. begun_times (c.args.count - 1) c.args.count a c.args.text.now (omega arith) (begun_first a b c.args.text.now (c.begins.ensures.0 e))),
      (λ h. c.begins.ensures.1 (the_other (Begins a c.args.text.now) (IsMember a) (Begins b) 0 c.loop-at.at c.args.text.now (omega arith) c.loop-at.invariant (sequence_begun a b c.args.text.now (times_begun (c.args.count - 1) c.args.count a c.args.text.now (omega arith) h)))),
    )
