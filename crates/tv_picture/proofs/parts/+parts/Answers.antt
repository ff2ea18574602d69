use Rattle.std.proofs.Common.{◌≡◌, ◌+◌, ◌-◌, List, [], ◌∷◌, ◌++◌, arith, ap, sym, ◌∙◌, subst}
use Rattle.std.proofs.lemmas.Option.{IfSome_then}
use Rattle.tv_picture.specs.declared.code.Op.{Op}
use Rattle.tv_picture.specs.declared.code.Op.TheVariants.{Optional, Group, Many}
use Rattle.tv_picture.specs.declared.row.Row.{Row}
use Rattle.tv_picture.specs.Code.{pattern_of}
use Rattle.tv_picture.specs.Machine.{Reads}
use Rattle.tv_picture.specs.Pattern.{Pattern, sequence}
use Rattle.tv_picture.specs.Table.{IsTableRow}
use Rattle.tv_picture.proofs.PartLemmas.{same_code, reads_one, reads_starred, reads_group, reads_optional, reads_sequence, reads_either, goes_first, goes_mark, goes_further, reads_times, times_none, times_more, times_rest, reads_many, many_more}
use Rattle.tv_picture.proofs.parts.+parts.Goals as goal

pub code_after-loop-rest-init : goal.code_after-loop-rest-init
code_after-loop-rest-init t c = goes_first c.args.first c.args.code.now c.in_ok-rest.rest.now c.args.text.now (c.in_ok-rest.ensures {u = tt})

pub code_after-loop-rest-preserved-in-Some : goal.code_after-loop-rest-preserved-in-Some
code_after-loop-rest-preserved-in-Some t c =
    goes_mark c.args.first c.loop-rest.row c.append-row.result c.args.code.now c.loop-rest.rest.now c.in-Some.behind.now c.in-Some.mark c.args.text.now (c.in-Some.ensures {u = tt}) c.append-row.ensures c.loop-rest.invariant

pub code_after-loop-rest-preserved : goal.code_after-loop-rest-preserved
code_after-loop-rest-preserved t c =
    goes_further c.args.first c.loop-rest.row c.in_ok-row.row c.args.code.now c.loop-rest.rest.now c.in_ok-part.part.now c.in_ok-part.behind.now c.in_ok-part.op c.args.text.now (c.in_ok-part.ensures {u = tt}) (c.in_ok-row.ensures {u = tt}) c.loop-rest.invariant

pub joined_after-returns-in-Sequence : goal.joined_after-returns-in-Sequence
joined_after-returns-in-Sequence t c =
    IfSome_then c.part_after.result c.part_after.ensures
    (λ own q before p. subst (λ (op : Op). Reads c.args.first (before ++ (c.args.next.part.now ++ op ∷ [])) c.args.text.now own) (sym c.in-Sequence.is) (reads_sequence c.args.first c.args.row own before c.args.next.part.now c.args.text.now q p))

pub joined_after-returns-in_ok-code_after-in-Either : goal.joined_after-returns-in_ok-code_after-in-Either
joined_after-returns-in_ok-code_after-in-Either t c = λ before p.
    subst (λ (op : Op). Reads c.args.first (before ++ (c.args.next.part.now ++ op ∷ [])) c.args.text.now c.join.result) (sym c.in-Either.is)
    (reads_either c.args.first c.args.row c.in_ok-code_after-in-Either.field-0 c.join.result before c.args.next.part.now c.args.text.now (c.join.ensures.ends, c.join.ensures.next) (c.in_ok-code_after-in-Either.ensures {u = tt}) p)

pub many_after-returns-in-Some : goal.many_after-returns-in-Some
many_after-returns-in-Some t c =
    subst (λ (ops : List Op). Reads c.args.first (ops ++ Many ∷ []) c.args.text.now c.append_many.result) (sym (c.in-Some.ensures {u = tt}))
    (reads_starred c.args.first c.append_many.result c.in-Some.mark c.args.text.now c.append_many.ensures)

pub many_after-returns-then-contains_all : goal.many_after-returns-then-contains_all
many_after-returns-then-contains_all t c =
    reads_many c.args.first c.loop-round.row c.in_ok-more.more c.join-grown.result c.args.body.now c.args.text.now (c.in_ok-more.ensures {u = tt}) (c.join-grown.ensures.ends, c.join-grown.ensures.next) (c.contains_all.ensures.0 c.if-contains_all.true) c.loop-round.invariant

pub many_after-loop-round-preserved : goal.many_after-loop-round-preserved
many_after-loop-round-preserved t c =
    many_more c.args.first c.loop-round.row c.in_ok-more.more c.join-grown.result c.args.body.now c.args.text.now (c.in_ok-more.ensures {u = tt}) (c.join-grown.ensures.ends, c.join-grown.ensures.next) c.loop-round.invariant

pub part_after-returns-in-Some : goal.part_after-returns-in-Some
part_after-returns-in-Some t c =
    subst (λ (ops : List Op). Reads c.args.first ops c.args.text.now c.append.result) (sym (c.in-Some.ensures {u = tt}))
    (reads_one c.args.first c.append.result c.in-Some.mark c.args.text.now c.append.ensures)

pub part_after-returns-in-Group : goal.part_after-returns-in-Group
part_after-returns-in-Group t c =
    let body : List Op = c.in_ok-last.body.now in
    let whole : c.args.part.now ≡ body ++ Group ∷ [] = c.in_ok-last.ensures.cases.0 ∙ ap (λ (op : Op). body ++ op ∷ []) c.in-Group.is in
    IfSome_then c.code_after.result c.code_after.ensures
    (λ row r. same_code c.args.first row (body ++ Group ∷ []) c.args.part.now c.args.text.now (sym whole) (reads_group c.args.first row body c.args.text.now r))

pub part_after-returns-in_ok-code_after-in-Optional : goal.part_after-returns-in_ok-code_after-in-Optional
part_after-returns-in_ok-code_after-in-Optional t c =
    let body : List Op = c.in_ok-last.body.now in
    let whole : c.args.part.now ≡ body ++ Optional ∷ [] = c.in_ok-last.ensures.cases.0 ∙ ap (λ (op : Op). body ++ op ∷ []) c.in-Optional.is in
    same_code c.args.first c.join.result (body ++ Optional ∷ []) c.args.part.now c.args.text.now (sym whole)
    (reads_optional c.args.first c.in_ok-code_after-in-Optional.field-0 c.join.result body c.args.text.now (c.join.ensures.ends, c.join.ensures.next) (c.in_ok-code_after-in-Optional.ensures {u = tt}))

pub times_after-loop-done-init : goal.times_after-loop-done-init
times_after-loop-done-init t c = ((λ low. absurd (omega (arith, low))), times_none c.args.first (pattern_of c.args.body.now) c.args.text.now)

pub times_after-loop-done-preserved : goal.times_after-loop-done-preserved
times_after-loop-done-preserved t c = (
  (λ low. (c.in_ok-more.ensures {u = tt}).whole),
  times_more c.args.first c.loop-done.row c.in_ok-more.more (pattern_of c.args.body.now) c.args.text.now c.loop-done.done (c.in_ok-more.ensures {u = tt}).after c.loop-done.invariant.1,
)

pub times_after-returns-then-is : goal.times_after-returns-then-is
times_after-returns-then-is t c =
    let row : Row = c.loop-done.row in
    let p : Pattern = pattern_of c.args.body.now in
    let stays = subst (λ (r : Row). (a : Pattern) → IsTableRow a c.args.text.now 0 row → IsTableRow (sequence a p) c.args.text.now 0 r) (c.is.ensures c.if-is.true) (c.in_ok-more.ensures {u = tt}).after in
    let end : c.loop-done.done + (c.args.count - c.loop-done.done) ≡ c.args.count = omega arith in
    reads_times c.args.first row c.args.body.now c.args.count (c.loop-done.done + (c.args.count - c.loop-done.done)) c.args.text.now end (c.in_ok-more.ensures {u = tt}).whole
    (times_rest (c.args.count - c.loop-done.done) c.args.first row p c.args.text.now c.loop-done.done stays c.loop-done.invariant.1)

pub times_after-returns : goal.times_after-returns
times_after-returns t c =
    let end : c.loop-done.done ≡ c.args.count = omega arith in
    reads_times c.args.first c.loop-done.row c.args.body.now c.args.count c.loop-done.done c.args.text.now end (c.loop-done.invariant.0 (omega (arith, end, c.requires.some))) c.loop-done.invariant.1
