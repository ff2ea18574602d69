use Rattle.std.proofs.Common.{suc, arith, subst, drop, length}
use Rattle.std.proofs.Math.Seq.{drop-cons}
use Rattle.tv_picture.specs.declared.code.Op.TheVariants.{Empty}
use Rattle.tv_picture.specs.Machine.{IsWithin}
use Rattle.tv_picture.proofs.Stacks.{within_now, within_room}
use Rattle.tv_picture.proofs.Lowest.{goes_on, goes_joined, goes_starred, goes_to_end}
use Rattle.tv_picture.proofs.reading.run.Goals as goal

pub loop-place-preserved-else-height-eq1 : goal.loop-place-preserved-else-height-eq1
loop-place-preserved-else-height-eq1 c =
    goes_joined c.args.text.now c.args.code.now c.loop-place.first c.in-Some-joined_after.row c.loop-place.tables c.loop-place.height c.loop-place.place c.in-Some-joined.op (c.in-Some-joined.ensures {u = tt}) (c.in-Some-joined_after.ensures {u = tt}).heights (c.in-Some-joined_after.ensures {u = tt}).stack c.loop-place.invariant

pub loop-place-preserved-in-loop-place : goal.loop-place-preserved-in-loop-place
loop-place-preserved-in-loop-place c =
    goes_starred c.args.text.now c.args.code.now c.loop-place.first c.append_many-first.result c.loop-place.tables c.loop-place.height c.loop-place.place c.in-Some.mark c.if-height-eq1.true (c.in-Some.ensures {u = tt}) c.append_many-first.ensures c.loop-place.invariant

pub step-first-requires-clause-room : goal.step-first-requires-clause-room
step-first-requires-clause-room c =
    within_room (length c.loop-place.tables) c.loop-place.height _ (drop (suc c.loop-place.place) c.args.code.now)
    (subst (IsWithin (length c.loop-place.tables) c.loop-place.height) (drop-cons c.args.code.now c.loop-place.place Empty (omega arith)) c.loop-place.invariant.1)

pub step-first-requires-clause-within : goal.step-first-requires-clause-within
step-first-requires-clause-within c = within_now (length c.loop-place.tables) c.loop-place.height (drop c.loop-place.place c.args.code.now) c.loop-place.invariant.1

pub loop-place-preserved : goal.loop-place-preserved
loop-place-preserved c =
    goes_on c.args.text.now c.args.code.now c.loop-place.first c.step-first.result c.loop-place.tables c.step-first.new.tables c.loop-place.height c.after-height.result c.loop-place.place _ c.step-first.ensures.count (drop-cons c.args.code.now c.loop-place.place Empty (omega arith)) c.after-height.ensures (λ ps s. c.step-first.ensures.stack ps c.after-height.result c.after-height.ensures s) c.loop-place.invariant

pub returns : goal.returns
returns c = goes_to_end c.args.text.now c.args.code.now c.loop-place.first c.loop-place.tables c.loop-place.height c.loop-place.place (omega arith) c.loop-place.invariant
