use Rattle.std.proofs.Common.{arith, refl}
use Rattle.tv_play.proofs.RefusalLemmas.{invalid-here, invalid-later, invalid-never}
use Rattle.tv_play.proofs.refusal.invalid_in.Goals as goal

pub loop-line-init : goal.loop-line-init
loop-line-init c = refl

pub returns-in-Invalid : goal.returns-in-Invalid
returns-in-Invalid c =
    invalid-here c.args.log.now c.loop-line.line-index c.line-item.result c.loop-line-test.true c.line-item.is c.loop-line.invariant c.in-Invalid.id c.in-Invalid.is

pub loop-line-preserved : goal.loop-line-preserved
loop-line-preserved c =
    invalid-later c.args.log.now c.loop-line.line-index c.line-item.result c.loop-line-test.true c.line-item.is c.loop-line.invariant c.in_default.not-Invalid

pub returns : goal.returns
returns c = invalid-never c.args.log.now c.loop-line.line-index (omega (arith, c.loop-line-test.false)) c.loop-line.invariant
