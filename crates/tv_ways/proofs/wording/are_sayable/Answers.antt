use Rattle.std.proofs.Common.{arith, subst}
use Rattle.std.specs.Prelude.{All}
use Rattle.std.proofs.lemmas.List.{take_all}
use Rattle.std.proofs.lemmas.List.Elements.{All-more}
use Rattle.tv_script.specs.Tapes.{IsSayable}
use Rattle.tv_ways.proofs.wording.are_sayable.Goals as goal

pub loop-event-preserved : goal.loop-event-preserved
loop-event-preserved c =
    All-more (IsSayable c.args.desc.now.width c.args.desc.now.height) c.args.events.now c.loop-event.event-index _ c.loop-event-test.true
    c.loop-event.invariant (c.is_sayable.ensures c.if-not-is_sayable.false)

pub returns : goal.returns
returns c = λ e.
    subst (All (IsSayable c.args.desc.now.width c.args.desc.now.height))
    (take_all c.loop-event.event-index c.args.events.now (omega (arith, c.loop-event-test.false))) c.loop-event.invariant
