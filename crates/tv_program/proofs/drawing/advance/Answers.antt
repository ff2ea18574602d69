use Rattle.std.proofs.Common.{ap, subst, take}
use Rattle.std.proofs.lemmas.List.{take_all}
use Rattle.tv_machine.specs.Output.{after}
use Rattle.tv_script.proofs.PerformLemmas.{after-more}
use Rattle.tv_program.proofs.drawing.advance.Goals as goal

pub advance_item-requires-clause-there : goal.advance_item-requires-clause-there
advance_item-requires-clause-there g c =
    let s = c.requires.there.0 in
    (after s (take c.loop-item.item-index c.args.items.now), c.loop-item.invariant s c.requires.there.1)

pub loop-item-preserved : goal.loop-item-preserved
loop-item-preserved g c = λ s stands.
    subst (g.S.Stage.stands c.advance_item.new.stage) (after-more s c.args.items.now c.loop-item.item-index _ c.loop-item-test.true)
    (c.advance_item.ensures _ (c.loop-item.invariant s stands))

pub returns : goal.returns
returns g c = λ s stands.
    subst (g.S.Stage.stands c.loop-item.stage) (ap (after s) (take_all c.loop-item.item-index c.args.items.now c.loop-item-test.false))
    (c.loop-item.invariant s stands)
