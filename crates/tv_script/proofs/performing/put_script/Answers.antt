use Rattle.std.proofs.Common.{◌∙◌, subst, take}
use Rattle.tv_machine.specs.Output.{after}
use Rattle.tv_io.proofs.PenLemmas.{Cuts-from_stopped, Takes-from_went_on}
use Rattle.tv_script.proofs.PerformLemmas.{after-more, more_takes, more_stops}
use Rattle.tv_script.proofs.performing.put_script.Goals as goal

pub put_item-requires-clause-there : goal.put_item-requires-clause-there
put_item-requires-clause-there g c =
    let s = c.requires.there.0 in
    (after s (take c.loop-index.index c.args.script.now), c.loop-index.invariant.state s c.requires.there.1)

pub loop-index-preserved : goal.loop-index-preserved
loop-index-preserved g c =
    let script = c.args.script.now in
    let i = c.loop-index.index in
    let before = c.loop-index.invariant in
    let within = c.loop-index-test.true in
    record {
      going = c.if-pen-2.false;
      same = (c.put_item.ensures.text _ (before.state c.requires.there.0 c.requires.there.1)).same ∙ before.same;
      text = λ s stands. more_takes s script i _ within (before.text s stands) (Takes-from_went_on c.if-pen-2.false (c.put_item.ensures.text _ (before.state s stands)));
      state = λ s stands. subst (g.S.Stage.stands c.put_item.new.stage) (after-more s script i _ within) (c.put_item.ensures.state _ (before.state s stands));
    }

pub returns-then-pen-2-clause-stops : goal.returns-then-pen-2-clause-stops
returns-then-pen-2-clause-stops g c = λ s stands.
    let before = c.loop-index.invariant in
    let there = before.state s stands in
    more_stops s c.args.script.now c.loop-index.index _ c.loop-index-test.true (g.S.Stage.stands c.put_item.new.stage) (c.put_item.ensures.state _ there) (before.text s stands)
    (Cuts-from_stopped before.going c.if-pen-2.true (c.put_item.ensures.text _ there))
