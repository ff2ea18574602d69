use Rattle.std.proofs.Common.{List, subst, take, ◌∙◌, arith}
use Rattle.tv_machine.specs.declared.script.Item.{Item}
use Rattle.tv_machine.specs.Output.{after}
use Rattle.tv_script.proofs.PerformLemmas.{after-more}
use Rattle.tv_program.specs.Albums.{NamedPicture, Gains, GainsBefore}
use Rattle.tv_program.specs.Pictures.{named_shots}
use Rattle.tv_program.proofs.GainLemmas.{counted-more, gains-failed, gains-then, named-more, shot-failed}
use Rattle.tv_program.proofs.drawing.draw_shots.Goals as goal

pub draw_item-requires-clause-there : goal.draw_item-requires-clause-there
draw_item-requires-clause-there g c =
    let s = c.requires.there.0 in
    (after s (take c.loop-item.item-index c.items-item-items.result.now), c.loop-item.invariant.state s c.requires.there.1)

pub returns-in_err-number-clause-drawn : goal.returns-in_err-number-clause-drawn
returns-in_err-number-clause-drawn g c = λ s stands.
    let items = c.items-item-items.result.now in
    let i = c.loop-item.item-index in
    let name = c.args.name.now in
    let number = c.loop-item.number in
    let old = g.A.Album.hung c.args.album.now in
    let mid = g.A.Album.hung c.loop-item.album in
    let new = g.A.Album.hung c.draw_item.new.album in
    let before = c.loop-item.invariant in
    let failed = c.in_err-number.ensures.drawn _ (before.state s stands) in
    gains-failed c.in_err-number.field-0.0 c.from_residual.result c.from_residual.ensures.1
    (subst (λ (script : List Item). GainsBefore old new (named_shots name s script) c.in_err-number.field-0.0) c.items-item-items.ensures.items
    (shot-failed name s items i number _ c.loop-item-test.true (before.counted s stands) old mid new c.in_err-number.field-0.0 failed.1 failed.2 (before.gains s stands) failed.0))

pub loop-item-preserved : goal.loop-item-preserved
loop-item-preserved g c =
    let items = c.items-item-items.result.now in
    let i = c.loop-item.item-index in
    let name = c.args.name.now in
    let number = c.loop-item.number in
    let old = g.A.Album.hung c.args.album.now in
    let mid = g.A.Album.hung c.loop-item.album in
    let new = g.A.Album.hung c.draw_item.new.album in
    let before = c.loop-item.invariant in
    record {
      few =
          let more = c.in_ok-number.ensures.few in
          let few = before.few in
          omega (arith, more, few);
      counted = λ s stands.
          (c.in_ok-number.ensures.drawn _ (before.state s stands)).1
          ∙ counted-more name s items i number _ c.loop-item-test.true (before.counted s stands);
      gains = λ s stands.
          subst (λ (all : List NamedPicture). Gains old new all) (named-more name s items i number _ c.loop-item-test.true (before.counted s stands))
          (gains-then old mid new (named_shots name s (take i items)) _ (before.gains s stands) (c.in_ok-number.ensures.drawn _ (before.state s stands)).0);
      state = λ s stands.
          subst (g.S.Stage.stands c.draw_item.new.stage) (after-more s items i _ c.loop-item-test.true)
          (c.in_ok-number.ensures.state _ (before.state s stands));
    }
