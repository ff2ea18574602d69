use Rattle.std.proofs.Common.{arith, ◌∙◌}
use Rattle.std.proofs.lemmas.List.{take_all}
use Rattle.tv_cells.proofs.RepaintingLemmas.{repainted-next, repainted-none, rest-repainted, shows-repainted}
use Rattle.tv_machine.specs.Screen.Layers.{layers_of}
use Rattle.tv_session.proofs.PaintingLemmas.{layers-hide}
use Rattle.tv_session.proofs.run.RunOf.repaint.Goals as goal

pub loop-rect-init : goal.loop-rect-init
loop-rect-init g c = λ s can. repainted-none (layers_of c.args.desc.now s) c.args.screen.now

pub loop-rect-preserved : goal.loop-rect-preserved
loop-rect-preserved g c = λ s can.
    let p = c.loop-rect in
    let d = c.args.desc.now in
    repainted-next (layers_of d s) c.rects-rect-items.result.now p.rect-index _ c.args.screen.now p.screen c.draw_within.new.screen (omega arith)
    (layers-hide d s c.args.screen.now can.size can.width can.height) (p.invariant s can) (c.draw_within.ensures s can.sound can.stands can.is_line)

pub draw_within-requires : goal.draw_within-requires
draw_within-requires g c = record { screen = c.requires.1.size; known = (c.requires.0, c.requires.1.stands) }

pub returns : goal.returns
returns g c =
    let p = c.loop-rect in
    let d = c.args.desc.now in
    let all = take_all p.rect-index c.rects-rect-items.result.now (omega arith) ∙ c.rects-rect-items.ensures.rects in
    let known = rw all at (p.invariant c.requires.0 c.requires.1) in
    record {
      size = known.size;
      shows = λ s before can shows alike. shows-repainted c.args.damage.now before (layers_of d s) c.args.screen.now p.screen shows alike (rw all at (p.invariant s can));
      rest = rest-repainted c.args.damage.now (layers_of d c.requires.0) c.args.screen.now p.screen known;
    }
