use Rattle.std.proofs.Common.{map, subst}
use Rattle.tv_cells.specs.Layers.{Lays}
use Rattle.tv_cells.specs.Repainting.{clipped}
use Rattle.tv_machine.specs.Screen.Layers.{layers_of}
use Rattle.tv_session.proofs.PaintingLemmas.{shows-whole}
use Rattle.tv_session.proofs.run.RunOf.paint.Goals as goal

pub draw_within-requires : goal.draw_within-requires
draw_within-requires g c = record { screen = c.requires.1.size; known = (c.requires.0, c.requires.1.stands) }

pub returns : goal.returns
returns g c = λ s can.
    let d = c.args.desc.now in
    let laid = c.draw_within.ensures s can.sound can.stands can.is_line in (
      laid.size,
      shows-whole d s c.args.screen.now c.draw_within.new.screen can.size can.width can.height
          (subst (λ r. Lays (map (clipped r) (layers_of d s)) c.args.screen.now c.draw_within.new.screen) c.whole_screen.ensures laid),
    )
