use Rattle.std.proofs.Common.{arith}
use Rattle.tv_machine.specs.Screen.Bars.{box_face}
use Rattle.tv_menu.proofs.RowLemmas.{one_cell}
use Rattle.tv_menu.proofs.box_face.BoxFaceFace.at.Goals as goal

pub returns : goal.returns
returns c =
    one_cell (λ x. box_face c.args.self.now.menu.now c.args.self.now.current x c.args.y) c.args.x c.row.new.cells c.index-cells-0.result (omega (arith, c.row.ensures.count)) c.row.ensures.cells
