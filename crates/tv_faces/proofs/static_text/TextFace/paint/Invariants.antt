use Rattle.std.proofs.Common.{◌≡◌, drop, option_copied}
use Rattle.tv_cells.specs.Canvas.{Covers}
use Rattle.tv_cells.specs.Picture.{Changes}
use Rattle.tv_cells.specs.Rectangle.{sized}
use Rattle.tv_model.specs.Screen.Faces.{pieces_of}
use Rattle.tv_faces.specs.Looks.{pieces_left}
use Rattle.tv_faces.proofs.TextRowLemmas.{text_at}
use Rattle.tv_faces.proofs.static_text.TextFace.paint.Given as goal

abbrev pub invariant-loop-row : goal.invariant-loop-row
invariant-loop-row l =
    Changes (Covers l.fn.canvas (sized l.fn.width l.row)) (text_at l.fn.canvas l.fn.self.text.now l.fn.self.attr) l.fn.screen l.screen
    × (pieces_left (option_copied l.left) ≡ drop l.row (pieces_of l.fn.self.text.now))
