use Rattle.std.proofs.Common.{◌∙◌, refl, subst, ap, option_copied, slice_index_or, []}
use Rattle.tv_cells.specs.Canvas.{Covers}
use Rattle.tv_cells.specs.Picture.{Changes}
use Rattle.tv_cells.specs.Rectangle.{sized}
use Rattle.tv_model.specs.Screen.Faces.{pieces_of}
use Rattle.tv_faces.specs.Looks.{pieces_left}
use Rattle.tv_faces.proofs.TextRowLemmas.{left_after, none_painted, piece_at, piece_on, row_painted}
use Rattle.tv_faces.proofs.static_text.TextFace.paint.Goals as goal

pub loop-row-init : goal.loop-row-init
loop-row-init c = (none_painted _ _ _ _, refl)

pub loop-row-preserved : goal.loop-row-preserved
loop-row-preserved c =
    let text = c.args.self.now.text.now in
    let attr = c.args.self.now.attr in
    let piece = c.next_piece.result.0.now in
    let row = c.loop-row.row in
    let width = c.args.width in (
      row_painted c.args.canvas width row text piece attr c.args.screen.now c.loop-row.screen c.paint.new.screen
          (c.next_piece.ensures.first ∙ (ap (λ t. slice_index_or t 0 []) c.loop-row.invariant.1 ∙ piece_at row (pieces_of text)))
          c.loop-row.invariant.0
          (subst (λ canvas. Changes (Covers canvas (sized width 1)) (piece_on canvas piece attr) c.loop-row.screen c.paint.new.screen) c.row_canvas.ensures c.paint.ensures),
      left_after row (pieces_of text) (pieces_left (option_copied c.loop-row.left)) (pieces_left (option_copied c.next_piece.result.1)) c.loop-row.invariant.1 c.next_piece.ensures.after,
    )
