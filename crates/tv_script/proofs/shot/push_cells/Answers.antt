use Rattle.std.proofs.Common.{ℕ, List, ◌++◌, ap, ◌∙◌, append_assoc, arith}
use Rattle.tv_cells.specs.Picture.{cell_at}
use Rattle.tv_machine.specs.Output.{cells_text}
use Rattle.tv_script.specs.ScreenText.{cell_text}
use Rattle.tv_script.proofs.RangeLemmas.{flat_map-range-more}
use Rattle.tv_script.proofs.shot.push_cells.Goals as goal

pub loop-column-preserved : goal.loop-column-preserved
loop-column-preserved c =
    let text : ℕ → List ℕ = λ column. cell_text c.args.aspect (cell_at c.args.screen.now column c.args.row) in
    let before = cells_text (cell_text c.args.aspect) c.loop-column.column (cell_at c.args.screen.now) c.args.row in (
      c.push_cell.ensures.text ∙ ap (λ t. t ++ cell_text c.args.aspect c.get.result) c.loop-column.invariant.0 ∙ ap (λ cell. (c.args.text.now.items ++ before) ++ cell_text c.args.aspect cell) c.get.ensures
          ∙ append_assoc c.args.text.now.items before (text c.loop-column.column) ∙ ap (λ t. c.args.text.now.items ++ t) (flat_map-range-more text c.loop-column.column),
      omega (arith, c.push_cell.ensures.room, c.loop-column.invariant.1),
    )
