use Rattle.std.proofs.Common.{◌≡◌, ◌++◌, ◌∷◌, [], ap, ◌∙◌}
use Rattle.tv_cells.specs.Picture.{cell_at}
use Rattle.tv_model.specs.Log.LogText.{line_of}
use Rattle.tv_machine.specs.Output.{cells_text, row_text}
use Rattle.tv_script.specs.ScreenText.{cell_text}
use Rattle.tv_io.proofs.PenLemmas.{Puts-along}
use Rattle.tv_script.proofs.shot.put_row.Goals as goal

pub returns : goal.returns
unfolding line_of
returns g c =
    let cells = cells_text (cell_text c.args.aspect) c.args.screen.now.width (cell_at c.args.screen.now) c.args.row in
    let start : c.push.new.self.items ≡ 58 ∷ [] = c.push.ensures.items ∙ ap (λ t. t ++ 58 ∷ []) c.new-text.ensures in
    let all : c.as_slice.result.now ≡ row_text (cell_text c.args.aspect) c.args.screen.now.width (cell_at c.args.screen.now) c.args.row =
    c.as_slice.ensures.value ∙ c.push-3.ensures.items
    ∙ ap (λ t. t ++ 10 ∷ []) (c.push-2.ensures.items ∙ ap (λ t. t ++ 58 ∷ []) (c.push_cells.ensures.text ∙ ap (λ t. t ++ cells) start)) in
    Puts-along all c.put.ensures
