use Rattle.std.proofs.Common.{◌≡◌, ◌∙◌}
use Rattle.std.proofs.lemmas.Result.{IfOk-weaker}
use Rattle.tv_boxes.specs.Boxes.{box_desc, desc_of_rows}
use Rattle.tv_boxes.proofs.SizeLemmas.{described}
use Rattle.tv_boxes.proofs.making.desc_of_rows.Goals as goal

pub returns : goal.returns
returns c =
    let r = c.args.request.now in
    let rows = c.args.rows.now in
    let columns = c.columns_of-columns.result in
    let body = c.body_rows-body.result in
    let dialog = c.in_ok-dialog.dialog in
    let whole : box_desc columns body dialog ≡ desc_of_rows r rows =
    described r rows columns body c.in_ok-views.views.items c.in_ok-on_lines.field-0.items dialog c.columns_of-columns.ensures c.body_rows-body.ensures c.in_ok-views.ensures c.in_ok-on_lines.ensures c.in_ok-dialog.ensures in
    IfOk-weaker c.box_desc.result (λ desc. desc ≡ box_desc columns body dialog) (λ desc. desc ≡ desc_of_rows r rows) (λ desc e. e ∙ whole) c.box_desc.ensures
