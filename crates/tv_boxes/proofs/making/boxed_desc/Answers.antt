use Rattle.std.proofs.Common.{◌≡◌, ◌∙◌, ap}
use Rattle.std.proofs.lemmas.Result.{IfOk-weaker}
use Rattle.tv_boxes.specs.Boxes.{boxed_desc, desc_of_rows, wrap_columns}
use Rattle.tv_boxes.specs.Wrapping.{rows_of}
use Rattle.tv_boxes.proofs.making.boxed_desc.Goals as goal

pub returns : goal.returns
returns c =
    let r = c.args.request.now in
    let given = c.as_slice-2.result.now in
    let cut : given ≡ rows_of c.from-width.result c.as_slice.result.now = cc (c.as_slice-2.ensures, c.in_ok-rows.ensures) in
    let rows : given ≡ rows_of (wrap_columns r) r.text =
    cut ∙ ap (λ w. rows_of w c.as_slice.result.now) (c.from-width.ensures ∙ c.wrap_columns.ensures)
    ∙ ap (rows_of (wrap_columns r)) c.as_slice.ensures in
    IfOk-weaker c.desc_of_rows.result (λ desc. desc ≡ desc_of_rows r given) (λ desc. desc ≡ boxed_desc r) (λ desc e. e ∙ ap (desc_of_rows r) rows) c.desc_of_rows.ensures
