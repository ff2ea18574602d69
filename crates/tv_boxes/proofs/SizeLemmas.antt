-- A box, from its size and its views.
use Rattle.std.proofs.Common.{◌≡◌, ℕ, List, ap, ◌∙◌}
use Rattle.tv_model.specs.declared.desc.Dialog.{Dialog}
use Rattle.tv_model.specs.declared.node.Node.{Node}
use Rattle.tv_boxes.specs.declared.request.Request.{Request}
use Rattle.tv_boxes.specs.Lines.{on_lines}
use Rattle.tv_boxes.specs.Boxes.{body_rows, box_desc, box_dialog, box_views, columns_of, desc_of_rows, desc_of_size}

pub described : (r : Request) (rows : List (List ℕ)) (columns body : ℕ) (views lined : List Node) (dialog : Dialog) → columns ≡ columns_of r rows → body ≡ body_rows r rows → views ≡ box_views r rows columns body → lined ≡ on_lines views → dialog ≡ box_dialog r columns body lined → box_desc columns body dialog ≡ desc_of_rows r rows
described r rows columns body views lined dialog wide high stand below built =
    ap (box_desc columns body) built
    ∙ ap (λ vs. box_desc columns body (box_dialog r columns body vs)) (below ∙ ap on_lines stand)
    ∙ ap (λ n. desc_of_size r rows n body) wide ∙ ap (desc_of_size r rows (columns_of r rows)) high
