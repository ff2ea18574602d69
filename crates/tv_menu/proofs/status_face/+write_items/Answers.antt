use Rattle.std.proofs.Common.{ap, ◌+◌, ◌∙◌, ◌∷◌, None}
use Rattle.tv_cells.specs.Glyph.{shown}
use Rattle.tv_machine.specs.Screen.Bars.{columns_of, status_role, status_text}
use Rattle.tv_model.specs.Screen.Faces.{text_row}
use Rattle.tv_palette.specs.Attributes.{attribute_of}
use Rattle.tv_palette.specs.declared.role.Role.TheVariants as roles
use Rattle.tv_menu.specs.Cells.{item_over, spaced_cell}
use Rattle.tv_menu.proofs.RowLemmas.{spots_written}
use Rattle.tv_menu.proofs.status_face.+write_items.Goals as goal

pub returns-then-first-from : goal.returns-then-first-from
returns-then-first-from t c = λ place.
    let attr = c.status_colour-attr.result in
    let is_attr = c.status_colour-attr.ensures ∙ ap (λ is_enabled. attribute_of (roles.Status (status_role is_enabled))) c.is_enabled.ensures.is in
    spots_written status_text (item_over c.args.enabled.now) place c.args.first c.args.from c.columns_of-columns.result c.args.items.now c.in-Some.behind.now c.in-Some.item.now
    (spaced_cell (record { text = c.as_slice.result; mark = None; rest = attr; letter = attr })) c.args.cells.now c.write.new.cells c.write_items.new.cells c.in-Some.ensures.cases.0
    (c.columns_of-columns.ensures ∙ ap columns_of c.as_slice.ensures)
    (λ column. ap (λ text. shown (text_row (32 ∷ text) column) attr) c.as_slice.ensures ∙ ap (λ a. shown (text_row (32 ∷ c.in-Some.item.now.text) column) a) is_attr)
    c.write.ensures (c.write_items.ensures (place + 1))
