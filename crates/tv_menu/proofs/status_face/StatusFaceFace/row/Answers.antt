use Rattle.std.proofs.Common.{ap, ◌∙◌}
use Rattle.tv_cells.specs.Glyph.{glyph}
use Rattle.tv_machine.specs.Screen.Bars.{spot_in, status_cell, status_text}
use Rattle.tv_palette.specs.Attributes.{attribute_of}
use Rattle.tv_palette.specs.declared.role.Role.TheVariants as roles
use Rattle.tv_palette.specs.declared.role.StatusRole.TheVariants as status
use Rattle.tv_menu.specs.Cells.{is_item_in, item_over}
use Rattle.tv_menu.proofs.FaceLemmas.{item_shown}
use Rattle.tv_menu.proofs.RowLemmas.{row_over, spots_over}
use Rattle.tv_menu.proofs.status_face.StatusFaceFace.row.Goals as goal

pub returns-clause-cells : goal.returns-clause-cells
returns-clause-cells c =
    let items = c.args.self.now.items.now in
    let enabled = c.args.self.now.enabled.now in
    row_over (spots_over status_text (item_over enabled) 0 0 items) (λ x. status_cell (is_item_in enabled) (spot_in status_text 0 0 items x))
    (glyph 32 (attribute_of (roles.Status status.Normal))) c.args.from c.fill.new.cells c.write_items.new.cells
    (λ i on. c.fill.ensures.each i on ∙ (c.space.ensures ∙ ap (glyph 32) c.status_colour.ensures)) (c.write_items.ensures 0)
    (λ x. item_shown enabled (spot_in status_text 0 0 items x))
