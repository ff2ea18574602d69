use Rattle.std.proofs.Common.{ℕ, ◌*◌, ◌-◌, ◌%◌, ap, sym, ◌∙◌, codes}
use Rattle.tv_cells.specs.Glyph.{Glyph}
use Rattle.tv_cells.specs.Picture.{cell_at}
use Rattle.tv_io.proofs.PenLemmas.{Puts-along, Puts-then}
use Rattle.tv_terminal.specs.Svg.{attribute_text, fill_text}
use Rattle.tv_terminal.proofs.StripLemmas.{length-chars_from}
use Rattle.tv_terminal.proofs.strip.put_text.Goals as goal

pub returns : goal.returns
returns g c =
    let count = sym (length-chars_from (cell_at c.args.screen.now) c.args.row c.args.start (c.args.end - c.args.start)) in
    let attr = c.attr.ensures ∙ ap (λ (cell : Glyph). cell.attr) c.get.ensures in
    let long = Puts-along (ap (λ (n : ℕ). attribute_text (codes "textLength") (10 * n)) count) c.put_attribute-3.ensures in
    let fill = Puts-along (ap (λ (a : ℕ). fill_text (a % 16)) attr) c.put_fill.ensures in
    let head = Puts-then (Puts-then (Puts-then (Puts-then c.put.ensures c.put_attribute.ensures) c.put_attribute-2.ensures) long) fill in
    Puts-then (Puts-then (Puts-then head c.put-2.ensures) c.put_chars.ensures) c.put-3.ensures
