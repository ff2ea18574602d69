use Rattle.std.proofs.Common.{ap, sym, ◌-◌, ◌∙◌}
use Rattle.tv_cells.specs.Glyph.{Glyph}
use Rattle.tv_cells.specs.Picture.{cell_at}
use Rattle.tv_io.proofs.PenLemmas.{Puts-along, Puts-then}
use Rattle.tv_terminal.proofs.PutLemmas.{cursor-along, ground-along}
use Rattle.tv_terminal.proofs.StripLemmas.{length-chars_from}
use Rattle.tv_terminal.proofs.strip.put_strip.Goals as goal

pub returns : goal.returns
returns g c =
    let count = sym (length-chars_from (cell_at c.args.screen.now) c.args.row c.args.start (c.args.end - c.args.start)) in
    let attr = c.attr-attr.ensures ∙ ap (λ (cell : Glyph). cell.attr) c.get.ensures in
    let ground = Puts-along (ground-along c.args.start c.args.row count attr) c.put_ground.ensures in
    let cursor = Puts-along (cursor-along c.args.start c.args.row count attr) c.put_cursor.ensures in
    Puts-then (Puts-then ground c.put_any_text.ensures) cursor
