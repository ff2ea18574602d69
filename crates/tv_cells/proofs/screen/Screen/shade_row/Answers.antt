use Rattle.std.proofs.Common.{◌≡◌, ◌+◌, ◌-◌, ◌*◌, ◌∙◌, sym, length}
use Rattle.std.proofs.lemmas.List.{with_items_is}
use borrow.Rule.Slice.PartMut.{put_mid, same_len_mid}
use Rattle.tv_cells.specs.Picture.{Picture}
use Rattle.tv_cells.proofs.RowLemmas.{changes_shaded}
use Rattle.tv_cells.proofs.screen.Screen.shade_row.Goals as goal

pub returns : goal.returns
returns c =
    let p : Picture = record { width = c.self.inside.width; height = c.self.inside.height; cells = c.self.inside.cells.items } in
    let was = c.deref_mut.ensures.value in
    let count = rw was at c.shade_all.ensures.count in
    let a = c.args.part.row * c.self.inside.width + c.args.part.left in
    let k = c.args.part.row * c.self.inside.width + c.args.part.right - a in
    let long : length (put_mid a k p.cells c.shade_all.new.cells) ≡ c.self.inside.cells.len = same_len_mid a k p.cells c.shade_all.new.cells count ∙ sym c.self.inside.cells.ok.0 in
    rw (← c.self.view_is, was, with_items_is c.self.inside.cells (put_mid a k p.cells c.shade_all.new.cells) long)
    (changes_shaded p c.args.part.row c.args.part.left c.args.part.right c.shade_all.new.cells c.self.invariant.full
    (rw (← c.self.view_is) at c.requires.across) (rw (← c.self.view_is) at c.requires.down) count (rw was at c.shade_all.ensures.cells))
