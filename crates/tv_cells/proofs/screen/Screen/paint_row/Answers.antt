use Rattle.std.proofs.Common.{◌≡◌, ◌+◌, ◌-◌, ◌*◌, ◌∙◌, sym, length}
use Rattle.std.proofs.lemmas.List.{with_items_is}
use borrow.Rule.Slice.PartMut.{put_mid, same_len_mid}
use Rattle.tv_cells.specs.Picture.{Picture}
use Rattle.tv_cells.proofs.RowLemmas.{changes_painted}
use Rattle.tv_cells.proofs.screen.Screen.paint_row.Goals as goal

pub returns : goal.returns
returns g c =
    let p : Picture = record { width = c.self.inside.width; height = c.self.inside.height; cells = c.self.inside.cells.items } in
    let was = c.deref_mut.ensures.value in
    let count = rw was at c.row.ensures.count in
    let a = c.args.part.row * c.self.inside.width + c.args.part.left in
    let k = c.args.part.row * c.self.inside.width + c.args.part.right - a in
    let long : length (put_mid a k p.cells c.row.new.cells) ≡ c.self.inside.cells.len = same_len_mid a k p.cells c.row.new.cells count ∙ sym c.self.inside.cells.ok.0 in
    rw (← c.self.view_is, was, with_items_is c.self.inside.cells (put_mid a k p.cells c.row.new.cells) long)
    (changes_painted p c.args.part.row c.args.part.left c.args.part.right c.args.from c.row.new.cells (λ x. g.F.Face.face c.args.face.now x c.args.y) c.self.invariant.full
    (rw (← c.self.view_is) at c.requires.across) (rw (← c.self.view_is) at c.requires.down) count c.row.ensures.cells)
