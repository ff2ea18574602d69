use Rattle.std.proofs.Common.{◌≡◌, ◌+◌, ◌-◌, ◌*◌, ◌∙◌, sym, length}
use Rattle.std.proofs.lemmas.List.{with_items_is}
use borrow.Rule.Slice.PartMut.{put_mid, same_len_mid}
use Rattle.tv_cells.specs.Picture.{Picture}
use Rattle.tv_cells.proofs.RowLemmas.{changes_copied}
use Rattle.tv_cells.proofs.screen.Screen.copy_row_above.Goals as goal

pub returns : goal.returns
returns c =
    let p : Picture = record { width = c.self.inside.width; height = c.self.inside.height; cells = c.self.inside.cells.items } in
    let front = c.split_at_mut-before.ensures.front in
    let back = c.split_at_mut-before.ensures.back in
    let was = c.deref_mut.ensures.value in
    let a = c.args.part.row * c.self.inside.width + c.args.part.left in
    let k = c.args.part.right - c.args.part.left in
    let count = rw (back, was) at c.copy_from_slice.ensures.len in
    let long : length (put_mid a k p.cells c.copy_from_slice.new.self) ≡ c.self.inside.cells.len = same_len_mid a k p.cells c.copy_from_slice.new.self count ∙ sym c.self.inside.cells.ok.0 in
    rw (← c.self.view_is, front, back, was, with_items_is c.self.inside.cells (put_mid a k p.cells c.copy_from_slice.new.self) long)
    (changes_copied p c.args.part.row c.args.part.left c.args.part.right c.copy_from_slice.new.self c.self.invariant.full
    (rw (← c.self.view_is) at c.requires.across) (rw (← c.self.view_is) at c.requires.down) (rw (front, was) at c.copy_from_slice.ensures.after))
