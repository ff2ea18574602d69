-- A dialog that lies on the desktop where it is declared has a cell of its top row there.
use Rattle.std.proofs.Common.{IsTrue, arith}
use Rattle.std.specs.Prelude.{ℤ, pos, ◌+ℤ◌, ◌-ℤ◌, ◌≤ℤ◌, ◌<ℤ◌}
use Rattle.std.proofs.lemmas.Bool.{false≢true}
use Rattle.std.proofs.lemmas.Int.{ints}
use Rattle.tv_cells.specs.Rectangle.{IsIn}
use Rattle.tv_model.specs.declared.kind.Kind.{Kind}
use Rattle.tv_model.specs.declared.kind.Kind.TheVariants as kinds
use Rattle.tv_model.specs.declared.desc.Desc.{Desc}
use Rattle.tv_model.specs.declared.desc.Dialog.{Dialog}
use Rattle.tv_model.specs.Description.LawfulNodes.{IsLimited}
use Rattle.tv_model.specs.Description.Limits.{least_height, least_width}
use Rattle.tv_model.specs.Description.Nodes.{height_of, is_dialog}
use Rattle.tv_model.specs.Description.Rectangles.{corner_of, desktop, place_of_node}
use Rattle.tv_machine.specs.Safe.{HasTopCell}

-- a dialog has a row and a column
some_sizes : (kind : Kind) → IsTrue (is_dialog kind) → (pos 1 ≤ℤ least_width kind) × (pos 1 ≤ℤ least_height kind)
some_sizes (kinds.Dialog head) is = (omega (arith, ints), omega (arith, ints))
some_sizes _ is = absurd (false≢true is)

at_least : (low n : ℤ) → pos 1 ≤ℤ low → low ≤ℤ n → pos 1 ≤ℤ n
at_least low n a b = omega (arith, ints)

begins : (z n : ℤ) → pos 1 ≤ℤ n → (z ≤ℤ z) × (z <ℤ (z +ℤ n))
begins z n h = (omega (arith, ints), omega (arith, ints))

pub declared-top : (d : Desc) (dialog : Dialog) → IsLimited dialog.node
    → ((x y : ℤ) → IsIn (place_of_node dialog.node) x y → IsIn (desktop d) x y)
    → HasTopCell d (corner_of dialog.node) dialog.node.w
declared-top d dialog limited within =
    let node = dialog.node in
    let least = some_sizes node.kind dialog.own_kind in
    let across = begins node.x node.w (at_least (least_width node.kind) node.w least.0 limited.w.0) in
    let down = begins node.y (height_of node.kind) (at_least (least_height node.kind) (height_of node.kind) least.1 limited.h.0) in
    let corner : IsIn (desktop d) node.x node.y =
    within node.x node.y (record { after_left = across.0; before_right = across.1; after_top = down.0; before_bottom = down.1 }) in
    record {
      row = (corner.after_top, last_row node.y d.height corner.before_bottom);
      column = node.x;
      on_screen = (corner.after_left, last_column node.x d.width corner.before_right);
      in_frame = across;
    }
  where
    last_row : (y h : ℤ) → y <ℤ (pos 1 +ℤ (h -ℤ pos 2)) → y ≤ℤ (h -ℤ pos 2)
    last_row y h e = omega (arith, ints)

    last_column : (x w : ℤ) → x <ℤ (pos 0 +ℤ w) → x <ℤ w
    last_column x w e = omega (arith, ints)
