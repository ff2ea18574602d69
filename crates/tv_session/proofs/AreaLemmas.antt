-- The areas of groups are small.
use Rattle.std.proofs.Common.{◌≡◌, ◌+ℤ◌, ◌≤ℤ◌, ℤ, arith, pos}
use Rattle.std.proofs.lemmas.Int.{ints}
use Rattle.tv_model.specs.declared.node.Node.{Node}
use Rattle.tv_model.specs.declared.kind.DialogHead.{DialogHead}
use Rattle.tv_model.specs.declared.kind.Pane.{Pane}
use Rattle.tv_model.specs.declared.kind.WindowHead.{WindowHead}
use Rattle.tv_model.specs.declared.kind.Kind.TheVariants as kinds
use Rattle.tv_model.specs.Description.Rectangles.{IsSmall, IsSmallRect, rect}
use Rattle.tv_model.specs.Description.LawfulNodes.{IsLimited}
use Rattle.tv_model.specs.Description.Numbers.{IsBetween}
use Rattle.tv_view.proofs.CoreLemmas.{limited_small}

small_end : (least z : ℤ) → pos 1 ≤ℤ least → IsBetween least (pos 132) z → IsSmall (pos 0 +ℤ z)
small_end least z l h = record { low = omega (arith, ints, l, h.0, h.1); high = omega (arith, ints, l, h.0, h.1) }

origin : IsSmall (pos 0)
origin = record { low = omega (arith, ints); high = omega (arith, ints) }

body_small : (w h : ℤ) → IsBetween (pos 12) (pos 132) w → IsBetween (pos 3) (pos 60) h → IsSmallRect (rect (pos 0) (pos 0) w h)
body_small w h wide high = record {
  left = origin;
  top = origin;
  right = small_end (pos 12) w (omega (arith, ints)) wide;
  bottom = small_end (pos 3) h (omega (arith, ints)) (high.0, omega (arith, ints, high.1));
}

-- the body of a window
pub window_small : (node : Node) (own : WindowHead) → node.kind ≡ kinds.Window own → IsLimited node → IsSmallRect (rect (pos 0) (pos 0) node.w own.h)
window_small node own is limited = body_small node.w own.h (rw is at limited.w) (rw is at limited.h)

-- that of a dialog
pub dialog_small : (node : Node) (own : DialogHead) → node.kind ≡ kinds.Dialog own → IsLimited node → IsSmallRect (rect (pos 0) (pos 0) node.w own.h)
dialog_small node own is limited = body_small node.w own.h (rw is at limited.w) (rw is at limited.h)

-- a pane
pub pane_small : (node : Node) (own : Pane) → node.kind ≡ kinds.Pane own → IsLimited node → IsSmallRect (rect node.x node.y node.w own.h)
pane_small node own is limited = rw is at (limited_small node limited)
