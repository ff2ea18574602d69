-- The rectangles of lawful nodes are small.
use Rattle.std.proofs.Common.{◌+ℤ◌, ◌≤ℤ◌, ℤ, IsTrue, arith, pos, neg_ℤ}
use Rattle.std.proofs.lemmas.Bool.{false≢true}
use Rattle.std.proofs.lemmas.Int.{ints}
use Rattle.tv_model.specs.declared.node.Node.{Node}
use Rattle.tv_model.specs.declared.kind.Kind.{Kind}
use Rattle.tv_model.specs.declared.kind.Kind.TheVariants as kinds
use Rattle.tv_model.specs.Description.Rectangles.{IsSmall, IsSmallRect, place_of_node}
use Rattle.tv_model.specs.Description.LawfulNodes.{HasLawfulCount, IsLimited}
use Rattle.tv_model.specs.Description.Limits.{least_height, least_width}
use Rattle.tv_model.specs.Description.Nodes.{height_of, is_cluster}
use Rattle.tv_model.specs.Description.Numbers.{IsBetween}

near_corner : (z : ℤ) → IsBetween (neg_ℤ (pos 132)) (pos 132) z → IsSmall z
near_corner z h = record { low = omega (arith, ints, h.0, h.1); high = omega (arith, ints, h.0, h.1) }

near_end : (z s least : ℤ) → pos 1 ≤ℤ least → IsBetween (neg_ℤ (pos 132)) (pos 132) z → IsBetween least (pos 132) s → IsSmall (z +ℤ s)
near_end z s least l h w = record { low = omega (arith, ints, l, h.0, h.1, w.0, w.1); high = omega (arith, ints, l, h.0, h.1, w.0, w.1) }

width_counts : (kind : Kind) → pos 1 ≤ℤ least_width kind
width_counts (kinds.Window head) = omega (arith, ints)
width_counts _ = omega (arith, ints)

height_counts : (kind : Kind) → pos 1 ≤ℤ least_height kind
height_counts (kinds.Window head) = omega (arith, ints)
height_counts _ = omega (arith, ints)

short_end : (least s : ℤ) → IsBetween least (pos 60) s → IsBetween least (pos 132) s
short_end least s h = (h.0, omega (arith, ints, h.0, h.1))

pub limited_small : (node : Node) → IsLimited node → IsSmallRect (place_of_node node)
limited_small node l = record {
  left = near_corner node.x l.x;
  top = near_corner node.y l.y;
  right = near_end node.x node.w (least_width node.kind) (width_counts node.kind) l.x l.w;
  bottom = near_end node.y _ (least_height node.kind) (height_counts node.kind) l.y (short_end (least_height node.kind) _ l.h);
}

-- a cluster has a row an item, at most sixteen
pub cluster_rows : (kind : Kind) (y : ℤ) → IsTrue (is_cluster kind) → HasLawfulCount kind → (y +ℤ height_of kind) ≤ℤ (y +ℤ pos 16)
cluster_rows (kinds.CheckBoxes boxes) y own count = omega (arith, ints, count.1)
cluster_rows (kinds.RadioButtons radios) y own count = omega (arith, ints, count.1)
cluster_rows _ y own count = absurd (false≢true own)
