-- A control that adds its rectangle to the damage may show something else in it.
use Rattle.std.proofs.Common.{◌≡◌, List}
use Rattle.tv_cells.specs.Damage.{Grows, HasAll}
use Rattle.tv_cells.specs.declared.rect.Rect.{Rect}
use Rattle.tv_view.specs.Damage.{Damages}
use Rattle.tv_view.specs.Meaning.{Leaf, bounds_of}
use Rattle.tv_view.proofs.DamageLemmas.{damages-own}

-- as `mark` says it, of the control as it is now
pub marked : (old new : Leaf) (before after : List Rect) → new.node ≡ old.node → HasAll (bounds_of new) after → Grows (bounds_of new) before after → Damages old new before after
marked old new before after node all grown = damages-own old new before after node (rw node at all) (rw node at grown)
