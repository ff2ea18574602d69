-- What a lawful window, dialog or pane is to the group of its views: its area is small, its head limited.
use Rattle.std.proofs.Common.{◌≡◌, Option, Some, None, pos, refl, subst}
use Rattle.std.specs.Prelude.{IfSome}
use Rattle.std.specs.Option.{ForSome}
use Rattle.tv_model.specs.declared.node.Node.{Node}
use Rattle.tv_model.specs.declared.kind.DialogHead.{DialogHead}
use Rattle.tv_model.specs.declared.kind.Pane.{Pane}
use Rattle.tv_model.specs.declared.kind.WindowHead.{WindowHead}
use Rattle.tv_model.specs.declared.kind.Kind.TheVariants as kinds
use Rattle.tv_model.specs.Description.Rectangles.{IsSmallRect, rect}
use Rattle.tv_model.specs.Description.LawfulNodes.{IsLawfulNode}
use Rattle.tv_window.specs.Head as window
use Rattle.tv_session.proofs.AreaLemmas as areas
use Rattle.tv_session.proofs.LimitLemmas.{window_head_limited}

-- ---- areas

-- the body of a window
pub window_small : (node : Node) (own : WindowHead) → node.kind ≡ kinds.Window own → IsLawfulNode node → IsSmallRect (rect (pos 0) (pos 0) node.w own.h)
window_small node own is lawful = areas.window_small node own is lawful.limited

-- that of a dialog
pub dialog_small : (node : Node) (own : DialogHead) → node.kind ≡ kinds.Dialog own → IsLawfulNode node → IsSmallRect (rect (pos 0) (pos 0) node.w own.h)
dialog_small node own is lawful = areas.dialog_small node own is lawful.limited

-- a pane
pub pane_small : (node : Node) (own : Pane) → node.kind ≡ kinds.Pane own → IsLawfulNode node → IsSmallRect (rect node.x node.y node.w own.h)
pane_small node own is lawful = areas.pane_small node own is lawful.limited

-- ---- heads

for_some : {A : Type 0} (P : A → Type 0) (o : Option A) → IfSome o P → ForSome o P
for_some P None has x e = absurd cc
for_some P (Some y) has x e = let same : y ≡ x = cc in subst P same has

if_some : {A : Type 0} (P : A → Type 0) (o : Option A) → ForSome o P → IfSome o P
if_some P None has = tt
if_some P (Some x) has = has x refl

-- what a window keeps of a lawful node is limited
pub head_of_lawful : (node : Node) → IsLawfulNode node → ForSome (window.declared_window_head node) window.IsLimitedWindowHead
head_of_lawful node lawful = for_some window.IsLimitedWindowHead (window.declared_window_head node) (window_head_limited node lawful.limited)

-- so that a window may be made of it
pub head_fits : (node : Node) → ForSome (window.declared_window_head node) window.IsLimitedWindowHead → IfSome (window.declared_window_head node) window.IsLimitedWindowHead
head_fits node has = if_some window.IsLimitedWindowHead (window.declared_window_head node) has
