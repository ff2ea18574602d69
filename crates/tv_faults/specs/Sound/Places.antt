-- Places, as sets of points.
use Rattle.std.specs.Prelude.{◌⊎◌, List, [], All, ℤ, IsTrue}
use Rattle.tv_cells.specs.Rectangle.{IsIn}
use Rattle.tv_cells.specs.declared.rect.Rect.{Rect}
use Rattle.tv_model.specs.declared.node.Node.{Node}
use Rattle.tv_model.specs.declared.kind.Kind.{Kind}
use Rattle.tv_model.specs.declared.desc.Desc.{Desc}
use Rattle.tv_model.specs.Faults.Lines.{after_seen}
use Rattle.tv_model.specs.Description.Rectangles.{desktop, place_of_node}
use Rattle.tv_model.specs.Description.Panes.{earlier_siblings, owner_of, room_in}
use Rattle.tv_model.specs.Description.Nodes.{is_control, is_pane}
use Rattle.tv_faults.specs.Sound.Bodies.{EachBody}

-- every point of the first lies in the second
abbrev pub IsPartOf : Rect → Rect → Type 0
IsPartOf r s = (x y : ℤ) → IsIn r x y → IsIn s x y

-- no point lies in both
abbrev pub IsApartFrom : Rect → Rect → Type 0
IsApartFrom r s = (x y : ℤ) → IsIn r x y → IsIn s x y → ⊥

-- each view lies in the pane in which it stands, or inside the frame
abbrev pub AreInside : Node → List Node → Type 0
AreInside frame views =
    All (λ pair. IsPartOf (place_of_node pair.1) (room_in frame (owner_of pair.0 pair.1)))
    (after_seen [] views)

-- dialogs lie in the desktop, and views in what is around them
pub record ArePlacedWell (d : Desc) : Type 0 where
  pub dialogs : All (λ dialog. IsPartOf (place_of_node dialog.node) (desktop d)) d.dialogs
  pub views : EachBody d (λ body. AreInside body.frame body.views)

-- one of the two is a pane, or both are controls
abbrev pub NeedOwnPlaces : Kind → Kind → Type 0
NeedOwnPlaces one other =
    (IsTrue (is_pane one) ⊎ IsTrue (is_pane other)) ⊎ (IsTrue (is_control one) × IsTrue (is_control other))

-- no two views of one owner have a point in common, where one of them is a pane or both are controls
abbrev pub AreApart : List Node → Type 0
AreApart views =
    All (λ pair.
    All (λ other.
    NeedOwnPlaces other.kind pair.1.kind → IsApartFrom (place_of_node other) (place_of_node pair.1))
    (earlier_siblings pair.0 pair.1)) (after_seen [] views)

-- so it is in each window and dialog
abbrev pub AreViewsApart : Desc → Type 0
AreViewsApart d = EachBody d (λ body. AreApart body.views)
