-- What stands while views are put together, and what each step makes of it.
use Rattle.std.specs.Prelude.{◌≡◌, ◌≢◌, ◌⊎◌, ◌≤◌, ◌-◌, List, [], ◌∷◌, ◌++◌, length, map, take, Some, None, IsTrue}
use Rattle.tv_group.specs.Opened.{members_level}
use Rattle.tv_group.specs.declared.group.GroupOf.{GroupOf}
use Rattle.tv_group.specs.declared.group.MemberOf.{MemberOf}
use Rattle.tv_group.specs.declared.group.MemberOf.TheVariants as members
use Rattle.tv_view.specs.Meaning.{Leaf}
use Rattle.tv_model.specs.declared.kind.Kind.{Kind}
use Rattle.tv_model.specs.declared.kind.Kind.TheVariants as kinds
use Rattle.tv_model.specs.declared.node.Node.{Node}
use Rattle.tv_model.specs.Description.Rectangles.{corner_of}
use Rattle.tv_window.specs.Head.{declared_window_head}
use Rattle.tv_window.specs.Window.{body_of, head_of}
use Rattle.tv_window.specs.declared.window.WindowOf.{WindowOf}
use Rattle.tv_session.specs.Groups.{IsGroupOf, is_group}
use Rattle.tv_session.specs.declared.begun.Begun.{Begun}
use Rattle.tv_session.specs.declared.building.Building.{Building}

-- ---- what stands

-- the windows that ended
abbrev pub windows_of : {V : Type 0} → Building V → List (WindowOf V)
windows_of building = building.views.windows.items

-- the bodies of dialogs that ended
abbrev pub bodies_built : {V : Type 0} → Building V → List (GroupOf V)
bodies_built building = building.views.bodies.items

-- what was begun and hasn't ended, the innermost last
abbrev pub begun_of : {V : Type 0} → Building V → List (Begun V)
begun_of building = building.begun.items

-- no window or body came or went
pub record KeepsViews {V : Type 0} (old new : Building V) : Type 0 where
  pub windows : windows_of new ≡ windows_of old
  pub bodies : bodies_built new ≡ bodies_built old

-- ---- beginning and adding

-- the node of a group begins inside what was begun before, and nothing stands in it
pub record BeginsNode {V : Type 0} (node : Node) (old new : List (Begun V)) : Type 0 where
  pub group : IsTrue (is_group node.kind)
  pub begun : Begun V
  pub node_is : begun.node.now ≡ node
  pub empty : begun.members.items ≡ []
  pub last : new ≡ old ++ begun ∷ []

-- a member stands in the innermost of what was begun, behind the others
pub record Adds {V : Type 0} (member : MemberOf V) (old new : List (Begun V)) : Type 0 where
  pub outer : List (Begun V)
  pub before : Begun V
  pub after : Begun V
  pub was : old ≡ outer ++ before ∷ []
  pub is : new ≡ outer ++ after ∷ []
  pub node : after.node.now ≡ before.node.now
  pub members : after.members.items ≡ before.members.items ++ member ∷ []

-- the same groups are begun, and the same members stand in each
pub record AreSameGroups {V : Type 0} (old new : List (Begun V)) : Type 0 where
  pub nodes : map (λ begun. begun.node.now) new ≡ map (λ begun. begun.node.now) old
  pub members : map (λ begun. begun.members.items) new ≡ map (λ begun. begun.members.items) old

-- ---- ending

-- all but the innermost of what was begun; nothing where nothing was begun
abbrev pub but_innermost : {V : Type 0} → List (Begun V) → List (Begun V)
but_innermost begun = take (length begun - 1) begun

-- a window of the node stands where that is declared, the last of the windows, round this body, and no sheet
-- lies in it
pub record StandsWindow {V : Type 0} (node : Node) (body : GroupOf V)
    (old new : List (WindowOf V)) : Type 0 where
  pub window : WindowOf V
  pub head : Some (head_of window) ≡ declared_window_head node
  pub corner : window.corner ≡ corner_of node
  pub body_is : body_of window ≡ body
  pub bare : window.sheet ≡ None
  pub last : new ≡ old ++ window ∷ []

-- what a node's end makes of the group in it, by its kind: a pane stands in what is around it, a window or a
-- body by itself
abbrev pub EndsAs : {V : Type 0} → Kind → Node → GroupOf V → List (Begun V) → Building V → Building V → Type 0
EndsAs (kinds.Pane pane) node group outer old new =
    KeepsViews old new × Adds (members.Pane group) outer (begun_of new)
EndsAs (kinds.Window head) node group outer old new =
    (outer ≡ []) × (begun_of new ≡ []) × StandsWindow node group (windows_of old) (windows_of new)
    × (bodies_built new ≡ bodies_built old)
EndsAs (kinds.Dialog head) node group outer old new =
    (outer ≡ []) × (begun_of new ≡ []) × (windows_of new ≡ windows_of old)
    × (bodies_built new ≡ bodies_built old ++ group ∷ [])
EndsAs _ node group outer old new = ⊥

-- the innermost of what was begun ends, as the group of its members
pub record EndsNode {V : Type 0} (look : V → Leaf) (old new : Building V) : Type 0 where
  pub outer : List (Begun V)
  pub last : Begun V
  pub was : begun_of old ≡ outer ++ last ∷ []
  pub group : GroupOf V
  pub is : IsGroupOf look last.node.now last.members.items group
  pub ends : EndsAs last.node.now.kind last.node.now group outer old new

-- a pane stands in another group, a window or dialog in none, and nothing else is a group
abbrev pub IsWrongPlace : {V : Type 0} → Kind → List (Begun V) → Type 0
IsWrongPlace (kinds.Pane pane) outer = outer ≡ []
IsWrongPlace (kinds.Window head) outer = outer ≢ []
IsWrongPlace (kinds.Dialog head) outer = outer ≢ []
IsWrongPlace _ outer = Unit {0}

-- the innermost can't end: it would be the outermost of nine groups in one another, or it stands in the wrong
-- place
pub record CannotEnd {V : Type 0} (begun : List (Begun V)) : Type 0 where
  pub outer : List (Begun V)
  pub last : Begun V
  pub was : begun ≡ outer ++ last ∷ []
  pub why : (8 ≤ members_level last.members.items) ⊎ IsWrongPlace last.node.now.kind outer

-- no end is due
abbrev pub IsMisplaced : {V : Type 0} → List (Begun V) → Type 0
IsMisplaced begun = (begun ≡ []) ⊎ CannotEnd begun
