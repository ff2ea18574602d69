-- Names, and what they mean.
use Rattle.std.specs.Prelude.{◌≡◌, ℕ, List, ◌++◌, map, All, AllPairs, Some, IsTrue}
use Rattle.tv_model.specs.declared.node.Node.{Node}
use Rattle.tv_model.specs.declared.kind.Kind.{Kind}
use Rattle.tv_model.specs.declared.kind.Kind.TheVariants as kinds
use Rattle.tv_model.specs.declared.desc.Desc.{Desc}
use Rattle.tv_model.specs.Description.Names.{meant}
use Rattle.tv_model.specs.Description.Nodes.{is_control, name_of}
use Rattle.tv_faults.specs.Sound.Bodies.{EachBody}

-- the declaration gives the name
abbrev pub HasName : Node → List ℕ → Type 0
HasName node name = name_of node.kind ≡ Some name

-- no name is that of both
abbrev pub HaveOtherNames : Node → Node → Type 0
HaveOtherNames one other = (name : List ℕ) → HasName one name → HasName other name → ⊥

-- the windows and dialogs themselves
abbrev pub frames_of : Desc → List Node
frames_of d = map (λ window. window.node) d.windows ++ map (λ dialog. dialog.node) d.dialogs

-- windows and dialogs have one set of names, the controls and panes of each have another
pub record HaveOwnNames (d : Desc) : Type 0 where
  pub frames : AllPairs HaveOtherNames (frames_of d)
  pub views : EachBody d (λ body. AllPairs HaveOtherNames body.views)

-- some view has the name, and this holds of the first that has it
abbrev pub Means : List Node → List ℕ → (Node → Type 0) → Type 0
Means views name P = (node : Node) × (meant views name ≡ Some node) × P node

-- a label names a control
abbrev pub IsLinked : List Node → Kind → Type 0
IsLinked views (kinds.Label label) = Means views label.link (λ node. IsTrue (is_control node.kind))
IsLinked views _ = Unit {0}

-- each label of a window or dialog names a control of it
abbrev pub AreLabelsLinked : Desc → Type 0
AreLabelsLinked d = EachBody d (λ body. All (λ view. IsLinked body.views view.kind) body.views)
