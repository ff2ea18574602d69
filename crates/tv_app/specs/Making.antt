-- The node of a leaf, and the form in which its control is kept.
use Rattle.std.specs.Prelude.{◌≡◌, false, Result, IfOk}
use Rattle.tv_check.specs.Plan.{is_owner}
use Rattle.tv_model.specs.declared.node.Node.{Node}
use Rattle.tv_model.specs.Description.LawfulNodes.{IsLawfulNode}
use Rattle.tv_app.specs.Control.{control_leaf}
use Rattle.tv_app.specs.declared.control.Control.{Control}
use Rattle.tv_view.specs.Meaning.{Leaf}

-- the node of a control, a label or a text that sound descriptions may have
pub record IsLeafNode (node : Node) : Type 0 where
  pub lawful : IsLawfulNode node
  pub no_owner : is_owner node.kind ≡ false

-- what a control is kept as is the leaf that the control is
abbrev pub KeepsLeaves : {V E : Type 0} → (Answers : Control → Result V E → Type 0) → (V → Leaf) → Type 0
KeepsLeaves {V} {E} Answers look =
    (control : Control) (answer : Result V E) → Answers control answer
    → IfOk answer (λ view. look view ≡ control_leaf control)
