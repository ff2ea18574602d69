-- In which order the views of a description are made.
use Rattle.std.specs.Prelude.{Bool, ◌||◌, List, ◌++◌, filter_map, flat_map, Option, Some, None, if◌then◌else◌}
use Rattle.tv_model.specs.declared.node.Node.{Node}
use Rattle.tv_model.specs.declared.kind.Kind.{Kind}
use Rattle.tv_model.specs.declared.desc.Desc.{Desc}
use Rattle.tv_model.specs.Description.LawfulNodes.{IsLawfulNode}
use Rattle.tv_model.specs.Description.Nodes.{is_dialog, is_pane, is_window}
use Rattle.tv_declarations.specs.declared.declaration.Declaration.{Declaration}
use Rattle.tv_declarations.specs.declared.declaration.Declaration.TheVariants as declared
use Rattle.tv_declarations.specs.Spelling.{dialog_declarations, window_declarations}
use Rattle.tv_check.specs.declared.plan.BuildStep.{BuildStep}
use Rattle.tv_check.specs.declared.plan.BuildStep.TheVariants as steps

-- a step: a window, dialog or pane begins or ends, or a leaf is made
pub data Planned : Type 0 where
  Opens : (node : Node) → Planned
  Makes : (node : Node) → Planned
  Closes : Planned

-- what a lent step stands for
abbrev pub lent_step : BuildStep → Planned
lent_step (steps.Open node) = Opens node.now
lent_step (steps.Leaf node) = Makes node.now
lent_step steps.Close = Closes

-- a view or a group may be made of the node that the step lends, if any
abbrev pub IsLawfulStep : BuildStep → Type 0
IsLawfulStep (steps.Open node) = IsLawfulNode node.now
IsLawfulStep (steps.Leaf node) = IsLawfulNode node.now
IsLawfulStep steps.Close = Unit {0}

-- the node that a step names
abbrev pub planned_node : Planned → Option Node
planned_node (Opens node) = Some node
planned_node (Makes node) = Some node
planned_node Closes = None

-- what has views of its own: a window, a dialog or a pane
abbrev pub is_owner : Kind → Bool
is_owner kind = is_window kind || (is_dialog kind || is_pane kind)

-- an owner begins; anything else is a leaf
abbrev pub node_step : Node → Planned
node_step node = if is_owner node.kind then Opens node else Makes node

-- the step of a declaration of a window or dialog: that of its node, or the end of what was opened last.
-- Nothing is made of a rule
abbrev pub step_of : Declaration → Option Planned
step_of (declared.Node node) = Some (node_step node)
step_of declared.End = Some Closes
step_of _ = None

abbrev pub steps_of : List Declaration → List Planned
steps_of declarations = filter_map step_of declarations

-- windows first, then dialogs, each in description order, and each from its own line to its `end`
abbrev pub build_plan_of : Desc → List Planned
build_plan_of d =
    flat_map (λ window. steps_of (window_declarations window)) d.windows
    ++ flat_map (λ dialog. steps_of (dialog_declarations dialog)) d.dialogs
