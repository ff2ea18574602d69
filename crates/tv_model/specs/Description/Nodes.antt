-- What nodes have by their kind, and how they are found.
use Rattle.std.specs.Prelude.{ℕ, Bool, true, false, List, Option, Some, None, ℤ, ◌==◌, ◌<◌, find}
use Rattle.std.specs.List.{AllPairs}
use Rattle.tv_model.specs.declared.node.Id.{Id}
use Rattle.tv_model.specs.declared.node.Node.{Node}
use Rattle.tv_model.specs.declared.kind.Kind.{Kind}
use Rattle.tv_model.specs.declared.kind.Kind.TheVariants as kinds
use Rattle.tv_model.specs.Kinds.{behaviour}

-- the name that a declaration gives
abbrev pub name_of : Kind → Option (List ℕ)
name_of kind = (behaviour kind).name

-- its rows: those declared, else one a row of a cluster's items, else one
abbrev pub height_of : Kind → ℤ
height_of kind = (behaviour kind).rows

-- a button, an input, a cluster or a list
abbrev pub is_control : Kind → Bool
is_control kind = (behaviour kind).is_control

-- whether a node of the kind is a button
abbrev pub is_button : Kind → Bool
is_button (kinds.Button button) = true
is_button _ = false

-- whether a node of the kind is a pane
abbrev pub is_pane : Kind → Bool
is_pane (kinds.Pane pane) = true
is_pane _ = false

-- whether a node of the kind is a window
abbrev pub is_window : Kind → Bool
is_window (kinds.Window head) = true
is_window _ = false

-- whether a node of the kind is a dialog
abbrev pub is_dialog : Kind → Bool
is_dialog (kinds.Dialog head) = true
is_dialog _ = false

-- whether it is the node of the id
abbrev pub has_id : Id → Node → Bool
has_id i node = node.id.0 == i.0

-- the node of an id
abbrev pub node_of : List Node → Id → Option Node
node_of nodes i = find (has_id i) nodes

-- check boxes or radio buttons
abbrev pub is_cluster : Kind → Bool
is_cluster (kinds.CheckBoxes boxes) = true
is_cluster (kinds.RadioButtons radios) = true
is_cluster _ = false

-- whether it is a button
abbrev pub is_button_node : Option Node → Bool
is_button_node None = false
is_button_node (Some node) = is_button node.kind

-- a button that is declared to be the default
abbrev pub is_default : Node → Bool
is_default node = (behaviour node.kind).is_default

-- each view has a later line than those before it
abbrev pub AreRising : List Node → Type 0
AreRising views = AllPairs (λ node later. node.id.0 < later.id.0) views
