-- Names and what they mean. A name that is given twice means its first declaration.
use Rattle.std.specs.Prelude.{ℕ, Bool, false, List, find, Option, Some, None, bytes_eq}
use Rattle.tv_model.specs.declared.node.Node.{Node}
use Rattle.tv_model.specs.Description.Nodes.{name_of, is_control}

-- whether it is this name
abbrev pub is_option_named : List ℕ → Option (List ℕ) → Bool
is_option_named name None = false
is_option_named name (Some other) = bytes_eq other name

-- the declaration gives the name
abbrev pub gives_name : List ℕ → Node → Bool
gives_name name node = is_option_named name (name_of node.kind)

-- what the name means among the views
abbrev pub meant : List Node → List ℕ → Option Node
meant views name = find (gives_name name) views

-- the first gives a name, and the second gives it too
abbrev pub shares_name : Node → Node → Bool
shares_name node other = named (name_of node.kind)
  where
    named : Option (List ℕ) → Bool
    named None = false
    named (Some name) = gives_name name other

-- whether it is a control
abbrev pub is_control_option : Option Node → Bool
is_control_option None = false
is_control_option (Some node) = is_control node.kind
