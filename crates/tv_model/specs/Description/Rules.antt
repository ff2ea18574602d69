-- What a rule names, and what it stands over.
use Rattle.std.specs.Prelude.{ℕ, Bool, true, false, ◌&&◌, ◌||◌, List, ◌∷◌, length, Option, Some, None, ℤ}
use Rattle.std.specs.Prelude.{pos, int_le}
use Rattle.std.specs.List.{list_any}
use Rattle.tv_model.specs.declared.node.Id.{Id}
use Rattle.tv_model.specs.declared.node.Node.{Node}
use Rattle.tv_model.specs.declared.kind.Kind.{Kind}
use Rattle.tv_model.specs.declared.kind.Kind.TheVariants as kinds
use Rattle.tv_model.specs.declared.desc.Effect.{Effect}
use Rattle.tv_model.specs.declared.desc.Effect.TheVariants as effects
use Rattle.tv_model.specs.Description.Nodes.{has_id, is_control, is_pane}
use Rattle.tv_model.specs.Description.Names.{meant}
use Rattle.tv_model.specs.Description.Panes.{panes_around}
use Rattle.tv_model.specs.Description.Commands.{is_button_of}

-- the items of check boxes or radio buttons; nothing else has any
abbrev pub cluster_items : Option Node → ℕ
cluster_items None = 0
cluster_items (Some node) = counted node.kind
  where
    counted : Kind → ℕ
    counted (kinds.CheckBoxes boxes) = length boxes.items
    counted (kinds.RadioButtons radios) = length radios.items
    counted _ = 0

-- whether there is an item of the number, counted from 1
abbrev pub is_item : ℤ → ℕ → Bool
is_item n count = int_le (pos 1) n && int_le n (pos count)

-- whether it is a control or a pane
abbrev pub is_target : Option Node → Bool
is_target None = false
is_target (Some node) = is_control node.kind || is_pane node.kind

-- the rule's shown name is a control or a pane, where it shows one
abbrev pub has_target : List Node → Effect → Bool
has_target views (effects.Show name) = is_target (meant views name)
has_target views (effects.Enable command) = true

-- whether it is one of these views
abbrev pub is_one_of : List Node → Option Node → Bool
is_one_of views None = false
is_one_of views (Some target) = list_any (has_id target.id) views

-- the view of this id is the view itself or a pane around it
abbrev pub stands_over : Id → List Node → Node → Bool
stands_over i before node = list_any (has_id i) (node ∷ panes_around before node)

-- whether it is the view or a pane around it
abbrev pub option_stands_over : Option Node → List Node → Node → Bool
option_stands_over target before node = is_one_of (node ∷ panes_around before node) target

-- a show rule reaches what its target stands over, an enable rule the buttons of its command
abbrev pub reaches : List Node → List Node → Node → Effect → Bool
reaches views before node (effects.Show name) = option_stands_over (meant views name) before node
reaches views before node (effects.Enable command) = is_button_of command node.kind
