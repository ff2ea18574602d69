-- What rules name and reach.
use Rattle.std.specs.Prelude.{◌≡◌, ℕ, ◌⊎◌, List, [], ◌∷◌, length, find, All, Any, Option, Some, ℤ, IsTrue}
use Rattle.tv_model.specs.declared.node.Node.{Node}
use Rattle.tv_model.specs.declared.kind.Kind.{Kind}
use Rattle.tv_model.specs.declared.kind.Kind.TheVariants as kinds
use Rattle.tv_model.specs.declared.command.CommandSpec.{CommandSpec}
use Rattle.tv_model.specs.declared.desc.Desc.{Desc}
use Rattle.tv_model.specs.declared.desc.Dialog.{Dialog}
use Rattle.tv_model.specs.declared.desc.Rule.{Rule}
use Rattle.tv_model.specs.declared.desc.Effect.{Effect}
use Rattle.tv_model.specs.declared.desc.Effect.TheVariants as effects
use Rattle.tv_model.specs.Faults.Lines.{after_seen}
use Rattle.tv_model.specs.Controls.Contents.{IsItem}
use Rattle.tv_model.specs.Description.Names.{gives_name, meant}
use Rattle.tv_model.specs.Description.Nodes.{is_cluster, is_control, is_pane}
use Rattle.tv_model.specs.Description.Panes.{panes_around}
use Rattle.tv_faults.specs.Sound.Names.{Means}

-- ---- what rules name

-- check boxes or radio buttons that have the item
abbrev pub HasItem : ℤ → Kind → Type 0
HasItem n (kinds.CheckBoxes boxes) = IsItem n (length boxes.items)
HasItem n (kinds.RadioButtons radios) = IsItem n (length radios.items)
HasItem n _ = ⊥

-- what the rule shows, where it shows something, is a control or a pane
abbrev pub HasTarget : List Node → Effect → Type 0
HasTarget views (effects.Show name) =
    Means views name (λ node. IsTrue (is_control node.kind) ⊎ IsTrue (is_pane node.kind))
HasTarget views (effects.Enable command) = Unit {0}

-- the target is there, and so are the cluster and its item
pub record NamesThings (views : List Node) (rule : Rule) : Type 0 where
  pub target : HasTarget views rule.effect
  pub item : Means views rule.cluster (λ node. HasItem rule.item node.kind)

-- so it is of all rules
abbrev pub RulesNameThings : Desc → Type 0
RulesNameThings d = All (λ dialog. All (NamesThings dialog.views) dialog.rules) d.dialogs

-- ---- what rules reach

-- the target is the view itself or a pane around it
abbrev pub StandsOver : Node → List Node → Node → Type 0
StandsOver target before node = Any (λ other. other.id.0 ≡ target.id.0) (node ∷ panes_around before node)

-- what the name means, with the views before it
abbrev pub meant_after : List Node → List ℕ → Option (List Node × Node)
meant_after views name = find (λ pair. gives_name name pair.1) (after_seen [] views)

-- what the rule shows is neither its own cluster nor a pane around it
abbrev pub ShowsOther : List Node → Rule → Type 0
ShowsOther views rule =
    (name : List ℕ) (target : Node) (before : List Node) (cluster : Node) → rule.effect ≡ effects.Show name
    → meant views name ≡ Some target
    → meant_after views rule.cluster ≡ Some (before, cluster) → IsTrue (is_cluster cluster.kind)
    → StandsOver target before cluster → ⊥

-- so it is of all rules
abbrev pub RulesShowOthers : Desc → Type 0
RulesShowOthers d = All (λ dialog. All (ShowsOther dialog.views) dialog.rules) d.dialogs

-- a button that gives the command
abbrev pub IsButtonOf : CommandSpec → Kind → Type 0
IsButtonOf command (kinds.Button button) = button.command ≡ command
IsButtonOf command _ = ⊥

-- a show rule reaches what its target stands over, an enable rule the buttons of its command
abbrev pub Reaches : List Node → List Node → Node → Effect → Type 0
Reaches views before node (effects.Show name) = Means views name (λ target. StandsOver target before node)
Reaches views before node (effects.Enable command) = IsButtonOf command node.kind

-- a control that no rule reaches
abbrev pub HasFreeControl : Dialog → Type 0
HasFreeControl dialog =
    Any (λ pair.
    IsTrue (is_control pair.1.kind)
    × All (λ rule. Reaches dialog.views pair.0 pair.1 rule.effect → ⊥) dialog.rules)
    (after_seen [] dialog.views)

-- each dialog has one
abbrev pub HaveFreeControls : Desc → Type 0
HaveFreeControls d = All HasFreeControl d.dialogs
