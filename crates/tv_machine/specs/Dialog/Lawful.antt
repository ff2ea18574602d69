-- What a dialog has where its description can be spelled and is sound: no more is asked of it here.
use Rattle.std.specs.Prelude.{◌≡◌, ◌≢◌, ◌≤◌, ℕ, List, [], ◌∷◌, length, All, Any, Some, IsSome, IsTrue}
use Rattle.std.specs.Prelude.{is_some}
use Rattle.std.specs.List.{AllPairs}
use Rattle.tv_model.specs.declared.node.Node.{Node}
use Rattle.tv_model.specs.declared.desc.Dialog.{Dialog}
use Rattle.tv_model.specs.declared.desc.Rule.{Rule}
use Rattle.tv_model.specs.declared.desc.Effect.{Effect}
use Rattle.tv_model.specs.declared.desc.Effect.TheVariants as effects
use Rattle.tv_model.specs.Description.LawfulNodes.{IsLimited, IsLawfulCommand}
use Rattle.tv_model.specs.Description.Names.{meant}
use Rattle.tv_model.specs.Description.Nodes.{AreRising, is_cluster, is_default}
use Rattle.tv_model.specs.Description.Owners.{owner_by}
use Rattle.tv_model.specs.Description.Rectangles.{interior, is_within, place_of_node, whole_area}
use Rattle.tv_model.specs.Description.Numbers.{natural}
use Rattle.tv_model.specs.Description.Sharing.{is_radios}
use Rattle.tv_machine.specs.State.{LeafState}
use Rattle.tv_machine.specs.Leaves.{PlacedNode, leaf_list}
use Rattle.tv_machine.specs.Dialog.Focus.{first_free, stops_of}
use Rattle.tv_machine.specs.Dialog.Rules.{shows}

-- the view marks the letter
abbrev pub Marks : ℕ → Node → Type 0
Marks letter view = IsTrue (is_some (owner_by letter view.kind))

-- a view lies in the innermost pane around it, and that in the next one, up to the inside of the dialog's
-- frame
abbrev pub LiesIn : Node → Node → List Node → Type 0
LiesIn owner view [] = IsTrue (is_within (place_of_node view) (interior owner))
LiesIn owner view (pane ∷ panes) =
    IsTrue (is_within (place_of_node view) (whole_area pane)) × LiesIn owner pane panes

-- the same for a leaf
abbrev pub LiesInside : Node → PlacedNode → Type 0
LiesInside owner leaf = LiesIn owner leaf.node leaf.panes

-- what the rule names is a cluster
abbrev pub NamesCluster : List Node → Rule → Type 0
NamesCluster views rule = (node : Node) → meant views rule.cluster ≡ Some node → IsTrue (is_cluster node.kind)

-- the rule shows the leaf, or a pane around it, while this item of the radio buttons is marked
pub record ShowsBy (d : Dialog) (radios : Node) (item : ℕ) (leaf : PlacedNode) (rule : Rule) : Type 0 where
  pub showing : IsTrue (shows d.views leaf rule.effect)
  pub cluster : meant d.views rule.cluster ≡ Some radios
  pub marked : natural rule.item ≡ item

-- rules show the two leaves by different items of the same radio buttons
pub record AreShownApart (d : Dialog) (leaf other : PlacedNode) : Type 0 where
  pub radios : Node
  pub kind : IsTrue (is_radios radios.kind)
  pub item : ℕ
  pub other_item : ℕ
  pub apart : item ≢ other_item
  pub shown : Any (ShowsBy d radios item leaf) d.rules
  pub other_shown : Any (ShowsBy d radios other_item other) d.rules

-- the command of an enable rule is one of the language
abbrev pub IsLawfulEffect : Effect → Type 0
IsLawfulEffect (effects.Show name) = Unit {0}
IsLawfulEffect (effects.Enable command) = IsLawfulCommand (Some command)

pub record IsLawfulDialog (d : Dialog) : Type 0 where
  -- each view has a later line than the dialog and the views before it
  pub rising : AreRising (d.node ∷ d.views)
  -- its numbers, and those of its views, lie within the limits
  pub limits : All IsLimited (d.node ∷ d.views)
  pub count : length d.views ≤ 64
  -- each rule goes by the marks of a cluster, and enables a command of the language
  pub rules : All (NamesCluster d.views) d.rules
  pub effects : All (λ rule. IsLawfulEffect rule.effect) d.rules
  -- no leaf sticks out of the panes around it, or over the frame
  pub places : All (LiesInside d.node) (leaf_list d.views)
  -- two leaves mark a letter only where they are shown by different items of the same radio buttons
  pub letters : (letter : ℕ)
      → AllPairs (λ leaf other. Marks letter leaf.node → Marks letter other.node → AreShownApart d leaf other)
      (leaf_list d.views)
  -- no two buttons are declared to be the default
  pub defaults : AllPairs (λ view other. IsTrue (is_default view) → IsTrue (is_default other) → ⊥) d.views
  -- whatever is marked, a control is free to focus
  pub «free» : (leaves : List LeafState) → IsSome (first_free (stops_of d leaves))
