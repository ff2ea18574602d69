-- Which rules show each leaf of a dialog and ask for its marks, as masks.
use Rattle.std.specs.Prelude.{◌≡◌, ◌↔◌, ◌⊎◌, ℕ, Bool, false, true, ◌&&◌, List, ◌∷◌, map, nat_lt, slice_get, Some, All, Any}
use Rattle.std.specs.List.{AllZip, list_any}
use Rattle.tv_model.specs.declared.desc.Rule.{Rule}
use Rattle.tv_model.specs.declared.node.Id.{Id}
use Rattle.tv_model.specs.declared.node.Node.{Node}
use Rattle.tv_model.specs.Description.Names.{meant}
use Rattle.tv_model.specs.Description.Nodes.{has_id}
use Rattle.tv_model.specs.Description.Numbers.{natural}
use Rattle.tv_model.specs.Kinds.Cluster.{is_marked}
use Rattle.tv_machine.specs.Controls.Declared.{declared_value}
use Rattle.tv_machine.specs.Leaves.{PlacedNode, leaf_list}
use Rattle.tv_machine.specs.Dialog.Rules.{shows}
use Rattle.tv_reach.specs.declared.mask.Mask.{Mask}
use Rattle.tv_reach.specs.declared.shown.Placed.{Placed}
use Rattle.tv_reach.specs.declared.shown.ShownLeaf.{ShownLeaf}
use Rattle.tv_reach.specs.Marks.{is_view}
use Rattle.tv_reach.specs.Masks.{HasRule, may_hold}

-- ---- masks

-- there is a rule at the place, and it passes the test
abbrev pub Passes : (Rule → Bool) → List Rule → ℕ → Type 0
Passes test rules place = (rule : Rule) × (slice_get rules place ≡ Some rule) × (test rule ≡ true)

-- the mask has exactly the rules that pass the test
abbrev pub IsMaskOf : (Rule → Bool) → List Rule → Mask → Type 0
IsMaskOf test rules mask = (place : ℕ) → HasRule mask place ↔ Passes test rules place

-- the second mask has the rules of the first
abbrev pub IsPart : Mask → Mask → Type 0
IsPart part whole = (place : ℕ) → HasRule part place → HasRule whole place

-- the last mask has the choice, and of the first what isn't a leaf's own
abbrev pub IsMoved : Mask → Mask → Mask → Mask → Type 0
IsMoved own choice mask other =
    (place : ℕ) → HasRule choice place ⊎ (HasRule mask place × (HasRule own place → ⊥)) → HasRule other place

-- ---- leaves

-- a leaf in its panes, as the code lends it
abbrev pub placed_node : Placed → PlacedNode
placed_node leaf = record { node = leaf.node.now; panes = map (λ pane. pane.now) leaf.panes.now }

-- the view of the id is the leaf or a pane around it
abbrev pub is_around : PlacedNode → Id → Bool
is_around leaf target = list_any (has_id target) (leaf.node ∷ leaf.panes)

-- the leaf with the rules that show it or a pane around it
pub record IsShownLeaf (views : List Node) (rules : List Rule) (leaf : PlacedNode) (shown : ShownLeaf) : Type 0 where
  pub node : shown.node.now ≡ leaf.node
  pub by : IsMaskOf (λ rule. shows views leaf rule.effect) rules shown.shown_by

-- the leaves among the views, in order
abbrev pub AreShownLeaves : List Node → List Rule → List ShownLeaf → Type 0
AreShownLeaves views rules shown = AllZip (IsShownLeaf views rules) (leaf_list views) shown

-- ---- clusters

-- the rule asks for a mark of the view
abbrev pub is_own_in : List Node → Node → Rule → Bool
is_own_in views node rule = is_view node.id (meant views rule.cluster)

-- as the view is declared it has the item marked that the rule asks for
abbrev pub starts_in : List Node → Node → Rule → Bool
starts_in views node rule =
    is_own_in views node rule
    && (nat_lt 0 (natural rule.item) && is_marked (declared_value node.kind) (natural rule.item))

-- the mask has the rules that hold as the view is declared
abbrev pub HasStarting : List Node → List Rule → Mask → Node → Type 0
HasStarting views rules mask node = (place : ℕ) → Passes (starts_in views node) rules place → HasRule mask place

-- the mask has each rule that holds as one of the leaves is declared
abbrev pub HasStart : List Node → List Rule → List ShownLeaf → Mask → Type 0
HasStart views rules leaves mask =
    (place : ℕ) → Any (λ leaf. Passes (starts_in views leaf.node.now) rules place) leaves → HasRule mask place

-- where the item of the view is chosen by the one mask, what may hold then is in the other
abbrev pub LeadsIn : List Node → List Rule → Node → ℕ → Mask → Mask → Type 0
LeadsIn views rules node item mask other =
    (place : ℕ) (rule : Rule) → slice_get rules place ≡ Some rule
    → ((is_own_in views node rule ≡ true) × (may_hold node.kind item rule ≡ true))
    ⊎ ((is_own_in views node rule ≡ false) × HasRule mask place)
    → HasRule other place

-- each choice of the leaf that the rule asks for leads from a mask that shows it to one of them
abbrev pub IsRuleFollowed : List Node → List Rule → List Mask → ShownLeaf → Rule → Type 0
IsRuleFollowed views rules masks shown rule =
    is_own_in views shown.node.now rule ≡ true
    → All (λ mask. IsPart shown.shown_by mask → Any (LeadsIn views rules shown.node.now (natural rule.item) mask) masks) masks

-- so does each choice
abbrev pub IsLeafFollowed : List Node → List Rule → List Mask → ShownLeaf → Type 0
IsLeafFollowed views rules masks shown =
    All (λ mask. IsPart shown.shown_by mask → (item : ℕ) → Any (LeadsIn views rules shown.node.now item mask) masks) masks

-- one of the masks has the rules that hold as the leaves are declared, and each choice of a leaf leads to one
pub record AreClosed (views : List Node) (rules : List Rule) (masks : List Mask) (leaves : List ShownLeaf) : Type 0 where
  pub start : Mask
  pub has : All (λ leaf. HasStarting views rules start leaf.node.now) leaves
  pub starts : Any (IsPart start) masks
  pub leads : All (IsLeafFollowed views rules masks) leaves
