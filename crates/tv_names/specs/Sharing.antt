-- Letters that views share, found by the places of the views and by the ids that rules name.
use Rattle.std.specs.Prelude.{[], ◌≡◌, ℕ, ◌<◌, Bool, true, false, not, ◌&&◌, ◌||◌, List, ◌∷◌, All, length}
use Rattle.std.specs.Prelude.{map}
use Rattle.std.specs.Prelude.{filter, filter_map, find, take, slice_index_or, nat_eq, ◌==◌, ℤ}
use Rattle.std.specs.Prelude.{Option, Some, None, option_map}
use Rattle.std.specs.HashSet.{HashSet, contains}
use Rattle.std.specs.List.{list_any}
use Rattle.std.specs.Ordering.{int_eq}
use Rattle.tv_model.specs.declared.node.Id.{Id}
use Rattle.tv_model.specs.declared.node.Node.{Node}
use Rattle.tv_model.specs.declared.desc.Rule.{Rule}
use Rattle.tv_model.specs.declared.desc.Effect.{Effect}
use Rattle.tv_model.specs.declared.desc.Effect.TheVariants as effects
use Rattle.tv_model.specs.Description.Names.{meant}
use Rattle.tv_model.specs.Description.Rules.{stands_over}
use Rattle.tv_model.specs.Description.Sharing.{Marker, are_apart, is_radios, is_shared, markers_of}
use Rattle.tv_names.specs.Focus.{standing}
use Rattle.tv_names.specs.declared.sharing.ShowRule.{ShowRule}
use Rattle.tv_names.specs.declared.sharing.Group.{Group}

-- views with the rules over them
pub record RuledViews : Type 0 where
  pub views : List Node
  pub rules : List Rule

-- ---- show rules by ids

-- a show rule of this item, where both of its names mean a view
abbrev pub show_rule_from : ℤ → Option Node → Option Node → Option ShowRule
show_rule_from item (Some cluster) (Some target) =
    Some (record { cluster = cluster.id; target = target.id; item = item })
show_rule_from item _ _ = None

-- what the rule says by ids, where it has the effect
abbrev pub show_rule_by : List Node → Rule → Effect → Option ShowRule
show_rule_by views rule (effects.Show name) =
    show_rule_from rule.item (meant views rule.cluster) (meant views name)
show_rule_by views rule (effects.Enable command) = None

-- what a rule says by ids; nothing where it shows nothing
abbrev pub show_rule_of : List Node → Rule → Option ShowRule
show_rule_of views rule = show_rule_by views rule rule.effect

abbrev pub show_rules_of : List Node → List Rule → List ShowRule
show_rules_of views rules = filter_map (show_rule_of views) rules

-- the rule goes by the marks of the cluster of this id
abbrev pub goes_by : Id → ShowRule → Bool
goes_by cluster rule = rule.cluster.0 == cluster.0

-- the item of the first of the rules that goes by this cluster and shows the view or a pane around it
abbrev pub item_showing : List ShowRule → Id → List Node → Node → Option ℤ
item_showing rules cluster before node =
    option_map (λ rule. rule.item)
    (find (λ rule. goes_by cluster rule && stands_over rule.target before node) rules)

-- the rule shows a view of these ids
abbrev pub is_over : List Id → ShowRule → Bool
is_over ids rule = list_any (λ i. i.0 == rule.target.0) ids

-- the item of the first of the rules that shows a view of these ids
abbrev pub first_item : List ShowRule → List Id → Option ℤ
first_item rules ids = option_map (λ rule. rule.item) (find (is_over ids) rules)

-- ---- radio buttons with their rules

-- radio buttons, and the show rules that go by them
pub record RadioRules : Type 0 where
  pub radios : Node
  pub rules : List ShowRule

abbrev pub lent_group : Group → RadioRules
lent_group group = record { radios = group.radios.now; rules = group.rules.items }

abbrev pub rules_by : List ShowRule → Node → RadioRules
rules_by rules radios = record { radios = radios; rules = filter (goes_by radios.id) rules }

-- all radio buttons among the views, in description order
abbrev pub groups_of : List Node → List ShowRule → List RadioRules
groups_of views rules = map (rules_by rules) (filter (λ view. is_radios view.kind) views)

-- ---- markers by places

-- the view at the place, with those before it
abbrev pub marker_at : List Node → Node → ℕ → Marker
marker_at views d place = record { before = take place views; node = slice_index_or views place d }

-- each place is that of a view
abbrev pub AreWithin : List Node → List ℕ → Type 0
AreWithin views places = All (λ place. place < length views) places

-- the places of the views that mark the letter
pub record AreMarkersAt (views : List Node) (letter : ℕ) (places : List ℕ) : Type 0 where
  pub within : AreWithin views places
  pub markers : (d : Node) → map (marker_at views d) places ≡ markers_of views letter

-- the items of the views at these places
abbrev pub items_at : List Node → RadioRules → Node → List ℕ → List (Option ℤ)
items_at views group d places =
    map (λ place. first_item group.rules (standing (take place views) (slice_index_or views place d))) places

-- the first of these radio buttons that have another item for each of the views at these places
abbrev pub first_separating : List Node → List RadioRules → Node → List ℕ → Option Node
first_separating views groups d places =
    option_map (λ group. group.radios) (find (λ group. are_apart (items_at views group d places)) groups)

-- ---- items that differ

-- there is an item, and it wasn't given before
abbrev pub is_new : (ℤ → Bool) → Option ℤ → Bool
is_new given None = false
is_new given (Some item) = not (given item)

-- one of the items that were given, or this one
abbrev pub or_option_item : (ℤ → Bool) → Option ℤ → ℤ → Bool
or_option_item given None other = given other
or_option_item given (Some item) other = int_eq other item || given other

-- each is there, none was given, and no two are the same
abbrev pub are_apart_from : (ℤ → Bool) → List (Option ℤ) → Bool
are_apart_from given [] = true
are_apart_from given (item ∷ items) = is_new given item && are_apart_from (or_option_item given item) items

-- ---- letters

-- of the letters that were seen, the set has those that are shared
abbrev pub AreSharedOf : {S : Type 0} → List Node → List Rule → (ℕ → Bool) → HashSet ℕ S → Type 0
AreSharedOf views rules seen shared =
    (letter : ℕ) → contains nat_eq shared letter ≡ (seen letter && is_shared views rules letter)
