-- What a dialog keeps of its description beside its own line: ids and numbers, and no texts.
use Rattle.std.specs.Prelude.{ℕ, Bool, false, List, ◌∷◌, length, map, filter, filter_map, find, nat_lt}
use Rattle.std.specs.Prelude.{not, ◌&&◌, ◌==◌, Option, Some, None, option_map}
use Rattle.std.specs.List.{list_all, list_any}
use Rattle.tv_model.specs.declared.node.Id.{Id}
use Rattle.tv_model.specs.declared.node.Node.{Node}
use Rattle.tv_model.specs.declared.desc.Rule.{Rule}
use Rattle.tv_model.specs.declared.desc.Effect.{Effect}
use Rattle.tv_model.specs.declared.desc.Effect.TheVariants as effects
use Rattle.tv_model.specs.declared.record.Value.{Value}
use Rattle.tv_model.specs.Description.Names.{meant}
use Rattle.tv_model.specs.Description.Nodes.{has_id, is_button, is_default}
use Rattle.tv_model.specs.Description.Numbers.{natural}
use Rattle.tv_model.specs.Description.Commands.{command_number}
use Rattle.tv_model.specs.Log.Record.{Entries, value_of}
use Rattle.tv_machine.specs.Leaves.{PlacedNode, leaf_list}
use Rattle.tv_model.specs.Kinds.Cluster.{is_marked}
use Rattle.tv_dialog.specs.declared.condition.Condition.{Condition}
use Rattle.tv_dialog.specs.declared.plan.Gate.{Gate}
use Rattle.tv_dialog.specs.declared.plan.LeafPlan.{LeafPlan}
use Rattle.tv_dialog.specs.declared.plan.Plan.{Plan}
use Rattle.tv_dialog.specs.declared.plan.Showing.{Showing}

-- ---- what a description is kept as

-- the id of what a name means
abbrev pub meant_id : List Node → List ℕ → Option Id
meant_id views name = option_map (λ node. node.id) (meant views name)

-- the cluster of a rule, if the description has it, and its item
abbrev pub condition_of : List Node → Rule → Condition
condition_of views rule = record {
  cluster = meant_id views rule.cluster;
  item = natural rule.item;
}

-- what a rule shows on this condition, if it shows something that there is
abbrev pub showing_by : List Node → Condition → Effect → Option Showing
showing_by views condition (effects.Show name) =
    option_map (λ target. record { target = target; condition = condition }) (meant_id views name)
showing_by views condition (effects.Enable command) = None

abbrev pub showing_of : List Node → Rule → Option Showing
showing_of views rule = showing_by views (condition_of views rule) rule.effect

-- it is the leaf or stands around it
abbrev pub is_around : PlacedNode → Id → Bool
is_around leaf target = list_any (has_id target) (leaf.node ∷ leaf.panes)

-- the conditions on which these show the leaf
abbrev pub conditions_among : PlacedNode → List Showing → List Condition
conditions_among leaf showings =
    map (λ showing. showing.condition) (filter (λ showing. is_around leaf showing.target) showings)

-- the conditions on which rules show the leaf
abbrev pub conditions_of : List Node → List Rule → PlacedNode → List Condition
conditions_of views rules leaf = conditions_among leaf (filter_map (showing_of views) rules)

abbrev pub leaf_plan : List Node → List Rule → PlacedNode → LeafPlan
leaf_plan views rules leaf = record {
  id = leaf.node.id;
  is_button = is_button leaf.node.kind;
  shown_when = conditions_of views rules leaf;
}

-- the command that a rule enables, if it does
abbrev pub gate_by : Condition → Effect → Option Gate
gate_by condition (effects.Show name) = None
gate_by condition (effects.Enable command) =
    Some (record { number = command_number command; condition = condition })

abbrev pub gate_of : List Node → Rule → Option Gate
gate_of views rule = gate_by (condition_of views rule) rule.effect

-- the declared default button, hidden or not
abbrev pub default_of : List Node → Option Id
default_of views = option_map (λ leaf. leaf.node.id) (find (λ leaf. is_default leaf.node) (leaf_list views))

-- there are rules
abbrev pub has_rules : List Rule → Bool
has_rules rules = not (length rules == 0)

abbrev pub plan_of : List Node → List Rule → Plan
plan_of views rules = record {
  leaves = map (leaf_plan views rules) (leaf_list views);
  gates = filter_map (gate_of views) rules;
  default_button = default_of views;
  has_rules = has_rules rules;
}

-- a button, if there is a leaf
abbrev pub is_button_plan : Option LeafPlan → Bool
is_button_plan None = false
is_button_plan (Some leaf) = leaf.is_button

-- the first of the leaves that has the id is a button
abbrev pub has_button_at : List LeafPlan → Id → Bool
has_button_at leaves id = is_button_plan (find (λ leaf. leaf.id.0 == id.0) leaves)

-- ---- the rules at work

-- the value that a record has for a cluster, if the description has the cluster
abbrev pub value_at : Entries → Option Id → Option Value
value_at marks None = None
value_at marks (Some cluster) = value_of marks cluster.0

-- there is the item, and it is marked
abbrev pub is_met : Entries → Condition → Bool
is_met marks condition =
    nat_lt 0 condition.item && is_marked (value_at marks condition.cluster) condition.item

-- all that it depends on is marked
abbrev pub is_shown_by : Entries → LeafPlan → Bool
is_shown_by marks leaf = list_all (is_met marks) leaf.shown_when

-- those of the leaves that are shown
abbrev pub shown_among : Entries → List LeafPlan → List Id
shown_among marks leaves = map (λ leaf. leaf.id) (filter (is_shown_by marks) leaves)

-- the leaves that are shown, in description order
abbrev pub shown_by : Plan → Entries → List Id
shown_by plan marks = shown_among marks plan.leaves

-- the gate keeps the command disabled
abbrev pub blocks : Entries → ℕ → Gate → Bool
blocks marks number gate = (gate.number == number) && not (is_met marks gate.condition)

-- none of the gates does
abbrev pub passes_all : Entries → ℕ → List Gate → Bool
passes_all marks number gates = list_all (λ gate. not (blocks marks number gate)) gates

abbrev pub is_enabled_in_plan : Plan → Entries → ℕ → Bool
is_enabled_in_plan plan marks number = passes_all marks number plan.gates
