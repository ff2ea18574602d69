-- Clusters and lists as leaves, and what keys do to a cluster.
use Rattle.std.specs.Prelude.{ℕ, Bool, true, false, Some}
use Rattle.tv_choices.specs.declared.cluster.ClusterKey.{ClusterKey as SeenKey}
use Rattle.tv_choices.specs.declared.cluster.ClusterKey.TheVariants as seen
use Rattle.tv_choices.specs.declared.chosen.Chosen.{Chosen as SeenChosen}
use Rattle.tv_view.specs.Core.{Core, leaf_with}
use Rattle.tv_model.specs.Controls.Private.{Plain, Scrolled, Selecting}
use Rattle.tv_model.specs.Kinds.Cluster.{ClusterKey, Passed, Presses, Selects}
use Rattle.tv_model.specs.Kinds.ListBox.{Chosen}
use Rattle.tv_view.specs.Meaning.{Leaf}
use Rattle.tv_model.specs.declared.kind.Kind.{Kind}
use Rattle.tv_model.specs.declared.kind.Kind.TheVariants as kinds
use Rattle.tv_model.specs.declared.record.Value.TheVariants as values

-- whether a node of the kind is a cluster of radio buttons
abbrev pub is_radio_kind : Kind → Bool
is_radio_kind (kinds.RadioButtons radios) = true
is_radio_kind _ = false

-- radio buttons of which this item is marked
abbrev pub radios_leaf : Core → ℕ → Leaf
radios_leaf core marked =
    leaf_with core (record { value = Some (values.Item marked); private = Plain; overwrites = false })

-- whether a node of the kind is a cluster of check boxes
abbrev pub is_boxes : Kind → Bool
is_boxes (kinds.CheckBoxes boxes) = true
is_boxes _ = false

-- check boxes with these marks, of which this item is selected
abbrev pub boxes_leaf : Core → (marks selected : ℕ) → Leaf
boxes_leaf core marks selected =
    leaf_with core
    (record { value = Some (values.Marks marks); private = Selecting selected; overwrites = false })

-- what a key does, as the cluster's table has it
abbrev pub cluster_key_of : SeenKey → ClusterKey
cluster_key_of seen.Passed = Passed
cluster_key_of (seen.Selects item) = Selects item
cluster_key_of (seen.Presses item) = Presses item

-- the item that a key selects or presses, 0 for none
abbrev pub key_item : SeenKey → ℕ
key_item seen.Passed = 0
key_item (seen.Selects item) = item
key_item (seen.Presses item) = item

-- whether a node of the kind is a list
abbrev pub is_list : Kind → Bool
is_list (kinds.List list) = true
is_list _ = false

-- what a list has chosen and shows
abbrev pub choice_of : SeenChosen → Chosen
choice_of chosen = record { item = chosen.item; top = chosen.top }

-- the list that has this chosen
abbrev pub list_leaf : Core → SeenChosen → Leaf
list_leaf core chosen =
    leaf_with core
    (record { value = Some (values.Item chosen.item); private = Scrolled chosen.top; overwrites = false })
