-- What the marks of a dialog's clusters show, enable and leave free to focus.
use Rattle.std.specs.Prelude.{[], ℕ, Bool, true, false, not, ◌&&◌, ◌||◌, List, ◌∷◌, find, Option, Some, None}
use Rattle.std.specs.Prelude.{◌==◌, nat_lt}
use Rattle.std.specs.List.{list_any, list_all}
use Rattle.tv_model.specs.declared.node.Id.{Id}
use Rattle.tv_model.specs.declared.node.Node.{Node}
use Rattle.tv_model.specs.declared.kind.Kind.{Kind}
use Rattle.tv_model.specs.declared.command.CommandSpec.{CommandSpec}
use Rattle.tv_model.specs.Kinds.Cluster.{is_marked}
use Rattle.tv_model.specs.declared.desc.Dialog.{Dialog}
use Rattle.tv_model.specs.declared.desc.Rule.{Rule}
use Rattle.tv_model.specs.declared.desc.Effect.{Effect}
use Rattle.tv_model.specs.declared.desc.Effect.TheVariants as effects
use Rattle.tv_model.specs.Description.Names.{meant}
use Rattle.tv_model.specs.Description.Nodes.{is_control}
use Rattle.tv_model.specs.Description.Rules.{is_one_of}
use Rattle.tv_model.specs.Description.Numbers.{natural}
use Rattle.tv_model.specs.Description.Commands.{command_number, command_of}
use Rattle.tv_machine.specs.State.{LeafState}
use Rattle.tv_model.specs.Controls.Private.{Plain}
use Rattle.tv_model.specs.Controls.Contents.{Content}
use Rattle.tv_machine.specs.Leaves.{PlacedNode}

-- ---- what leaves hold

-- the state of the leaf of an id
abbrev pub state_of : List LeafState → Id → Option LeafState
state_of leaves i = find (λ leaf. leaf.id.0 == i.0) leaves

-- whether the id is among these
abbrev pub is_among : List Id → Id → Bool
is_among ids i = list_any (λ other. other.0 == i.0) ids

-- what a leaf holds by its state, and whether typing overwrites in it
abbrev pub content_by : Bool → Option LeafState → Content
content_by overwrites None = record { value = None; private = Plain; overwrites = overwrites }
content_by overwrites (Some leaf) = record {
  value = leaf.value;
  private = leaf.private;
  overwrites = overwrites;
}

-- what the leaf of an id holds, where typing overwrites in these inputs
abbrev pub content_held : List LeafState → List Id → Id → Content
content_held leaves overwriting i = content_by (is_among overwriting i) (state_of leaves i)

-- ---- rules

-- whether the cluster has the item marked, hidden or not
abbrev pub is_marked_at : List LeafState → ℕ → Option Node → Bool
is_marked_at leaves item None = false
is_marked_at leaves item (Some cluster) = is_marked (content_held leaves [] cluster.id).value item

-- a rule holds where its cluster has its item marked. Items count from 1
abbrev pub holds : Dialog → List LeafState → Rule → Bool
holds d leaves rule =
    nat_lt 0 (natural rule.item) && is_marked_at leaves (natural rule.item) (meant d.views rule.cluster)

-- a show rule over the leaf or a pane around it
abbrev pub shows : List Node → PlacedNode → Effect → Bool
shows views leaf (effects.Show name) = is_one_of (leaf.node ∷ leaf.panes) (meant views name)
shows views leaf (effects.Enable command) = false

-- visible: every show rule over it and over the panes around it holds
abbrev pub is_visible : Dialog → List LeafState → PlacedNode → Bool
is_visible d leaves leaf =
    list_all (λ rule. not (shows d.views leaf rule.effect) || holds d leaves rule) d.rules

-- an enable rule on the command
abbrev pub enables : ℕ → Effect → Bool
enables number (effects.Show name) = false
enables number (effects.Enable command) = command_number command == number

-- a command is enabled where every enable rule on it holds
abbrev pub is_command_enabled : Dialog → List LeafState → ℕ → Bool
is_command_enabled d leaves number =
    list_all (λ rule. not (enables number rule.effect) || holds d leaves rule) d.rules

-- enabled while its command is, and always without one
abbrev pub is_enabled_by : Dialog → List LeafState → Option CommandSpec → Bool
is_enabled_by d leaves None = true
is_enabled_by d leaves (Some command) = is_command_enabled d leaves (command_number command)

-- a button is enabled while its command is, and every other leaf always
abbrev pub is_kind_enabled : Dialog → List LeafState → Kind → Bool
is_kind_enabled d leaves kind = is_enabled_by d leaves (command_of kind)

-- a button whose command is disabled is not enabled
abbrev pub is_enabled : Dialog → List LeafState → Node → Bool
is_enabled d leaves node = is_kind_enabled d leaves node.kind

-- free to focus: a control that is visible and enabled
abbrev pub is_free : Dialog → List LeafState → PlacedNode → Bool
is_free d leaves leaf =
    is_control leaf.node.kind && (is_visible d leaves leaf && is_enabled d leaves leaf.node)
