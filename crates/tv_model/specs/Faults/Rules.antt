-- Faults of rules: F7, F8 and F9.
use Rattle.std.specs.Prelude.{[], Bool, false, not, ◌&&◌, ◌||◌, List, find, Option, Some, None}
use Rattle.std.specs.List.{list_any}
use Rattle.tv_model.specs.declared.node.Node.{Node}
use Rattle.tv_model.specs.declared.desc.Dialog.{Dialog}
use Rattle.tv_model.specs.declared.desc.Rule.{Rule}
use Rattle.tv_model.specs.declared.desc.Effect.{Effect}
use Rattle.tv_model.specs.declared.desc.Effect.TheVariants as effects
use Rattle.tv_model.specs.Description.Nodes.{is_control, is_cluster}
use Rattle.tv_model.specs.Faults.Lines.{after_seen}
use Rattle.tv_model.specs.Description.Names.{gives_name, meant}
use Rattle.tv_model.specs.Description.Rules.{cluster_items, is_item, has_target, option_stands_over, reaches}

-- ---- what a rule names

-- F7: a rule whose shown name isn't a control or pane of the dialog, or whose cluster or item there isn't
abbrev pub names_unknown : List Node → Rule → Bool
names_unknown views rule =
    not (has_target views rule.effect) || not (is_item rule.item (cluster_items (meant views rule.cluster)))

-- ---- what a rule stands over

-- what the rule shows is its own cluster or a pane around it
abbrev pub shows_cluster : List Node → Rule → List Node → Node → Bool
shows_cluster views rule before cluster = shown rule.effect
  where
    shown : Effect → Bool
    shown (effects.Show name) =
        is_cluster cluster.kind && option_stands_over (meant views name) before cluster
    shown (effects.Enable command) = false

-- F8: a show rule whose target is its own cluster or a pane around it
abbrev pub shows_itself : List Node → Rule → Bool
shows_itself views rule = at (find (λ pair. gives_name rule.cluster pair.1) (after_seen [] views))
  where
    at : Option (List Node × Node) → Bool
    at None = false
    at (Some pair) = shows_cluster views rule pair.0 pair.1

-- a control that no rule reaches
abbrev pub is_always_free : Dialog → List Node → Node → Bool
is_always_free dialog before node =
    is_control node.kind && not (list_any (λ rule. reaches dialog.views before node rule.effect) dialog.rules)

-- F9: a dialog without a button, input, cluster or list that no rule reaches
abbrev pub has_nothing_to_focus : Dialog → Bool
has_nothing_to_focus dialog =
    not (list_any (λ pair. is_always_free dialog pair.0 pair.1) (after_seen [] dialog.views))
