-- Rules over something that isn't there, over their own clusters, and over every control: F7 to F9.
use Rattle.std.specs.Prelude.{ℕ, List, [], ◌∷◌, Option, Some, None, if◌then◌else◌}
use Rattle.std.specs.Option.{option_map_or}
use Rattle.tv_model.specs.declared.node.Node.{Node}
use Rattle.tv_model.specs.declared.desc.Dialog.{Dialog}
use Rattle.tv_model.specs.declared.desc.Rule.{Rule}
use Rattle.tv_model.specs.Description.Names.{meant}
use Rattle.tv_model.specs.Description.Nodes.{is_cluster, is_control}
use Rattle.tv_model.specs.Description.Rules.{has_target, reaches}
use Rattle.tv_explain.specs.declared.why.Why.{Why}
use Rattle.tv_explain.specs.declared.why.Reason.TheVariants as reasons
use Rattle.tv_explain.specs.Whys.{because, from_line}
use Rattle.tv_explain.specs.Lines.{first_after, node_line}

-- what a rule goes by isn't there, is no cluster, or hasn't the item
abbrev pub cluster_why : Option Node → Why
cluster_why None = because reasons.UnknownCluster None
cluster_why (Some node) =
    if is_cluster node.kind
    then because reasons.UnknownItem (Some node.id.0)
    else because reasons.NoCluster (Some node.id.0)

-- F7: what a rule shows isn't there, or what it goes by
abbrev pub unknown_why : List Node → Rule → Why
unknown_why views rule =
    if has_target views rule.effect
    then cluster_why (meant views rule.cluster)
    else because reasons.UnknownTarget None

-- F8: the rule's cluster
abbrev pub shown_why : List Node → Rule → Why
shown_why views rule = from_line (node_line (meant views rule.cluster))

-- the first control of the views, with those before it
abbrev pub first_control : List Node → Option (List Node × Node)
first_control views = first_after (λ node. is_control node.kind) views

-- the first of the rules that reaches this view of these views
abbrev pub reaching_line : List Rule → List Node → List Node → Node → Option ℕ
reaching_line [] views before node = None
reaching_line (rule ∷ rules) views before node =
    if reaches views before node rule.effect then Some rule.id.0 else reaching_line rules views before node

-- F9: there is no control, or the first rule that reaches the first one
abbrev pub focus_of : List Rule → List Node → Why
focus_of rules views =
    option_map_or (λ pair. because reasons.AllReached (reaching_line rules views pair.0 pair.1))
    (first_control views) (because reasons.NoControl None)

abbrev pub focus_why : Dialog → Why
focus_why dialog = focus_of dialog.rules dialog.views
