-- What a rule reaches, found once for all views.
use Rattle.std.specs.Prelude.{Bool, false, List, Option, Some, None, ◌==◌}
use Rattle.std.specs.List.{list_any}
use Rattle.tv_model.specs.declared.node.Id.{Id}
use Rattle.tv_model.specs.declared.node.Node.{Node}
use Rattle.tv_model.specs.declared.kind.Kind.{Kind}
use Rattle.tv_model.specs.declared.desc.Rule.{Rule}
use Rattle.tv_model.specs.declared.desc.Effect.{Effect}
use Rattle.tv_model.specs.declared.desc.Effect.TheVariants as effects
use Rattle.tv_model.specs.Description.Names.{meant}
use Rattle.tv_model.specs.Description.Commands.{is_button_of}
use Rattle.tv_names.specs.declared.focus.Reach.{Reach}
use Rattle.tv_names.specs.declared.focus.Reach.TheVariants as reaches

abbrev pub shown_reach : Option Node → Reach
shown_reach None = reaches.Nothing
shown_reach (Some target) = reaches.View target.id

abbrev pub reach_of_effect : List Node → Effect → Reach
reach_of_effect views (effects.Show name) = shown_reach (meant views name)
reach_of_effect views (effects.Enable command) = reaches.Buttons command

abbrev pub reach_of : List Node → Rule → Reach
reach_of views rule = reach_of_effect views rule.effect

-- a view is reached that stands in these, itself among them
abbrev pub holds_at : List Id → Kind → Reach → Bool
holds_at ids kind reaches.Nothing = false
holds_at ids kind (reaches.View target) = list_any (λ i. i.0 == target.0) ids
holds_at ids kind (reaches.Buttons command) = is_button_of command kind
