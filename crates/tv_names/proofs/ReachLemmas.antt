-- What rules reach, found once and asked of each view.
use Rattle.std.proofs.Common.{◌≡◌, not, ◌&&◌, ◌||◌, ◌==◌, List, [], ◌∷◌, map, Option, Some, None, refl, ap, ◌∙◌}
use Rattle.std.specs.List.{list_any}
use Rattle.tv_model.specs.declared.node.Id.{Id}
use Rattle.tv_model.specs.declared.node.Node.{Node}
use Rattle.tv_model.specs.declared.desc.Dialog.{Dialog}
use Rattle.tv_model.specs.declared.desc.Rule.{Rule}
use Rattle.tv_model.specs.declared.desc.Effect.{Effect}
use Rattle.tv_model.specs.declared.desc.Effect.TheVariants as effects
use Rattle.tv_model.specs.Description.Nodes.{is_control}
use Rattle.tv_model.specs.Description.Names.{meant}
use Rattle.tv_model.specs.Description.Panes.{panes_around}
use Rattle.tv_model.specs.Faults.Rules.{has_nothing_to_focus, is_always_free}
use Rattle.tv_model.specs.Description.Rules.{option_stands_over, reaches}
use Rattle.tv_model.specs.Faults.Lines.{after_seen}
use Rattle.tv_names.specs.Focus.{has_nothing_free, is_unreached}
use Rattle.tv_names.specs.declared.focus.Reach.{Reach}
use Rattle.tv_names.specs.Reach.{holds_at, reach_of, reach_of_effect, shown_reach}
use Rattle.tv_model.proofs.ListLemmas.{any_map}

module _ (before : List Node) (node : Node) where
  abbrev ids : List Id
  ids = map (λ view. view.id) (node ∷ panes_around before node)

  shown_is : (target : Option Node) → holds_at ids node.kind (shown_reach target) ≡ option_stands_over target before node
  shown_is None = refl
  shown_is (Some target) = any_map (λ i. i.0 == target.id.0) (λ view. view.id) (node ∷ panes_around before node)

  effect_is : (views : List Node) (effect : Effect) → holds_at ids node.kind (reach_of_effect views effect) ≡ reaches views before node effect
  effect_is views (effects.Show name) = shown_is (meant views name)
  effect_is views (effects.Enable command) = refl

  rules_are : (views : List Node) (rules : List Rule) → list_any (holds_at ids node.kind) (map (reach_of views) rules) ≡ list_any (λ rule. reaches views before node rule.effect) rules
  rules_are views [] = refl
  rules_are views (rule ∷ rules) =
      ap (λ b. b || list_any (holds_at ids node.kind) (map (reach_of views) rules)) (effect_is views rule.effect)
      ∙ ap (λ b. reaches views before node rule.effect || b) (rules_are views rules)

  -- asked of what the rules reach as they were found
  pub free_is : (dialog : Dialog) (list : List Reach) → list ≡ map (reach_of dialog.views) dialog.rules
      → (is_control node.kind && not (list_any (holds_at ids node.kind) list)) ≡ is_always_free dialog before node
  free_is dialog list e = ap (λ found. is_control node.kind && not (list_any (holds_at ids node.kind) found)) e ∙ ap (λ b. is_control node.kind && not b) (rules_are dialog.views dialog.rules)

-- asked of all views
pub nothing_free_is : (dialog : Dialog) (list : List Reach) → list ≡ map (reach_of dialog.views) dialog.rules → has_nothing_free list dialog.views ≡ has_nothing_to_focus dialog
nothing_free_is dialog list e = ap not (same (after_seen [] dialog.views))
  where
    same : (pairs : List (List Node × Node)) → list_any (λ pair. is_unreached list pair.0 pair.1) pairs ≡ list_any (λ pair. is_always_free dialog pair.0 pair.1) pairs
    same [] = refl
    same (pair ∷ pairs) =
        ap (λ b. b || list_any (λ pair. is_unreached list pair.0 pair.1) pairs) (free_is pair.0 pair.1 dialog list e)
        ∙ ap (λ b. is_always_free dialog pair.0 pair.1 || b) (same pairs)
