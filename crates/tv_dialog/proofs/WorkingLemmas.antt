-- What the plan's rules come to is what the machine's do.
use Rattle.std.proofs.Common.{◌≡◌, Bool, true, false, not, ◌&&◌, ◌||◌, ◌==◌, ℕ, nat_lt, if◌then◌else◌, List, [], ◌∷◌, map, filter, filter_map, get_or, option_map, refl, sym, ap, ◌∙◌, All}
use Rattle.std.specs.List.{cons_option, list_all, list_any}
use Rattle.tv_model.specs.declared.node.Id.{Id}
use Rattle.tv_model.specs.declared.desc.Dialog.{Dialog}
use Rattle.tv_model.specs.declared.desc.Rule.{Rule}
use Rattle.tv_model.specs.declared.desc.Effect.{Effect}
use Rattle.tv_model.specs.declared.desc.Effect.TheVariants as effects
use Rattle.tv_model.specs.Description.Commands.{command_number}
use Rattle.tv_model.specs.Description.Names.{meant}
use Rattle.tv_model.specs.Description.Numbers.{natural}
use Rattle.tv_model.specs.Description.Rules.{is_one_of}
use Rattle.tv_machine.specs.Leaves.{PlacedNode, leaf_list}
use Rattle.tv_machine.specs.Dialog.Ending.{fields_of}
use Rattle.tv_machine.specs.Dialog.Rules.{enables, holds, is_among, is_command_enabled, is_marked_at, is_visible, shows}
use Rattle.tv_model.specs.Kinds.Cluster.{is_marked}
use Rattle.tv_machine.specs.Dialog.Modal.{Modal}
use Rattle.tv_machine.specs.Dialog.Lawful.{IsLawfulDialog}
use Rattle.tv_dialog.specs.declared.condition.Condition.{Condition}
use Rattle.tv_dialog.specs.declared.plan.Gate.{Gate}
use Rattle.tv_dialog.specs.declared.plan.LeafPlan.{LeafPlan}
use Rattle.tv_dialog.specs.declared.plan.Showing.{Showing}
use Rattle.tv_dialog.specs.Plan.{condition_of, conditions_among, gate_by, gate_of, is_enabled_in_plan, is_met, is_around, is_shown_by, leaf_plan, passes_all, plan_of, showing_by, showing_of, shown_by, value_at}
use Rattle.tv_dialog.proofs.FieldLemmas.{states-apart, value-fields}
use Rattle.tv_machine.proofs.ListLemmas.{and-true, any-found, bool_cases, find-member, has, on_found, option_cases}
use Rattle.tv_machine.proofs.LeafLemmas.{HasLeaves, ids-apart, leaf_id}

and_false : (b : Bool) → (b && false) ≡ false
and_false true = refl
and_false false = refl

-- ---- lists

abbrev ids_of : List LeafPlan → List Id
ids_of leaves = map (λ leaf. leaf.id) leaves

module _ (plan : PlacedNode → LeafPlan) (own : (leaf : PlacedNode) → (plan leaf).id ≡ leaf.node.id) (test : LeafPlan → Bool) (i : Id) where
  among-kept : (leaves : List PlacedNode) → is_among (ids_of (filter test (map plan leaves))) i ≡ list_any (λ leaf. has leaf_id i leaf && test (plan leaf)) leaves
  among-kept [] = refl
  among-kept (leaf ∷ leaves) =
      let rest = filter test (map plan leaves) in
      let any = list_any (λ other. has leaf_id i other && test (plan other)) leaves in
      bool_cases (test (plan leaf)) (λ b. is_among (ids_of (if b then plan leaf ∷ rest else rest)) i ≡ ((has leaf_id i leaf && b) || any))
      (λ is. ap (λ id. (id.0 == i.0) || is_among (ids_of rest) i) (own leaf) ∙ ap (λ b. b || is_among (ids_of rest) i) (sym (and-true (has leaf_id i leaf))) ∙ ap (λ b. (has leaf_id i leaf && true) || b) (among-kept leaves))
      (λ is. among-kept leaves ∙ ap (λ b. b || any) (sym (and_false (has leaf_id i leaf))))

-- ---- rules

blocked : (a b : Bool) → not (a && not b) ≡ (not a || b)
blocked true true = refl
blocked true false = refl
blocked false b = refl

module _ (d : Dialog) (lawful : IsLawfulDialog d) (m : Modal) (leaves : HasLeaves d m) where
  -- a condition is met where its rule holds
  met-holds : (rule : Rule) → is_met (fields_of m.leaves) (condition_of d.views rule) ≡ holds d m.leaves rule
  met-holds rule =
      ap (λ b. nat_lt 0 (natural rule.item) && b)
      (option_cases (meant d.views rule.cluster)
      (λ o. is_marked (value_at (fields_of m.leaves) (option_map (λ node. node.id) o)) (natural rule.item) ≡ is_marked_at m.leaves (natural rule.item) o)
      (λ none. refl) (λ node found. ap (λ v. is_marked v (natural rule.item)) (value-fields m.leaves (states-apart d lawful m leaves) node.id)))

  abbrev AreAllMet : PlacedNode → List Showing → Bool
  AreAllMet leaf showings = list_all (is_met (fields_of m.leaves)) (conditions_among leaf showings)

  showing_front : (leaf : PlacedNode) (effect : Effect) (condition : Condition) (held rest : Bool) (showings : List Showing) → is_met (fields_of m.leaves) condition ≡ held
      → AreAllMet leaf showings ≡ rest
      → AreAllMet leaf (cons_option (showing_by d.views condition effect) showings) ≡ ((not (shows d.views leaf effect) || held) && rest)
  showing_front leaf (effects.Enable command) condition held rest showings met all = all
  showing_front leaf (effects.Show name) condition held rest showings met all =
      option_cases (meant d.views name)
      (λ o. AreAllMet leaf (cons_option (option_map (λ target. record { target = target; condition = condition }) (option_map (λ node. node.id) o)) showings)
      ≡ ((not (is_one_of (leaf.node ∷ leaf.panes) o) || held) && rest))
      (λ none. all)
      (λ node found.
      let others : List Showing = filter (λ showing. is_around leaf showing.target) showings in
      bool_cases (is_around leaf node.id)
      (λ b. list_all (is_met (fields_of m.leaves)) (map (λ showing. showing.condition) (if b then record { target = node.id; condition = condition } ∷ others else others))
      ≡ ((not b || held) && rest))
      (λ is. ap (λ b. b && AreAllMet leaf showings) met ∙ ap (λ b. held && b) all) (λ is. all))

  showings-rules : (leaf : PlacedNode) (rules : List Rule)
      → AreAllMet leaf (filter_map (showing_of d.views) rules) ≡ list_all (λ rule. not (shows d.views leaf rule.effect) || holds d m.leaves rule) rules
  showings-rules leaf [] = refl
  showings-rules leaf (rule ∷ rules) =
      showing_front leaf rule.effect (condition_of d.views rule) (holds d m.leaves rule) _ (filter_map (showing_of d.views) rules) (met-holds rule) (showings-rules leaf rules)

  shown-visible : (leaf : PlacedNode) → is_shown_by (fields_of m.leaves) (leaf_plan d.views d.rules leaf) ≡ is_visible d m.leaves leaf
  shown-visible leaf = showings-rules leaf d.rules

  -- the leaves that the plan's rules show are the visible ones
  pub shown-plan : All (λ leaf. is_among (shown_by (plan_of d.views d.rules) (fields_of m.leaves)) leaf.node.id ≡ is_visible d m.leaves leaf) (leaf_list d.views)
  shown-plan = λ k e h.
      let leaf = get_or (leaf_list d.views) k e in
      let shown = is_shown_by (fields_of m.leaves) in
      among-kept (leaf_plan d.views d.rules) (λ other. refl) shown leaf.node.id (leaf_list d.views)
      ∙ any-found leaf_id leaf.node.id (λ other. shown (leaf_plan d.views d.rules other)) (leaf_list d.views) (ids-apart d lawful)
      ∙ ap (on_found leaf_id (λ other. shown (leaf_plan d.views d.rules other))) (find-member leaf_id (leaf_list d.views) (ids-apart d lawful) k e h)
      ∙ shown-visible leaf

  gate_front : (number : ℕ) (effect : Effect) (condition : Condition) (held rest : Bool) (gates : List Gate) → is_met (fields_of m.leaves) condition ≡ held
      → passes_all (fields_of m.leaves) number gates ≡ rest
      → passes_all (fields_of m.leaves) number (cons_option (gate_by condition effect) gates) ≡ ((not (enables number effect) || held) && rest)
  gate_front number (effects.Show name) condition held rest gates met passes = passes
  gate_front number (effects.Enable command) condition held rest gates met passes =
      ap (λ b. not ((command_number command == number) && not b) && passes_all (fields_of m.leaves) number gates) met
      ∙ ap (λ b. b && passes_all (fields_of m.leaves) number gates) (blocked (command_number command == number) held)
      ∙ ap (λ b. (not (command_number command == number) || held) && b) passes

  gates-rules : (number : ℕ) (rules : List Rule) → passes_all (fields_of m.leaves) number (filter_map (gate_of d.views) rules)
      ≡ list_all (λ rule. not (enables number rule.effect) || holds d m.leaves rule) rules
  gates-rules number [] = refl
  gates-rules number (rule ∷ rules) =
      gate_front number rule.effect (condition_of d.views rule) (holds d m.leaves rule) _ (filter_map (gate_of d.views) rules) (met-holds rule) (gates-rules number rules)

  -- the commands that the plan's gates let pass are the enabled ones
  pub enabled-plan : (number : ℕ) → is_enabled_in_plan (plan_of d.views d.rules) (fields_of m.leaves) number ≡ is_command_enabled d m.leaves number
  enabled-plan number = gates-rules number d.rules
