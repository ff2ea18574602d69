-- What the broadcast that Enter becomes makes of a dialog, through the views as in the machine.
use Rattle.std.proofs.Common.{◌≡◌, Bool, true, false, ◌&&◌, not, List, Option, Some, None, option_map, if◌then◌else◌, refl, sym, ap, subst, ◌∙◌}
use Rattle.std.specs.Option.{option_or}
use Rattle.std.proofs.lemmas.Bool.{and_right}
use Rattle.tv_event.specs.declared.event.Command.{Command}
use Rattle.tv_event.specs.declared.event.Event.TheVariants as events
use Rattle.tv_event.specs.declared.event.Phase.{Phase}
use Rattle.tv_event.specs.declared.event.Phase.TheVariants as phases
use Rattle.tv_model.specs.declared.node.Id.{Id}
use Rattle.tv_model.specs.declared.kind.Kind.{Kind}
use Rattle.tv_model.specs.declared.kind.Kind.TheVariants as kinds
use Rattle.tv_model.specs.declared.command.CommandSpec.{CommandSpec}
use Rattle.tv_model.specs.declared.desc.Dialog.{Dialog}
use Rattle.tv_model.specs.Description.Commands.{command_of}
use Rattle.tv_model.specs.Description.Nodes.{is_button, is_default}
use Rattle.tv_view.specs.Meaning.{Leaf, Placed}
use Rattle.tv_machine.specs.Leaves.{PlacedNode, leaf_list}
use Rattle.tv_machine.specs.Dialog.Ending.{pressed_by, pressed_kind}
use Rattle.tv_machine.specs.Dialog.Keys.{declared_default, enter_target, if_button, press_enabled}
use Rattle.tv_machine.specs.Dialog.Modal.{Modal, leaf_at}
use Rattle.tv_machine.specs.Dialog.Rules.{is_enabled}
use Rattle.tv_view.specs.declared.env.Env.{Env}
use Rattle.tv_view.specs.declared.reaction.Reaction.{Reaction}
use Rattle.tv_view.specs.declared.reaction.Reaction.TheVariants.{Pass}
use Rattle.tv_view.specs.Colours.{is_lent_default, is_id}
use Rattle.tv_view.specs.Reactions.{press_by, press_of}
use Rattle.tv_group.specs.Handling.{group_after, group_answer, is_pass, placed_answer, takes}
use Rattle.tv_machine.specs.Dialog.Lawful.{IsLawfulDialog}
use Rattle.tv_group.specs.Tree.{leaf_as, placed_as, tree_of}
use Rattle.tv_group.specs.TreeTurns.{IsLentBy, reacted}
use Rattle.tv_group.proofs.Tree.LeafListLemmas.{has_leaf_id, ids_differ}
use Rattle.tv_group.proofs.Tree.Keys.LetterLemmas.{of_kind}
use Rattle.tv_machine.proofs.ListLemmas.{bool_cases, found-passes, id-itself, id-swap, option_cases}
use Rattle.tv_group.proofs.Tree.Keys.QuietLemmas.{scan-quiet, scan-still}
use Rattle.tv_machine.proofs.LeafLemmas.{IsIn, found-in, leaf_at-in, leaf_at-is}
use Rattle.tv_group.proofs.Tree.Keys.TurnLemmas.{broadcast-after, broadcast-answer, scan-turn, turn_answer}

-- the command of the broadcast
abbrev pub enter : Command
enter = record { 0 = 14 }

-- ---- the button that Enter presses

default-button : (leaf : PlacedNode) (kind : Kind) → is_default (of_kind leaf kind).node ≡ true → is_button kind ≡ true
default-button leaf (kinds.Button button) h = refl
default-button leaf _ h = h

-- it is a leaf of the dialog, and a button
pub record IsPressable (d : Dialog) (t : PlacedNode) : Type 0 where
  pub found : IsIn d t
  pub button : is_button t.node.kind ≡ true

module _ (d : Dialog) (lawful : IsLawfulDialog d) (m : Modal) where
  declared_pressable : (t : PlacedNode) → declared_default d ≡ Some t → IsPressable d t
  declared_pressable t is = record {
    found = found-in d lawful (λ leaf. is_default leaf.node) t is;
    button = default-button t t.node.kind (found-passes (λ leaf. is_default leaf.node) (leaf_list d.views) t is);
  }

  -- by what was found at the focus
  focus_pressable : (o : Option PlacedNode) → leaf_at d m.focus ≡ o → (t : PlacedNode)
      → option_or (if_button o) (declared_default d) ≡ Some t → IsPressable d t
  focus_pressable None at t is = declared_pressable t is
  focus_pressable (Some leaf) at t is =
      bool_cases (is_button leaf.node.kind)
      (λ b. option_or (if b then Some leaf else None) (declared_default d) ≡ Some t → IsPressable d t)
      (λ button some.
      let same : leaf ≡ t = cc in
      subst (IsPressable d) same (record { found = leaf_at-in d lawful m.focus leaf at; button = button }))
      (λ other none. declared_pressable t none) is

  target-pressable : (t : PlacedNode) → enter_target d m ≡ Some t → IsPressable d t
  target-pressable t is = focus_pressable (leaf_at d m.focus) refl t is

-- ---- who answers

pub press-acts : (d : Dialog) (m : Modal) (leaf : Leaf) (kind : Kind)
    → reacted d (press_of leaf kind) m ≡ pressed_kind d leaf.node.id kind m
press-acts d m leaf kind = of (command_of kind)
  where
    of : (o : Option CommandSpec) → reacted d (press_by leaf o) m ≡ pressed_by d leaf.node.id o m
    of None = refl
    of (Some c) = refl

enabled_acts : (d : Dialog) (m : Modal) (leaf : Leaf) (kind : Kind) (b : Bool)
    → reacted d (if b then press_of leaf kind else Pass) m ≡ (if b then pressed_kind d leaf.node.id kind m else m)
enabled_acts d m leaf kind true = press-acts d m leaf kind
enabled_acts d m leaf kind false = refl

-- what a leaf answers to the broadcast, by what it is asked
abbrev pressed_if : Leaf → Bool → Bool → Reaction
pressed_if leaf button now = if button && (now && leaf.is_enabled) then press_of leaf leaf.node.kind else Pass

now_if : (leaf : Leaf) (button now : Bool) → not (is_pass (pressed_if leaf button now)) ≡ true → now ≡ true
now_if leaf true true h = refl
now_if leaf true false h = h
now_if leaf false true h = refl
now_if leaf false false h = h

module _ (d : Dialog) (lawful : IsLawfulDialog d) (m : Modal) (env : Env) (E : IsLentBy d m env) where
  -- the leaf in its place
  abbrev placed : PlacedNode → Placed
  placed leaf = placed_as d m.leaves m leaf

  -- the id of what Enter presses
  now-is : (o : Option PlacedNode) → enter_target d m ≡ o → env.default_now ≡ option_map (λ leaf. leaf.node.id) o
  now-is o is = E.default_now ∙ ap (option_map (λ leaf. leaf.node.id)) is

  -- nobody answers where Enter presses nothing
  none_answers : enter_target d m ≡ None → (x : Placed) → placed_answer (events.Broadcast enter) phases.Focused env x ≡ Pass
  none_answers none x =
      broadcast-answer phases.Focused env x enter
      ∙ ap (λ o. pressed_if x.leaf (is_button x.leaf.node.kind) (is_id o x.leaf.node.id)) (now-is None none)
      ∙ ap (λ b. if b then press_of x.leaf x.leaf.node.kind else Pass) (and_right (is_button x.leaf.node.kind) false refl)

  target_takes : (t : PlacedNode) → enter_target d m ≡ Some t → (leaf : PlacedNode)
      → takes (events.Broadcast enter) phases.Focused env (placed leaf) ≡ true → has_leaf_id t.node.id leaf ≡ true
  target_takes t is leaf h =
      let now : is_lent_default env leaf.node.id ≡ true =
      now_if (leaf_as d m.leaves m leaf) (is_button leaf.node.kind) (is_lent_default env leaf.node.id)
      (sym (ap (λ r. not (is_pass r)) (broadcast-answer phases.Focused env (placed leaf) enter)) ∙ h) in
      id-swap leaf.node.id t.node.id ∙ sym (ap (λ o. is_id o leaf.node.id) (now-is (Some t) is)) ∙ now

  target_answers : (t : PlacedNode) → enter_target d m ≡ Some t → is_button t.node.kind ≡ true
      → reacted d (placed_answer (events.Broadcast enter) phases.Focused env (placed t)) m ≡ press_enabled d (Some t) m
  target_answers t is button =
      let leaf = leaf_as d m.leaves m t in
      ap (λ r. reacted d r m)
      (broadcast-answer phases.Focused env (placed t) enter
      ∙ ap (λ b. pressed_if leaf b (is_lent_default env t.node.id)) button
      ∙ ap (λ o. pressed_if leaf true (is_id o t.node.id)) (now-is (Some t) is)
      ∙ ap (pressed_if leaf true) (id-itself t.node.id))
      ∙ enabled_acts d m leaf t.node.kind (is_enabled d m.leaves t.node)

  by_target : (o : Option PlacedNode) → enter_target d m ≡ o
      → reacted d (group_answer (events.Broadcast enter) phases.Focused env (tree_of d m)) m ≡ press_enabled d o m
  unfolding group_answer
  by_target None is = ap (λ r. reacted d r m) (scan-quiet (events.Broadcast enter) phases.Focused env (tree_of d m) (none_answers is))
  by_target (Some t) is =
      let it : IsPressable d t = target-pressable d lawful m t is in
      ap (λ r. reacted d r m)
      (scan-turn (events.Broadcast enter) phases.Focused env placed (has_leaf_id t.node.id) (leaf_list d.views) (target_takes t is)
      (ids_differ d lawful t.node.id)
      ∙ ap (λ o. turn_answer (events.Broadcast enter) phases.Focused env (option_map placed o)) it.found)
      ∙ target_answers t is it.button

  -- the broadcast presses what Enter presses, if it is enabled
  pub enter_turn : reacted d (group_answer (events.Broadcast enter) phases.Focused env (tree_of d m)) m
      ≡ press_enabled d (enter_target d m) m
  enter_turn = by_target (enter_target d m) refl

-- a broadcast changes no leaf
pub group_after-broadcast : (c : Command) (p : Phase) (env : Env) (xs : List Placed) → group_after (events.Broadcast c) p env xs ≡ xs
unfolding group_after
group_after-broadcast c p env xs = scan-still (events.Broadcast c) p env xs (λ x. broadcast-after p env x c)

-- ---- which button it is

-- whether a leaf was found, and it is a button
abbrev pub is_button_leaf : Option PlacedNode → Bool
is_button_leaf None = false
is_button_leaf (Some leaf) = is_button leaf.node.kind

-- the id of a leaf that was found
abbrev pub id_of_leaf : Option PlacedNode → Option Id
id_of_leaf o = option_map (λ leaf. leaf.node.id) o

-- the focus if it is a button, else the declared default
pub enter_target-id : (d : Dialog) (m : Modal)
    → id_of_leaf (enter_target d m) ≡ (if is_button_leaf (leaf_at d m.focus) then Some m.focus else id_of_leaf (declared_default d))
enter_target-id d m =
    option_cases (leaf_at d m.focus)
    (λ o. id_of_leaf (option_or (if_button o) (declared_default d))
    ≡ (if is_button_leaf o then Some m.focus else id_of_leaf (declared_default d)))
    (λ none. refl)
    (λ leaf at.
    bool_cases (is_button leaf.node.kind)
    (λ b. id_of_leaf (option_or (if b then Some leaf else None) (declared_default d))
    ≡ (if b then Some m.focus else id_of_leaf (declared_default d)))
    (λ button. ap (λ (i : Id). Some i) (leaf_at-is d m.focus leaf at))
    (λ other. refl))
