-- A key in the focus: the leaf that has it answers, and it alone changes.
use Rattle.std.proofs.Common.{◌≡◌, Bool, true, false, ◌&&◌, not, List, map, find, Some, None, option_map, if◌then◌else◌, refl, sym, ap, subst, ◌∙◌}
use Rattle.std.proofs.lemmas.Bool.{and_from, and_parts, not_from_false}
use Rattle.tv_event.specs.declared.event.Event.TheVariants as events
use Rattle.tv_event.specs.declared.event.Key.{Key}
use Rattle.tv_event.specs.declared.event.Phase.TheVariants as phases
use Rattle.tv_model.specs.declared.desc.Dialog.{Dialog}
use Rattle.tv_view.specs.Meaning.{Leaf, Placed}
use Rattle.tv_model.specs.Description.Nodes.{is_control}
use Rattle.tv_machine.specs.Leaves.{PlacedNode, leaf_list}
use Rattle.tv_model.specs.Controls.Contents.{Content}
use Rattle.tv_model.specs.Controls.Behaviour.{Answer, Becomes, Presses}
use Rattle.tv_machine.specs.Controls.Tables.{key_answer}
use Rattle.tv_machine.specs.Dialog.Modal.{Modal, content_at, leaf_at, content_put}
use Rattle.tv_machine.specs.Dialog.Rules.{is_enabled, is_free, is_visible}
use Rattle.tv_view.specs.declared.env.Env.{Env}
use Rattle.tv_view.specs.declared.reaction.Reaction.{Reaction}
use Rattle.tv_view.specs.declared.reaction.Reaction.TheVariants.{Pass}
use Rattle.tv_view.specs.Effects.{with_answer}
use Rattle.tv_view.specs.Reactions.{focus_answer, may_mark_by}
use Rattle.tv_group.specs.Handling.{group_after, group_answer, is_awake, is_offered, is_pass, placed_after, placed_answer, takes}
use Rattle.tv_machine.specs.Dialog.Lawful.{IsLawfulDialog}
use Rattle.tv_group.specs.Tree.{leaf_as, placed_as, tree_as, tree_of}
use Rattle.tv_group.proofs.Tree.FirstLemmas.{find-only, kept_if}
use Rattle.tv_group.proofs.Tree.LeafListLemmas.{has_leaf_id, ids_differ}
use Rattle.tv_machine.proofs.ListLemmas.{bool_cases, either-same, found-passes, map-itself, map-map, same-id}
use Rattle.tv_machine.proofs.LeafLemmas.{HasLeaves, IsIn, leaf_at-in, leaves-same}
use Rattle.tv_group.proofs.Tree.TreeLemmas.{changed-tree, first_changed-tree, placed_with, where_id}
use Rattle.tv_group.proofs.Tree.Keys.TurnLemmas.{key-after, key-answer, scan-turn, turn_answer}

-- ---- changes of one leaf

module _ (d : Dialog) (lawful : IsLawfulDialog d) (m : Modal) (leaf : PlacedNode) (found : IsIn d leaf) where
  -- a leaf of the dialog that has its id is the leaf
  id-leaf : (other : PlacedNode) → IsIn d other → has_leaf_id leaf.node.id other ≡ true → leaf ≡ other
  id-leaf other there is =
      let both : Some leaf ≡ Some other = sym found ∙ ap (leaf_at d) (sym (same-id other.node.id leaf.node.id is)) ∙ there in
      cc

  -- the tree whose leaf was changed
  abbrev changed_by : (Placed → Placed) → List Placed
  changed_by change = map (where_id d lawful leaf.node.id change) (tree_of d m)

  -- what changes the leaf alike changes the tree alike
  pub changed-alike : (change other : Placed → Placed) → change (placed_as d m.leaves m leaf) ≡ other (placed_as d m.leaves m leaf)
      → changed_by change ≡ changed_by other
  changed-alike change other alike =
      map-map (placed_as d m.leaves m) (where_id d lawful leaf.node.id change) (leaf_list d.views)
      ∙ leaves-same d lawful (λ l. where_id d lawful leaf.node.id change (placed_as d m.leaves m l))
      (λ l. where_id d lawful leaf.node.id other (placed_as d m.leaves m l))
      (λ l there.
      let x = placed_as d m.leaves m l in
      bool_cases (has_leaf_id leaf.node.id l) (λ b. (if b then change x else x) ≡ (if b then other x else x))
      (λ is. subst (λ y. change (placed_as d m.leaves m y) ≡ other (placed_as d m.leaves m y)) (id-leaf l there is) alike)
      (λ isnt. refl))
      ∙ sym (map-map (placed_as d m.leaves m) (where_id d lawful leaf.node.id other) (leaf_list d.views))

  pub changed-itself : changed_by (λ x. x) ≡ tree_of d m
  changed-itself = map-itself (where_id d lawful leaf.node.id (λ x. x)) (tree_of d m) (λ k e h. either-same _ _)

-- ---- the focus

module _ (d : Dialog) (lawful : IsLawfulDialog d) (m : Modal) (env : Env) (k : Key) (leaf : PlacedNode)
    (at : leaf_at d m.focus ≡ Some leaf) («free» : is_free d m.leaves leaf ≡ true) where
  -- the leaf as the views see it, and in its place
  abbrev seen : PlacedNode → Leaf
  seen l = leaf_as d m.leaves m l

  abbrev placed : PlacedNode → Placed
  placed l = placed_as d m.leaves m l

  -- what a leaf answers in its place, and whether it takes the key
  abbrev answer_of : PlacedNode → Reaction
  answer_of l = placed_answer (events.Key k) phases.Focused env (placed l)

  abbrev is_offered_to : PlacedNode → Bool
  is_offered_to l = is_offered (events.Key k) phases.Focused (placed l)

  abbrev takes_it : PlacedNode → Bool
  takes_it l = takes (events.Key k) phases.Focused env (placed l)

  pub focus-id : has_leaf_id m.focus leaf ≡ true
  focus-id = found-passes (has_leaf_id m.focus) (leaf_list d.views) leaf at

  offered : is_offered_to leaf ≡ true
  offered =
      and_from (is_awake (seen leaf)) (has_leaf_id m.focus leaf)
      (and_parts (is_control leaf.node.kind) (is_visible d m.leaves leaf && is_enabled d m.leaves leaf.node) «free»).1 focus-id

  takes-id : (l : PlacedNode) → takes_it l ≡ true → has_leaf_id m.focus l ≡ true
  takes-id l h = (and_parts (is_awake (seen l)) (has_leaf_id m.focus l) (and_parts (is_offered_to l) (not (is_pass (answer_of l))) h).0).1

  -- the answer of the leaf that has the focus, by what it makes of the key
  abbrev pub own_answer : Reaction
  own_answer =
      focus_answer (seen leaf) (may_mark_by leaf.node.kind k (content_at m leaf.node.id))
      (key_answer leaf.node.kind k (content_at m leaf.node.id))

  pub focus-answers : group_answer (events.Key k) phases.Focused env (tree_of d m) ≡ own_answer
  unfolding group_answer
  focus-answers =
      scan-turn (events.Key k) phases.Focused env placed (has_leaf_id m.focus) (leaf_list d.views) takes-id (ids_differ d lawful m.focus)
      ∙ ap (λ o. turn_answer (events.Key k) phases.Focused env (option_map placed o)) at
      ∙ ap (λ b. if b then answer_of leaf else Pass) offered
      ∙ key-answer phases.Focused env (placed leaf) k

  -- ---- where it takes the key

  module _ (taken : is_pass own_answer ≡ false) where
    taker : find takes_it (leaf_list d.views) ≡ Some leaf
    taker =
        find-only takes_it (has_leaf_id m.focus) takes-id (leaf_list d.views) (ids_differ d lawful m.focus)
        ∙ ap (kept_if takes_it) at
        ∙ ap (λ b. if b then Some leaf else None)
        (and_from (is_offered_to leaf) (not (is_pass (answer_of leaf))) offered
        (not_from_false (is_pass (answer_of leaf)) (ap is_pass (key-answer phases.Focused env (placed leaf) k) ∙ taken)))

    after-changed : group_after (events.Key k) phases.Focused env (tree_of d m)
        ≡ map (where_id d lawful leaf.node.id (placed_after (events.Key k) phases.Focused env)) (tree_of d m)
    unfolding group_after
    after-changed =
        first_changed-tree d lawful (takes (events.Key k) phases.Focused env) (placed_after (events.Key k) phases.Focused env)
        m.leaves m leaf taker

    answer-after : (a : Answer) → key_answer leaf.node.kind k (content_at m leaf.node.id) ≡ a
        → placed_after (events.Key k) phases.Focused env (placed leaf) ≡ record (placed leaf) { leaf = with_answer a (seen leaf) }
    answer-after a is =
        key-after phases.Focused env (placed leaf) k ∙ ap (λ b. record (placed leaf) { leaf = with_answer b (seen leaf) }) is

    -- it holds what the key made of it
    pub after-becomes : HasLeaves d m → (c : Content) → key_answer leaf.node.kind k (content_at m leaf.node.id) ≡ Becomes c
        → group_after (events.Key k) phases.Focused env (tree_of d m) ≡ tree_as d m.leaves (content_put d leaf.node.id c m)
    after-becomes leaves c is =
        after-changed
        ∙ changed-alike d lawful m leaf (leaf_at-in d lawful m.focus leaf at) (placed_after (events.Key k) phases.Focused env)
        (placed_with d lawful c)
        (answer-after (Becomes c) is)
        ∙ sym (changed-tree d lawful m.leaves m leaf.node.id c leaves)

    -- a pressed button stays as it is
    pub after-presses : key_answer leaf.node.kind k (content_at m leaf.node.id) ≡ Presses
        → group_after (events.Key k) phases.Focused env (tree_of d m) ≡ tree_of d m
    after-presses is =
        let found : IsIn d leaf = leaf_at-in d lawful m.focus leaf at in
        after-changed
        ∙ changed-alike d lawful m leaf found (placed_after (events.Key k) phases.Focused env) (λ x. x) (answer-after Presses is)
        ∙ changed-itself d lawful m leaf found
