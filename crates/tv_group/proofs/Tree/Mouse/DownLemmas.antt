-- A mouse down on the tree of a dialog does what it does on the machine's dialog.
use Rattle.std.proofs.Common.{◌≡◌, ◌⊎◌, inl, inr, ℕ, Bool, true, false, not, ◌||◌, ◌==◌, if◌then◌else◌, List, Option, Some, None, option_map, refl, sym, ap, subst, ◌∙◌}
use Rattle.tv_cells.specs.declared.rect.Point.{Point}
use Rattle.tv_event.specs.declared.event.Event.TheVariants as events
use Rattle.tv_event.specs.declared.event.Phase.TheVariants as phases
use Rattle.tv_model.specs.declared.kind.Kind.{Kind}
use Rattle.tv_model.specs.declared.kind.Kind.TheVariants as kinds
use Rattle.tv_model.specs.declared.node.Id.{Id}
use Rattle.tv_model.specs.declared.node.Node.{Node}
use Rattle.tv_model.specs.declared.desc.Dialog.{Dialog}
use Rattle.tv_model.specs.Kinds.InputLine.{first_shown, cursor_of}
use Rattle.tv_view.specs.Meaning.{Leaf}
use Rattle.tv_model.specs.Description.Names.{meant}
use Rattle.tv_model.specs.Description.Nodes.{is_control}
use Rattle.tv_model.specs.Description.Numbers.{natural}
use Rattle.tv_machine.specs.Leaves.{PlacedNode}
use Rattle.tv_model.specs.Controls.Contents.{Content}
use Rattle.tv_machine.specs.Controls.Tables.{down_content, remembered}
use Rattle.tv_machine.specs.Dialog.Focus.{Request, Same, NotFree, Refused, Moved, after_request, is_free_at, is_granted, keeps_focus, request, requested}
use Rattle.tv_machine.specs.Dialog.Modal.{Modal, content_at, leaf_at, content_put}
use Rattle.tv_machine.specs.Dialog.Mouse as mouse
use Rattle.tv_machine.specs.Dialog.Mouse.{button_down, down_at, down_on, focus_and_hold, hold}
use Rattle.tv_machine.specs.Dialog.Rules.{is_enabled, is_kind_enabled}
use Rattle.tv_machine.specs.Dialog.Shortcuts.{request_link}
use Rattle.tv_view.specs.declared.env.Env.{Env}
use Rattle.tv_view.specs.declared.reaction.Reaction.TheVariants.{Pass, Capture, Focus}
use Rattle.tv_view.specs.Colours.{is_id, link_of, linked_by}
use Rattle.tv_view.specs.Effects as effects
use Rattle.tv_view.specs.Reactions.{captures, focus_on}
use Rattle.tv_group.specs.Handling.{hit_answer}
use Rattle.tv_machine.specs.Dialog.Lawful.{IsLawfulDialog}
use Rattle.tv_group.specs.Ready.{HoldsLeaf, IsLike, IsPointOf}
use Rattle.tv_machine.specs.Dialog.Alike.{HoldSame}
use Rattle.tv_group.specs.Tree.{IsSteady, leaf_as, placed_as, tree_of}
use Rattle.tv_group.specs.TreeTurns.{IsLentBy}
use Rattle.tv_machine.proofs.ListLemmas.{bool_cases, id-itself, id-swap, option_cases}
use Rattle.tv_machine.proofs.MarkLemmas.{enabled-same, hold-itself, hold-then}
use Rattle.tv_group.proofs.Tree.FocusTreeLemmas.{steady-request}
use Rattle.tv_group.proofs.Tree.RequestLemmas.{focus-request, held-request, hold-request}
use Rattle.tv_group.proofs.Tree.Mouse.HoldLemmas.{leaf-held, nothing-held}
use Rattle.tv_group.proofs.Tree.Mouse.TopmostLemmas.{after-same, after_down, answer-topmost, down_answered, topmost-same}
use Rattle.tv_group.proofs.Tree.Mouse.GripLemmas.{after-asked, after-disabled, after-held, answer-asks, answer-disabled, answer-holds, hold-held, in-d, steady-hold}

-- ---- what a down comes to

-- no view asks for anything, and the tree is that of this dialog
pub record IsOver (d : Dialog) (m : Modal) (env : Env) (p : Point) (after : Modal) : Type 0 where
  pub answer : (down_answered d m env p ≡ Pass) ⊎ ((i : Id) × (down_answered d m env p ≡ Capture i))
  pub tree : after_down d m env p ≡ tree_of d after
  pub steady : IsSteady d after
  -- every rule holds as it did
  pub holds : HoldSame d m.leaves after.leaves
  pub leaf_holds : HoldsLeaf d after
  pub like : IsLike m after

-- a view asks for the focus. Where it is refused nothing else happens, and where it is granted the down is handed to the tree
-- again, in the same environment
pub record AsksFocus (d : Dialog) (m : Modal) (env : Env) (p : Point) (i : Id) (after : Modal) : Type 0 where
  pub answer : down_answered d m env p ≡ Focus i
  pub tree : after_down d m env p ≡ tree_of d m
  pub refused : is_granted (requested d m i) ≡ false → request d i m ≡ after
  pub again : is_granted (requested d m i) ≡ true → after_down d (request d i m) env p ≡ tree_of d after
  pub steady : IsSteady d after
  -- every rule holds as it did
  pub holds : HoldSame d m.leaves after.leaves
  pub leaf_holds : HoldsLeaf d after
  pub like : IsLike (request d i m) after

-- one of the two
abbrev pub Turn : Dialog → Modal → Env → Point → Modal → Type 0
Turn d m env p after = IsOver d m env p after ⊎ ((i : Id) × AsksFocus d m env p i after)

-- ---- on a leaf

module _ (d : Dialog) (lawful : IsLawfulDialog d) (p : Point) (at : IsPointOf p) (m : Modal) (steady : IsSteady d m) (free : m.held ≡ None)
    (env : Env) (lent : IsLentBy d m env) (leaf : PlacedNode) (found : mouse.topmost_leaf d m p ≡ Some leaf) where
  abbrev m1 : Modal
  m1 = request d leaf.node.id m

  -- the leaf is the topmost one after any request
  found_again : (j : Id) → mouse.topmost_leaf d (request d j m) p ≡ Some leaf
  found_again j = sym (topmost-same d m (request d j m) p (hold-request d lawful m j steady.leaves)) ∙ found

  enabled_again : (j : Id) → is_enabled d m.leaves leaf.node ≡ true → is_enabled d (request d j m).leaves leaf.node ≡ true
  enabled_again j e = sym (enabled-same d m.leaves (request d j m).leaves (hold-request d lawful m j steady.leaves) leaf.node) ∙ e

  -- it does nothing
  still : down_answered d m env p ≡ Pass → after_down d m env p ≡ tree_of d m → Turn d m env p m
  still answer tree = inl (record {
    answer = inl answer;
    tree = tree;
    steady = steady;
    holds = hold-itself d m.leaves;
    leaf_holds = nothing-held d m free;
    like = record { focus = refl; log = refl; ended = refl };
  })

  -- it holds the mouse
  holding : (first : ℕ) → is_enabled d m.leaves leaf.node ≡ true → captures (leaf_as d m.leaves m leaf) leaf.node.kind ≡ true
      → effects.first_shown_before env (leaf_as d m.leaves m leaf) ≡ first → Turn d m env p (hold d leaf first p m)
  holding first enabled takes from = inl (record {
    answer = inr (leaf.node.id, answer-holds d lawful p at m env leaf found enabled takes);
    tree = after-held d lawful p at m env leaf found steady free enabled takes first from;
    steady = steady-hold d lawful p at m env leaf found steady free enabled takes first;
    holds = hold-held d lawful p at m env leaf found steady free enabled takes first;
    leaf_holds = leaf-held d leaf (in-d d lawful p at m env leaf found) (remembered leaf.node.kind (mouse.row_on leaf p))
        (hold d leaf first p m) refl;
    like = record { focus = refl; log = refl; ended = refl };
  })

  -- ---- the first place that was shown

  shown_at : Modal → Option Id → ℕ
  shown_at n o = if is_id o leaf.node.id then first_shown (natural leaf.node.w) (cursor_of (content_at n leaf.node.id).private) else 0

  first_here : effects.first_shown_before env (leaf_as d m.leaves m leaf) ≡ mouse.first_before m leaf
  unfolding shown_at
  first_here = ap (shown_at m) lent.focus

  first_again : (leaf.node.id.0 == m.focus.0) ≡ false → effects.first_shown_before env (leaf_as d m1.leaves m1 leaf) ≡ mouse.first_before m leaf
  unfolding shown_at
  first_again other =
      let apart : (m.focus.0 == leaf.node.id.0) ≡ false = id-swap m.focus leaf.node.id ∙ other in
      ap (shown_at m1) lent.focus
      ∙ ap (λ b. if b then first_shown (natural leaf.node.w) (cursor_of (content_at m1 leaf.node.id).private) else 0) apart
      ∙ sym (ap (λ b. if b then first_shown (natural leaf.node.w) (cursor_of (content_at m leaf.node.id).private) else 0) apart)

  -- ---- a control that wants the focus

  module _ (control : is_control leaf.node.kind ≡ true) (wants : (look : Leaf) → captures look leaf.node.kind ≡ look.is_focused)
      (enabled : is_enabled d m.leaves leaf.node ≡ true) where
    abbrev last : Request
    last = if not (is_free_at d m.leaves leaf.node.id) then NotFree else if keeps_focus m (leaf_at d m.focus) then Refused else Moved

    by_request : Request → Modal
    by_request r = if is_granted r then hold d leaf (mouse.first_before m leaf) p (after_request d leaf.node.id r m)
        else after_request d leaf.node.id r m

    with_focus : (leaf.node.id.0 == m.focus.0) ≡ true → focus_and_hold d leaf p m ≡ hold d leaf (mouse.first_before m leaf) p m
    unfolding by_request
    with_focus is = ap (λ b. by_request (if b then Same else last)) is

    granted_then : is_granted (requested d m leaf.node.id) ≡ true → focus_and_hold d leaf p m ≡ hold d leaf (mouse.first_before m leaf) p m1
    granted_then e = ap (λ b. if b then hold d leaf (mouse.first_before m leaf) p m1 else m1) e

    refused_then : is_granted (requested d m leaf.node.id) ≡ false → focus_and_hold d leaf p m ≡ m1
    refused_then e = ap (λ b. if b then hold d leaf (mouse.first_before m leaf) p m1 else m1) e

    steady1 : IsSteady d m1
    steady1 = steady-request d lawful leaf.node.id m steady

    takes_again : is_granted (requested d m leaf.node.id) ≡ true → captures (leaf_as d m1.leaves m1 leaf) leaf.node.kind ≡ true
    takes_again e = wants (leaf_as d m1.leaves m1 leaf) ∙ ap (λ (j : Id). leaf.node.id.0 == j.0) (focus-request d m leaf.node.id e)
        ∙ id-itself leaf.node.id

    free1 : m1.held ≡ None
    free1 = held-request d lawful m leaf.node.id ∙ free

    asking : (leaf.node.id.0 == m.focus.0) ≡ false → AsksFocus d m env p leaf.node.id (focus_and_hold d leaf p m)
    asking other =
        let takes : captures (leaf_as d m.leaves m leaf) leaf.node.kind ≡ false = wants (leaf_as d m.leaves m leaf) ∙ other in
        record {
          answer = answer-asks d lawful p at m env leaf found enabled takes
              ∙ ap (λ b. focus_on (if b then Some leaf.node.id else linked_by env leaf.node.kind)) control;
          tree = after-asked d lawful p at m env leaf found takes;
          refused = λ e. sym (refused_then e);
          again = λ e.
              after-held d lawful p at m1 env leaf (found_again leaf.node.id) steady1 free1 (enabled_again leaf.node.id enabled)
              (takes_again e)
              (mouse.first_before m leaf) (first_again other)
              ∙ ap (tree_of d) (sym (granted_then e));
          steady = bool_cases (is_granted (requested d m leaf.node.id))
              (λ b. is_granted (requested d m leaf.node.id) ≡ b → IsSteady d (focus_and_hold d leaf p m))
              (λ is e. subst (IsSteady d) (sym (granted_then e))
              (steady-hold d lawful p at m1 env leaf (found_again leaf.node.id) steady1 free1 (enabled_again leaf.node.id enabled)
              (takes_again e) (mouse.first_before m leaf)))
              (λ is e. subst (IsSteady d) (sym (refused_then e)) steady1) refl;
          holds = bool_cases (is_granted (requested d m leaf.node.id))
              (λ b. is_granted (requested d m leaf.node.id) ≡ b → HoldSame d m.leaves (focus_and_hold d leaf p m).leaves)
              (λ is e. subst (λ (n : Modal). HoldSame d m.leaves n.leaves) (sym (granted_then e))
              (hold-then d m.leaves m1.leaves (hold d leaf (mouse.first_before m leaf) p m1).leaves
              (hold-request d lawful m leaf.node.id steady.leaves)
              (hold-held d lawful p at m1 env leaf (found_again leaf.node.id) steady1 free1 (enabled_again leaf.node.id enabled)
              (takes_again e) (mouse.first_before m leaf))))
              (λ is e. subst (λ (n : Modal). HoldSame d m.leaves n.leaves) (sym (refused_then e))
              (hold-request d lawful m leaf.node.id steady.leaves)) refl;
          leaf_holds = bool_cases (is_granted (requested d m leaf.node.id))
              (λ b. is_granted (requested d m leaf.node.id) ≡ b → HoldsLeaf d (focus_and_hold d leaf p m))
              (λ is e. subst (HoldsLeaf d) (sym (granted_then e))
              (leaf-held d leaf (in-d d lawful p at m env leaf found) (remembered leaf.node.kind (mouse.row_on leaf p))
              (hold d leaf (mouse.first_before m leaf) p m1) refl))
              (λ is e. subst (HoldsLeaf d) (sym (refused_then e)) (nothing-held d m1 free1)) refl;
          like = bool_cases (is_granted (requested d m leaf.node.id))
              (λ b. is_granted (requested d m leaf.node.id) ≡ b → IsLike m1 (focus_and_hold d leaf p m))
              (λ is e. subst (IsLike m1) (sym (granted_then e)) (record { focus = refl; log = refl; ended = refl }))
              (λ is e. subst (IsLike m1) (sym (refused_then e)) (record { focus = refl; log = refl; ended = refl })) refl;
        }

    grabbing : Turn d m env p (focus_and_hold d leaf p m)
    grabbing =
        bool_cases (leaf.node.id.0 == m.focus.0) (λ b. leaf.node.id.0 == m.focus.0 ≡ b → Turn d m env p (focus_and_hold d leaf p m))
        (λ is e. subst (Turn d m env p) (sym (with_focus e))
        (holding (mouse.first_before m leaf) enabled (wants (leaf_as d m.leaves m leaf) ∙ e) first_here))
        (λ is e. inr (leaf.node.id, asking e)) refl

  -- ---- a button that doesn't want it

  module _ (takes : captures (leaf_as d m.leaves m leaf) leaf.node.kind ≡ true) (enabled : is_enabled d m.leaves leaf.node ≡ true)
      (same : (first : ℕ) (c : Content) → down_content leaf.node.kind first (mouse.column_on leaf p) (mouse.row_on leaf p) c ≡ c) where
    hold_any : Content → Modal
    hold_any c = record (content_put d leaf.node.id c m) {
      held = Some
          (record { id = leaf.node.id; item = remembered leaf.node.kind (mouse.row_on leaf p) });
    }

    any_first : (first : ℕ) → hold d leaf first p m ≡ hold d leaf 0 p m
    unfolding hold_any
    any_first first = ap hold_any (same first (content_at m leaf.node.id) ∙ sym (same 0 (content_at m leaf.node.id)))

    loose : Turn d m env p (hold d leaf 0 p m)
    loose =
        let first : ℕ = effects.first_shown_before env (leaf_as d m.leaves m leaf) in
        subst (Turn d m env p) (any_first first) (holding first enabled takes refl)

  -- ---- a label

  module _ (takes : (look : Leaf) → captures look leaf.node.kind ≡ false) (enabled : is_enabled d m.leaves leaf.node ≡ true)
      (control : is_control leaf.node.kind ≡ false) (link : List ℕ)
      (links : linked_by env leaf.node.kind ≡ link_of env.views.now link) where
    link_answer : down_answered d m env p ≡ focus_on (option_map (λ node. node.id) (meant d.views link))
    link_answer =
        answer-asks d lawful p at m env leaf found enabled (takes (leaf_as d m.leaves m leaf))
        ∙ ap (λ b. focus_on (if b then Some leaf.node.id else linked_by env leaf.node.kind)) control
        ∙ ap focus_on links
        ∙ ap (λ views. focus_on (link_of views link)) lent.views

    linking : Turn d m env p (request_link d (meant d.views link) m)
    linking =
        option_cases (meant d.views link) (λ o. meant d.views link ≡ o → Turn d m env p (request_link d o m))
        (λ none e. still (link_answer ∙ ap (λ o. focus_on (option_map (λ (node : Node). node.id) o)) e)
        (after-asked d lawful p at m env leaf found (takes (leaf_as d m.leaves m leaf))))
        (λ view some e. inr (
          view.id,
          record {
            answer = link_answer ∙ ap (λ o. focus_on (option_map (λ (node : Node). node.id) o)) e;
            tree = after-asked d lawful p at m env leaf found (takes (leaf_as d m.leaves m leaf));
            refused = λ r. refl;
            again = λ g. after-asked d lawful p at (request d view.id m) env leaf (found_again view.id)
                (takes (leaf_as d (request d view.id m).leaves (request d view.id m) leaf));
            steady = steady-request d lawful view.id m steady;
            holds = hold-request d lawful m view.id steady.leaves;
            leaf_holds = nothing-held d (request d view.id m) (held-request d lawful m view.id ∙ free);
            like = record { focus = refl; log = refl; ended = refl };
          },
        )) refl

  -- ---- by the kind of the leaf

  quiet : ((look : Leaf) → captures look leaf.node.kind ≡ false) → is_enabled d m.leaves leaf.node ≡ true
      → is_control leaf.node.kind ≡ false
      → linked_by env leaf.node.kind ≡ None → Turn d m env p m
  quiet takes enabled control links =
      still
      (answer-asks d lawful p at m env leaf found enabled (takes (leaf_as d m.leaves m leaf))
      ∙ ap (λ b. focus_on (if b then Some leaf.node.id else linked_by env leaf.node.kind)) control
      ∙ ap focus_on links)
      (after-asked d lawful p at m env leaf found (takes (leaf_as d m.leaves m leaf)))

  button_turn : (grabs : Bool) → is_enabled d m.leaves leaf.node ≡ true → is_control leaf.node.kind ≡ true
      → ((look : Leaf) → captures look leaf.node.kind ≡ (not grabs || look.is_focused))
      → ((first : ℕ) (c : Content) → down_content leaf.node.kind first (mouse.column_on leaf p) (mouse.row_on leaf p) c ≡ c)
      → Turn d m env p (if grabs then focus_and_hold d leaf p m else hold d leaf 0 p m)
  button_turn true enabled control wants same = grabbing control wants enabled
  button_turn false enabled control wants same = loose (wants (leaf_as d m.leaves m leaf)) enabled same

  kind_turn : (kind : Kind) → leaf.node.kind ≡ kind → Turn d m env p (down_on d leaf kind p m)
  kind_turn (kinds.Label label) is =
      linking (λ look. ap (captures look) is) (ap (is_kind_enabled d m.leaves) is) (ap is_control is) label.link (ap (linked_by env) is)
  kind_turn (kinds.Button button) is =
      bool_cases (is_enabled d m.leaves leaf.node)
      (λ b. is_enabled d m.leaves leaf.node ≡ b
      → Turn d m env p (if b then (if button.grabs then focus_and_hold d leaf p m else hold d leaf 0 p m) else m))
      (λ on e. button_turn button.grabs e (ap is_control is) (λ look. ap (captures look) is)
      (λ first c. ap (λ k. down_content k first (mouse.column_on leaf p) (mouse.row_on leaf p) c) is))
      (λ off e. still (answer-disabled d lawful p at m env leaf found e) (after-disabled d lawful p at m env leaf found e)) refl
  kind_turn (kinds.Input input) is = grabbing (ap is_control is) (λ look. ap (captures look) is) (ap (is_kind_enabled d m.leaves) is)
  kind_turn (kinds.CheckBoxes boxes) is = grabbing (ap is_control is) (λ look. ap (captures look) is) (ap (is_kind_enabled d m.leaves) is)
  kind_turn (kinds.RadioButtons radios) is = grabbing (ap is_control is) (λ look. ap (captures look) is)
      (ap (is_kind_enabled d m.leaves) is)
  kind_turn (kinds.List list) is = grabbing (ap is_control is) (λ look. ap (captures look) is) (ap (is_kind_enabled d m.leaves) is)
  kind_turn _ is = quiet (λ look. ap (captures look) is) (ap (is_kind_enabled d m.leaves) is) (ap is_control is)
      (ap (linked_by env) is)

  leaf_turn : Turn d m env p (down_on d leaf leaf.node.kind p m)
  leaf_turn = kind_turn leaf.node.kind refl

-- ---- on the tree

module _ (d : Dialog) (m : Modal) (env : Env) (p : Point) (after : Modal) where
  -- where no view asks for the focus it is over
  pub turn-over : Turn d m env p after → ((i : Id) → down_answered d m env p ≡ Focus i → ⊥) → IsOver d m env p after
  turn-over (inl over) asks = over
  turn-over (inr asked) asks = absurd (asks asked.0 asked.1.answer)

  not_over : (i : Id) → down_answered d m env p ≡ Focus i
      → (down_answered d m env p ≡ Pass) ⊎ ((j : Id) × (down_answered d m env p ≡ Capture j)) → ⊥
  not_over i e (inl pass) = let f : Pass ≡ Focus i = sym pass ∙ e in cc
  not_over i e (inr held) = let f : Capture held.0 ≡ Focus i = sym held.1 ∙ e in cc

  -- where one asks, this is what follows
  pub turn-asks : (i : Id) → Turn d m env p after → down_answered d m env p ≡ Focus i → AsksFocus d m env p i after
  turn-asks i (inl over) e = absurd (not_over i e over.answer)
  turn-asks i (inr asked) e =
      let f : Focus asked.0 ≡ Focus i = sym asked.1.answer ∙ e in
      let same : asked.0 ≡ i = cc in
      subst (λ j. AsksFocus d m env p j after) same asked.1

-- nothing holds the mouse, and the close mark isn't meant
pub down-turn : (d : Dialog) → IsLawfulDialog d → (p : Point) → IsPointOf p → (m : Modal) → IsSteady d m → m.held ≡ None → (env : Env)
    → IsLentBy d m env
    → Turn d m env p (down_at d (mouse.topmost_leaf d m p) p m)
down-turn d lawful p at m steady free env lent =
    option_cases (mouse.topmost_leaf d m p) (λ o. mouse.topmost_leaf d m p ≡ o → Turn d m env p (down_at d o p m))
    (λ none e. inl (record {
      answer = inl (answer-topmost d lawful p at m env
          ∙ ap (λ o. hit_answer (events.Down p) phases.Focused env (option_map (placed_as d m.leaves m) o)) e);
      tree = after-same d lawful p at m env (λ leaf is. (let f : None ≡ Some leaf = sym e ∙ is in absurd cc));
      steady = steady;
      holds = hold-itself d m.leaves;
      leaf_holds = nothing-held d m free;
      like = record { focus = refl; log = refl; ended = refl };
    }))
    (λ leaf some e. leaf_turn d lawful p at m steady free env lent leaf e) refl
