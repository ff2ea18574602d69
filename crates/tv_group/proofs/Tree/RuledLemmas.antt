-- A dialog's tree after rules were applied, and after an item of a cluster was pressed.
use Rattle.std.proofs.Common.{◌≡◌, Bool, true, false, ◌==◌, ◌<◌, ℕ, if◌then◌else◌, List, length, ℤ, pos, negsuc, ◌≤ℤ◌, is_some, Option, Some, None, refl, sym, ap, subst, ◌∙◌, All, arith, slice_index_or}
use Rattle.std.proofs.lemmas.Int.{ints}
use Rattle.std.proofs.lemmas.List.Elements.{All-tail}
use Rattle.tv_model.specs.declared.node.Id.{Id}
use Rattle.tv_model.specs.declared.kind.Kind.{Kind}
use Rattle.tv_model.specs.declared.kind.Kind.TheVariants as kinds
use Rattle.tv_model.specs.declared.command.CommandSpec.{CommandSpec}
use Rattle.tv_model.specs.declared.command.CommandSpec.TheVariants as commands
use Rattle.tv_model.specs.declared.desc.Dialog.{Dialog}
use Rattle.tv_model.specs.Controls.Shortcut.{Shortcut, ItemMarks, ClusterKind, Boxes, Radios}
use Rattle.tv_model.specs.Controls.Contents.{is_item_place, Content}
use Rattle.tv_view.specs.Meaning.{Leaf, Placed}
use Rattle.tv_model.specs.Description.Commands.{command_number, command_of}
use Rattle.tv_model.specs.Description.LawfulNodes.{IsLawfulCommand, IsLimited}
use Rattle.tv_model.specs.Description.Numbers.{natural}
use Rattle.tv_machine.specs.State.{LeafState}
use Rattle.tv_machine.specs.Leaves.{PlacedNode, leaf_list}
use Rattle.tv_model.specs.Kinds.{behaviour}
use Rattle.tv_model.specs.Kinds.Cluster.{cluster_item_pressed}
use Rattle.tv_machine.specs.Dialog.Rules.{is_among, is_command_enabled, is_enabled_by, is_visible}
use Rattle.tv_machine.specs.Dialog.Modal.{Modal, content_at, leaf_at, content_put}
use Rattle.tv_view.specs.declared.env.Rules.{Rules}
use Rattle.tv_view.specs.Calls as calls
use Rattle.tv_group.specs.Calls.{all_applied, all_pressed, in_place}
use Rattle.tv_machine.specs.Dialog.Lawful.{IsLawfulDialog}
use Rattle.tv_group.specs.Tree.{IsSteady, IsSteadyContent, IsSteadyLeaf, around_of, held_at, placed_as, tree_as, tree_of}
use Rattle.tv_group.specs.TreeTurns.{cluster_pressed_at, leaf_pressed, pressed_at, shortcut_pressed_at}
use Rattle.tv_machine.proofs.ListLemmas.{bool_cases, either-same, has, map-map, none-fails, option_cases, same-id}
use Rattle.tv_group.proofs.Tree.FlagLemmas.{flagged}
use Rattle.tv_group.proofs.Tree.StandingLemmas.{standing, standing_leaf}
use Rattle.tv_machine.proofs.LeafLemmas.{HasLeaves, IsIn, content_at-changed, leaf_at-all, leaf_at-is, leaf_at-node, leaf_at-same, leaf_id, leaves-are, leaves-changed, leaves-same}
use Rattle.tv_group.proofs.Tree.TreeLemmas.{steady-leaf}

-- ---- rules

-- the rules come to what these marks make of a dialog: the leaves that are shown, and the commands that are enabled
pub record AreRulesOf (d : Dialog) (leaves : List LeafState) (rules : Rules) : Type 0 where
  pub shown : All (λ leaf. is_among rules.shown.now leaf.node.id ≡ is_visible d leaves leaf) (leaf_list d.views)
  pub enabled : (number : ℕ) → number < 256 → slice_index_or rules.commands.now number false ≡ is_command_enabled d leaves number

-- a lawful command has a number below 256
pub command-below : (c : CommandSpec) → IsLawfulCommand (Some c) → command_number c < 256
command-below commands.Quit lawful = omega arith
command-below commands.Menu lawful = omega arith
command-below commands.Close lawful = omega arith
command-below commands.Next lawful = omega arith
command-below commands.Ok lawful = omega arith
command-below commands.Cancel lawful = omega arith
command-below commands.Yes lawful = omega arith
command-below commands.No lawful = omega arith
command-below (commands.Number n) lawful = of n lawful.1
  where
    of : (z : ℤ) → z ≤ℤ pos 255 → natural z < 256
    of (pos k) h = omega (arith, ints)
    of (negsuc k) h = omega arith

enabled_same : (d : Dialog) (leaves : List LeafState) (rules : Rules) → AreRulesOf d leaves rules → (o : Option CommandSpec)
    → IsLawfulCommand o
    → calls.is_enabled_among rules.commands.now o ≡ is_enabled_by d leaves o
enabled_same d leaves rules are None lawful = refl
enabled_same d leaves rules are (Some c) lawful = are.enabled (command_number c) (command-below c lawful)

module _ (d : Dialog) (lawful : IsLawfulDialog d) where
  pub applied-as : (rules : Rules) (ruled leaves : List LeafState) (m : Modal) → AreRulesOf d leaves rules
      → all_applied rules (tree_as d ruled m) ≡ tree_as d leaves m
  unfolding all_applied calls.applied
  applied-as rules ruled leaves m are =
      map-map (placed_as d ruled m) (in_place (calls.applied rules)) (leaf_list d.views)
      ∙ leaves-same d lawful (λ leaf. in_place (calls.applied rules) (placed_as d ruled m leaf)) (placed_as d leaves m)
      (λ leaf e.
      let command = leaf_at-node IsLimited d leaf.node.id leaf (All-tail IsLimited d.node d.views lawful.limits) e in
      ap (λ b. flagged d ruled m leaf b (calls.is_kind_enabled_among rules.commands.now leaf.node.kind))
      (leaf_at-all
      (λ other. is_among rules.shown.now other.node.id ≡ is_visible d leaves other) d leaf.node.id leaf are.shown e)
      ∙ ap (flagged d ruled m leaf (is_visible d leaves leaf))
      (enabled_same d leaves rules are (command_of leaf.node.kind) command.command))

  -- the rules of its own marks
  pub applied-tree : (rules : Rules) (ruled : List LeafState) (m : Modal) → AreRulesOf d m.leaves rules
      → all_applied rules (tree_as d ruled m) ≡ tree_of d m
  applied-tree rules ruled m are = applied-as rules ruled m.leaves m are

-- ---- pressed items

-- what a leaf holds after its item was pressed: only clusters have items
abbrev pub marked_content : Shortcut → ℕ → Content → Content
marked_content (ItemMarks kind name items) item c = if is_item_place (length items) item then cluster_item_pressed kind item c else c
marked_content _ item c = c

-- the same by its kind
abbrev pub pressed_content : Kind → ℕ → Content → Content
pressed_content k item c = marked_content (behaviour k).shortcut item c

module _ (d : Dialog) (ruled : List LeafState) (leaf : PlacedNode) (c : Content) (is_focused : Bool) (held : Option ℕ) (item : ℕ) where
  abbrev stands : Content → Leaf
  stands held_now = standing_leaf d ruled leaf held_now is_focused held

  cluster_standing : (kind : ClusterKind) (count : ℕ)
      → calls.cluster_pressed kind count item (stands c) ≡ stands (if is_item_place count item then cluster_item_pressed kind item c else c)
  cluster_standing kind count = of (is_item_place count item)
    where
      of : (b : Bool) → (if b then stands (cluster_item_pressed kind item c) else stands c) ≡ stands (if b then cluster_item_pressed kind item c else c)
      of true = refl
      of false = refl

  -- the view's is the same
  pub pressed-standing : (k : Kind) → calls.kind_pressed k item (stands c) ≡ stands (pressed_content k item c)
  pressed-standing k = of (behaviour k).shortcut
    where
      of : (s : Shortcut) → calls.shortcut_pressed s item (stands c) ≡ stands (marked_content s item c)
      of (ItemMarks kind name items) = cluster_standing kind (length items)
      of _ = refl

abbrev pub put : Dialog → PlacedNode → Bool → Leaf → Placed
put d leaf is_current l = record { leaf = l; around = around_of d leaf; is_current = is_current }

pressed_place : (d : Dialog) (ruled : List LeafState) (item : ℕ) (leaf : PlacedNode) (c : Content) (is_focused : Bool) (held : Option ℕ)
    (b : Bool)
    → put d leaf is_focused
    (if b then calls.kind_pressed leaf.node.kind item (standing_leaf d ruled leaf c is_focused held)
    else standing_leaf d ruled leaf c is_focused held)
    ≡ standing d ruled leaf (if b then pressed_content leaf.node.kind item c else c) is_focused held
pressed_place d ruled item leaf c is_focused held true =
    ap (put d leaf is_focused) (pressed-standing d ruled leaf c is_focused held item leaf.node.kind)
pressed_place d ruled item leaf c is_focused held false = refl

-- what only contents change stays so
pub pressed-keeps : (P : Modal → Type 0) (d : Dialog) → ((i : Id) (c : Content) (m : Modal) → P m → P (content_put d i c m))
    → (o : Option PlacedNode) (item : ℕ) (m : Modal)
    → P m → P (leaf_pressed d o item m)
pressed-keeps P d keeps None item m p = p
pressed-keeps P d keeps (Some leaf) item m p = of (behaviour leaf.node.kind).shortcut
  where
    cluster : (kind : ClusterKind) (count : ℕ) → P (cluster_pressed_at d kind count leaf.node.id item m)
    cluster kind count =
        bool_cases (is_item_place count item)
        (λ b. P (if b then content_put d leaf.node.id (cluster_item_pressed kind item (content_at m leaf.node.id)) m else m))
        (λ is. keeps leaf.node.id (cluster_item_pressed kind item (content_at m leaf.node.id)) m p) (λ is. p)

    of : (s : Shortcut) → P (shortcut_pressed_at d s leaf.node.id item m)
    of (ItemMarks kind name items) = cluster kind (length items)
    of _ = p

steady_cluster : (kind : ClusterKind) (count item : ℕ) (c : Content) → is_some c.value ≡ true
    → is_some (if is_item_place count item then cluster_item_pressed kind item c else c).value ≡ true
steady_cluster kind count item c s =
    bool_cases (is_item_place count item) (λ b. is_some (if b then cluster_item_pressed kind item c else c).value ≡ true)
    (λ is. of kind) (λ is. s)
  where
    of : (pressed : ClusterKind) → is_some (cluster_item_pressed pressed item c).value ≡ true
    of Boxes = refl
    of Radios = refl

steady_pressed : (is_focused : Bool) (k : Kind) (item : ℕ) (c : Content) → IsSteadyContent is_focused k c
    → IsSteadyContent is_focused k (pressed_content k item c)
steady_pressed is_focused (kinds.CheckBoxes boxes) item c s = steady_cluster Boxes (length boxes.items) item c s
steady_pressed is_focused (kinds.RadioButtons radios) item c s = steady_cluster Radios (length radios.items) item c s
steady_pressed is_focused _ item c s = s

module _ (d : Dialog) (lawful : IsLawfulDialog d) (item : ℕ) (m : Modal) where
  pub focus-pressed : (i : Id) → (pressed_at d i item m).focus ≡ m.focus
  focus-pressed i = pressed-keeps (λ n. n.focus ≡ m.focus) d (λ j c n p. p) (leaf_at d i) item m refl

  pub held-pressed : (i : Id) → (pressed_at d i item m).held ≡ m.held
  held-pressed i = pressed-keeps (λ n. n.held ≡ m.held) d (λ j c n p. p) (leaf_at d i) item m refl

  pub leaves-pressed : (i : Id) → HasLeaves d m → HasLeaves d (pressed_at d i item m)
  leaves-pressed i leaves = pressed-keeps (HasLeaves d) d (λ j c n p. leaves-changed d lawful n p j c) (leaf_at d i) item m leaves

  module _ (leaves : HasLeaves d m) (leaf : PlacedNode) (e : IsIn d leaf) where
    abbrev held_then : Id → (Content → Content) → Content
    held_then i change = if leaf.node.id.0 == i.0 then change (content_at m leaf.node.id) else content_at m leaf.node.id

    of_cluster : (kind : ClusterKind) (count : ℕ) (i : Id)
        → content_at (cluster_pressed_at d kind count i item m) leaf.node.id
        ≡ held_then i (λ c. if is_item_place count item then cluster_item_pressed kind item c else c)
    of_cluster kind count i =
        bool_cases (is_item_place count item)
        (λ b. content_at (if b then content_put d i (cluster_item_pressed kind item (content_at m i)) m else m) leaf.node.id
        ≡ held_then i (λ c. if b then cluster_item_pressed kind item c else c))
        (λ is.
        content_at-changed d lawful m leaves i (cluster_item_pressed kind item (content_at m i)) leaf e
        ∙ bool_cases (leaf.node.id.0 == i.0)
        (λ b. (if b then cluster_item_pressed kind item (content_at m i) else content_at m leaf.node.id)
        ≡ (if b then cluster_item_pressed kind item (content_at m leaf.node.id) else content_at m leaf.node.id))
        (λ here. ap (λ id. cluster_item_pressed kind item (content_at m id)) (sym (same-id leaf.node.id i here))) (λ there. refl))
        (λ is. sym (either-same (leaf.node.id.0 == i.0) (content_at m leaf.node.id)))

    of_shortcut : (s : Shortcut) (i : Id)
        → content_at (shortcut_pressed_at d s i item m) leaf.node.id ≡ held_then i (marked_content s item)
    of_shortcut (ItemMarks kind name items) i = of_cluster kind (length items) i
    of_shortcut _ i = sym (either-same (leaf.node.id.0 == i.0) (content_at m leaf.node.id))

    pub content_at-pressed : (i : Id) → content_at (pressed_at d i item m) leaf.node.id ≡ held_then i (pressed_content leaf.node.kind item)
    content_at-pressed i =
        option_cases (leaf_at d i)
        (λ o. content_at (leaf_pressed d o item m) leaf.node.id ≡ held_then i (pressed_content leaf.node.kind item))
        (λ none.
        let other : (leaf.node.id.0 == i.0) ≡ false =
        leaf_at-all (λ x. has leaf_id i x ≡ false) d leaf.node.id leaf (none-fails (has leaf_id i) (leaf_list d.views) none) e in
        sym (ap (λ b. if b then pressed_content leaf.node.kind item (content_at m leaf.node.id) else content_at m leaf.node.id) other))
        (λ x found.
        of_shortcut (behaviour x.node.kind).shortcut x.node.id
        ∙ ap (λ id. held_then id (pressed_content x.node.kind item)) (leaf_at-is d i x found)
        ∙ bool_cases (leaf.node.id.0 == i.0)
        (λ b. (if b then pressed_content x.node.kind item (content_at m leaf.node.id) else content_at m leaf.node.id)
        ≡ (if b then pressed_content leaf.node.kind item (content_at m leaf.node.id) else content_at m leaf.node.id))
        (λ here.
        let both : Some x ≡ Some leaf = sym found ∙ leaf_at-same d i leaf e (same-id leaf.node.id i here) in
        let same : x ≡ leaf = cc in
        ap (λ y. pressed_content y.node.kind item (content_at m leaf.node.id)) same)
        (λ there. refl))

  pub steady-pressed : (i : Id) → IsSteady d m → IsSteady d (pressed_at d i item m)
  steady-pressed i steady = record {
    leaves = leaves-pressed i steady.leaves;
    contents = leaves-are d lawful (IsSteadyLeaf (pressed_at d i item m))
        (λ leaf e.
        let was = steady-leaf d lawful m steady leaf e in
        let is_focused = leaf.node.id.0 == m.focus.0 in
        subst (λ focus. IsSteadyContent (leaf.node.id.0 == focus.0) leaf.node.kind (content_at (pressed_at d i item m) leaf.node.id))
        (sym (focus-pressed i))
        (subst (IsSteadyContent is_focused leaf.node.kind) (sym (content_at-pressed steady.leaves leaf e i))
        (bool_cases (leaf.node.id.0 == i.0)
        (λ b. IsSteadyContent is_focused leaf.node.kind
        (if b then pressed_content leaf.node.kind item (content_at m leaf.node.id) else content_at m leaf.node.id))
        (λ here. steady_pressed is_focused leaf.node.kind item (content_at m leaf.node.id) was) (λ there. was))));
  }

  -- an item is pressed, where rules aren't applied again
  pub pressed-tree : (ruled : List LeafState) (i : Id) → HasLeaves d m
      → all_pressed i item (tree_as d ruled m) ≡ tree_as d ruled (pressed_at d i item m)
  unfolding all_pressed calls.item_pressed
  pressed-tree ruled i leaves =
      map-map (placed_as d ruled m) (in_place (calls.item_pressed i item)) (leaf_list d.views)
      ∙ leaves-same d lawful (λ leaf. in_place (calls.item_pressed i item) (placed_as d ruled m leaf))
      (placed_as d ruled (pressed_at d i item m))
      (λ leaf e.
      let c = content_at m leaf.node.id in
      let is_focused = leaf.node.id.0 == m.focus.0 in
      let held = held_at m.held leaf.node.id in
      pressed_place d ruled item leaf c is_focused held (leaf.node.id.0 == i.0)
      ∙ ap (λ x. standing d ruled leaf x is_focused held) (sym (content_at-pressed leaves leaf e i))
      ∙ ap (λ focus. standing d ruled leaf (content_at (pressed_at d i item m) leaf.node.id) (leaf.node.id.0 == focus.0) held)
      (sym (focus-pressed i))
      ∙ ap (λ h. standing d ruled leaf (content_at (pressed_at d i item m) leaf.node.id)
      (leaf.node.id.0 == (pressed_at d i item m).focus.0) (held_at h leaf.node.id))
      (sym (held-pressed i)))
