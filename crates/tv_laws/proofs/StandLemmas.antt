-- An open dialog stays as it must be where one of its leaves holds something else, and where the focus moves.
use Rattle.std.proofs.Common.{◌≡◌, Bool, true, false, cond, not, ◌&&◌, ◌||◌, ◌==◌, ℕ, nat_lt, if◌then◌else◌, List, [], ◌∷◌, map, filter, find, get_or, Option, Some, None, option_map, refl, sym, ap, subst, ◌∙◌, All, IsTrue}
use Rattle.std.proofs.lemmas.Bool.{false≢true, true≢false, or_right, false_from_ne_true}
use Rattle.std.proofs.lemmas.List.Elements.{All-nil, All-cons, All-head, All-tail}
use Rattle.tv_model.specs.declared.node.Id.{Id}
use Rattle.tv_model.specs.declared.node.Node.{Node}
use Rattle.tv_model.specs.declared.kind.Kind.{Kind}
use Rattle.tv_model.specs.declared.kind.Kind.TheVariants as kinds
use Rattle.tv_model.specs.declared.desc.Dialog.{Dialog}
use Rattle.tv_model.specs.declared.desc.Rule.{Rule}
use Rattle.tv_model.specs.declared.log.LogLine.{LogLine}
use Rattle.tv_model.specs.Kinds.InputLine.{Edit, entered, left}
use Rattle.tv_model.specs.Description.Names.{gives_name, meant}
use Rattle.tv_model.specs.Description.Nodes.{is_cluster, is_control}
use Rattle.tv_model.specs.Description.Numbers.{natural}
use Rattle.tv_machine.specs.State.{Held, LeafState}
use Rattle.tv_machine.specs.Leaves.{PlacedNode}
use Rattle.tv_model.specs.Controls.Contents.{Content}
use Rattle.tv_machine.specs.Dialog.Focus.{focus_moved, is_free_at, is_free_leaf, refocused}
use Rattle.tv_machine.specs.Dialog.Modal.{Modal, content_at, holding, leaf_at, overwrites_after, content_put}
use Rattle.tv_machine.specs.Dialog.Rules.{content_by, holds, is_among, is_enabled, is_free, is_kind_enabled, is_marked_at, is_visible, shows, state_of}
use Rattle.tv_model.specs.Kinds.Cluster.{is_marked}
use Rattle.tv_laws.specs.Fit.{IsFitContent, IsFitLeaf, IsFitModal, IsStanding}
use Rattle.tv_laws.specs.Sound.{IsSoundDialog}
use Rattle.tv_laws.proofs.ComingLemmas.{moved-fit}
use Rattle.tv_machine.proofs.RefocusLemmas.{content_at-moved, held-moved, hold-moved, leaves-moved, refocused-keeps}
use Rattle.tv_machine.proofs.LeafLemmas.{HasLeaves, IsIn, content_at-changed, leaf_at-all, leaf_at-is, leaf_at-node, leaf_at-same, leaves-are, leaves-changed, state-changed, state_id, views-apart}
use Rattle.tv_machine.proofs.ListLemmas.{all-same, among-filter, and-true, bool_cases, find-member, found-id, found-member, found-passes, has, id-itself, option_cases, same-id}
use Rattle.tv_machine.specs.Dialog.Alike.{HoldSame}
use Rattle.tv_machine.proofs.MarkLemmas.{enabled-same, free-same, hold-unclustered, visible-same}

-- ---- filters

filter_same : {A : Type 0} (p q : A → Bool) (xs : List A) → All (λ x. p x ≡ q x) xs → filter p xs ≡ filter q xs
filter_same p q [] all = refl
filter_same p q (x ∷ xs) all =
    ap (λ b. cond b (x ∷ filter p xs) (filter p xs)) (All-head (λ y. p y ≡ q y) x xs all) ∙ ap (λ ys. cond (q x) (x ∷ ys) ys) (filter_same p q xs (All-tail (λ y. p y ≡ q y) x xs all))

among_more : (x i : Id) (ids : List Id) → is_among ids i ≡ true → is_among (x ∷ ids) i ≡ true
among_more x i ids is = ap (λ b. (x.0 == i.0) || b) is ∙ or_right (x.0 == i.0) true refl

among_self : (ids : List Id) → All (λ i. is_among ids i ≡ true) ids
among_self [] = All-nil (λ i. is_among [] i ≡ true)
among_self (x ∷ ids) =
    All-cons (λ i. is_among (x ∷ ids) i ≡ true) x ids (ap (λ b. b || is_among ids x) (id-itself x)) (λ k e h. among_more x (get_or ids k e) ids (among_self ids k e h))

-- what is filtered stands in order
pub filter-ordered : (p : Id → Bool) (ids : List Id) → filter p ids ≡ filter (is_among (filter p ids)) ids
filter-ordered p ids =
    filter_same p (is_among (filter p ids)) ids
    (λ k e h. sym (among-filter p ids (get_or ids k e) ∙ ap (λ b. p (get_or ids k e) && b) (among_self ids k e h) ∙ and-true (p (get_or ids k e))))

module _ (d : Dialog) (sound : IsSoundDialog d) where
  -- ---- a leaf holds something else

  pub standing-leaf : (m : Modal) → IsStanding d m → (leaf : PlacedNode) → IsIn d leaf → IsFitLeaf m leaf
  standing-leaf m s leaf e = leaf_at-all (IsFitLeaf m) d leaf.node.id leaf s.contents e

  pub standing-changed : (m : Modal) (i : Id) (c : Content) (leaf : PlacedNode) → IsStanding d m → leaf_at d i ≡ Some leaf
      → IsFitContent (leaf.node.id.0 == m.focus.0) leaf.node.kind c
      → IsStanding d (content_put d i c m)
  standing-changed m i c leaf s there fits = record {
    leaves = leaves-changed d sound.lawful m s.leaves i c;
    contents = leaves-are d sound.lawful (IsFitLeaf (content_put d i c m))
        (λ other e. subst (IsFitContent (other.node.id.0 == m.focus.0) other.node.kind) (sym (content_at-changed d sound.lawful m s.leaves i c other e))
        (bool_cases (other.node.id.0 == i.0) (λ b. IsFitContent (other.node.id.0 == m.focus.0) other.node.kind (if b then c else content_at m other.node.id))
        (λ here.
        let both : Some leaf ≡ Some other = sym there ∙ leaf_at-same d i other e (same-id other.node.id i here) in
        let same : leaf ≡ other = cc in
        subst (λ x. IsFitContent (x.node.id.0 == m.focus.0) x.node.kind c) same fits)
        (λ apart. standing-leaf m s other e)));
    ordered = filter-ordered (overwrites_after m.overwriting i c.overwrites) (map (λ view. view.id) d.views);
  }

  -- ---- the leaf that holds something else stays as visible and as free as it was

  module _ (m : Modal) (leaves : HasLeaves d m) (i : Id) (c : Content) (leaf : PlacedNode) (there : leaf_at d i ≡ Some leaf) where
    abbrev changed : List LeafState
    changed = (content_put d i c m).leaves

    marked_other : (item : ℕ) (node : Node) → (node.id.0 == i.0) ≡ false
        → is_marked_at m.leaves item (Some node) ≡ is_marked_at changed item (Some node)
    marked_other item node apart =
        option_cases (state_of m.leaves node.id) (λ o. is_marked (content_by false o).value item ≡ is_marked (content_by false (option_map (holding i c) o)).value item)
        (λ none. refl)
        (λ s found.
        ap (λ b. is_marked (if b then record s { value = c.value; private = c.private } else s).value item)
        (sym (ap (λ id. id.0 == i.0) (found-id state_id node.id m.leaves s found) ∙ apart)))
        ∙ ap (λ o. is_marked (content_by false o).value item) (sym (state-changed d sound.lawful m leaves i c node.id))

    -- a cluster that a rule names is the leaf's node where it has its id
    named_itself : (name : List ℕ) (node : Node) → meant d.views name ≡ Some node → (node.id.0 == i.0) ≡ true
        → gives_name name leaf.node ≡ true
    named_itself name node named here =
        let first : find (has (λ view. view.id) node.id) d.views ≡ Some node = found-member (λ view. view.id) (gives_name name) d.views node (views-apart d sound.lawful) named in
        let second : find (has (λ view. view.id) leaf.node.id) d.views ≡ Some leaf.node =
        leaf_at-node (λ view. find (has (λ other. other.id) view.id) d.views ≡ Some view) d i leaf (find-member (λ view. view.id) d.views (views-apart d sound.lawful)) there in
        let ids : node.id ≡ leaf.node.id = same-id node.id i here ∙ sym (leaf_at-is d i leaf there) in
        let both : Some node ≡ Some leaf.node = sym first ∙ ap (λ id. find (has (λ view. view.id) id) d.views) ids ∙ second in
        let same : node ≡ leaf.node = cc in
        ap (gives_name name) (sym same) ∙ found-passes (gives_name name) d.views node named

    -- a rule that shows the leaf goes by another cluster
    rule_same : (rule : Rule) → (IsTrue (gives_name rule.cluster leaf.node) → shows d.views leaf rule.effect ≡ false)
        → (not (shows d.views leaf rule.effect) || holds d m.leaves rule) ≡ (not (shows d.views leaf rule.effect) || holds d changed rule)
    rule_same rule others =
        bool_cases (shows d.views leaf rule.effect) (λ b. (not b || holds d m.leaves rule) ≡ (not b || holds d changed rule))
        (λ shown.
        ap (λ b. nat_lt 0 (natural rule.item) && b)
        (option_cases (meant d.views rule.cluster) (λ o. is_marked_at m.leaves (natural rule.item) o ≡ is_marked_at changed (natural rule.item) o)
        (λ none. refl)
        (λ node named. marked_other (natural rule.item) node
        (false_from_ne_true (node.id.0 == i.0) (λ here. true≢false (sym shown ∙ others (named_itself rule.cluster node named here)))))))
        (λ hidden. refl)

    own-visible : is_visible d m.leaves leaf ≡ is_visible d changed leaf
    own-visible =
        all-same (λ rule. not (shows d.views leaf rule.effect) || holds d m.leaves rule) (λ rule. not (shows d.views leaf rule.effect) || holds d changed rule) d.rules
        (λ k e h. rule_same (get_or d.rules k e) (leaf_at-all (λ x. IsTrue (gives_name (get_or d.rules k e).cluster x.node) → shows d.views x (get_or d.rules k e).effect ≡ false) d i leaf (sound.shown k e h) there))

    cluster_enabled : (k : Kind) (a b : List LeafState) → is_cluster k ≡ true → is_kind_enabled d a k ≡ is_kind_enabled d b k
    cluster_enabled (kinds.CheckBoxes boxes) a b is = refl
    cluster_enabled (kinds.RadioButtons radios) a b is = refl
    cluster_enabled _ a b is = absurd (false≢true is)

    pub own-free : is_free d m.leaves leaf ≡ is_free d changed leaf
    own-free =
        bool_cases (is_cluster leaf.node.kind) (λ b. is_cluster leaf.node.kind ≡ b → is_free d m.leaves leaf ≡ is_free d changed leaf)
        (λ e is. ap (λ b. is_control leaf.node.kind && (b && is_enabled d m.leaves leaf.node)) own-visible
        ∙ ap (λ b. is_control leaf.node.kind && (is_visible d changed leaf && b)) (cluster_enabled leaf.node.kind m.leaves changed is))
        (λ e is. free-same d m.leaves changed (hold-unclustered d sound.lawful m leaves i c leaf there is) leaf) refl

  -- ---- what the focus needs

  pub free_at-same : (a b : List LeafState) (i : Id) → HoldSame d a b → is_free_at d a i ≡ is_free_at d b i
  free_at-same a b i same = of (leaf_at d i)
    where
      of : (o : Option PlacedNode) → is_free_leaf d a o ≡ is_free_leaf d b o
      of None = refl
      of (Some leaf) = free-same d a b same leaf

  -- ---- the dialog

  -- where every item is marked as it was
  pub fit-same : (m : Modal) (i : Id) (c : Content) (leaf : PlacedNode) → IsFitModal d m → leaf_at d i ≡ Some leaf
      → IsFitContent (leaf.node.id.0 == m.focus.0) leaf.node.kind c
      → HoldSame d m.leaves (content_put d i c m).leaves → IsFitModal d (content_put d i c m)
  fit-same m i c leaf fit there fits same =
      let after = (content_put d i c m).leaves in
      record {
        standing = standing-changed m i c leaf fit.standing there fits;
        focus = sym (free_at-same m.leaves after m.focus same) ∙ fit.focus;
        held = λ h e. let x = fit.held h e in record {
          leaf = x.leaf;
          there = x.there;
          visible = sym (visible-same d m.leaves after same x.leaf) ∙ x.visible;
          enabled = sym (enabled-same d m.leaves after same x.leaf.node) ∙ x.enabled;
          near = x.near;
        };
      }

  -- where the focus holds something else, and no leaf the mouse
  pub fit-focus : (m : Modal) (c : Content) (leaf : PlacedNode) → IsFitModal d m → leaf_at d m.focus ≡ Some leaf
      → IsFitContent true leaf.node.kind c → m.held ≡ None
      → IsFitModal d (content_put d m.focus c m)
  fit-focus m c leaf fit there fits idle =
      let after = (content_put d m.focus c m).leaves in
      let flag : (leaf.node.id.0 == m.focus.0) ≡ true = ap (λ id. id.0 == m.focus.0) (leaf_at-is d m.focus leaf there) ∙ id-itself m.focus in
      record {
        standing = standing-changed m m.focus c leaf fit.standing there (subst (λ b. IsFitContent b leaf.node.kind c) (sym flag) fits);
        focus =
            ap (is_free_leaf d after) there ∙ sym (own-free m fit.standing.leaves m.focus c leaf there) ∙ sym (ap (is_free_leaf d m.leaves) there) ∙ fit.focus;
        held = λ h e. absurd (none_some h (sym idle ∙ e));
      }
    where
      none_some : (h : Held) → None ≡ Some h → ⊥
      none_some h e = cc

  -- what was logged, and whether it ended, changes nothing
  pub fit-logged : (m : Modal) (log : List LogLine) (over : Option ℕ) → IsFitModal d m → IsFitModal d (record m { log = log; ended = over })
  fit-logged m log over fit = record {
    standing = record { leaves = fit.standing.leaves; contents = fit.standing.contents; ordered = fit.standing.ordered };
    focus = fit.focus;
    held = λ h e. let x = fit.held h e in record { leaf = x.leaf; there = x.there; visible = x.visible; enabled = x.enabled; near = x.near };
  }

  -- ---- the focus moves

  ordered_refocused : (edit : Edit → Edit) (o : Option PlacedNode) (m : Modal)
      → m.overwriting ≡ filter (is_among m.overwriting) (map (λ view. view.id) d.views)
      → (refocused d edit o m).overwriting ≡ filter (is_among (refocused d edit o m).overwriting) (map (λ view. view.id) d.views)
  ordered_refocused edit o m ordered =
      refocused-keeps (λ n. n.overwriting ≡ filter (is_among n.overwriting) (map (λ view. view.id) d.views)) d
      (λ i c n p. filter-ordered (overwrites_after n.overwriting i c.overwrites) (map (λ view. view.id) d.views)) edit o m ordered

  pub standing-moved : (m : Modal) (i : Id) → IsStanding d m → IsStanding d (focus_moved d i m)
  standing-moved m i s = record {
    leaves = leaves-moved d sound.lawful m i s.leaves;
    contents = leaves-are d sound.lawful (IsFitLeaf (focus_moved d i m))
        (λ leaf e. subst (IsFitContent (leaf.node.id.0 == i.0) leaf.node.kind) (sym (content_at-moved d sound.lawful m i s.leaves leaf e))
        (moved-fit (leaf.node.id.0 == i.0) (leaf.node.id.0 == m.focus.0) leaf.node.kind (content_at m leaf.node.id) (standing-leaf m s leaf e)));
    ordered = ordered_refocused entered (leaf_at d i) (refocused d left (leaf_at d m.focus) m) (ordered_refocused left (leaf_at d m.focus) m s.ordered);
  }

  pub fit-moved : (m : Modal) (i : Id) → IsStanding d m → is_free_at d m.leaves i ≡ true → m.held ≡ None → IsFitModal d (focus_moved d i m)
  fit-moved m i s is idle = record {
    standing = standing-moved m i s;
    focus = sym (free_at-same m.leaves (focus_moved d i m).leaves i (hold-moved d sound.lawful m i s.leaves)) ∙ is;
    held = λ h e. absurd (none_some h (sym (held-moved d sound.lawful m i ∙ idle) ∙ e));
  }
    where
      none_some : (h : Held) → None ≡ Some h → ⊥
      none_some h e = cc
