-- Of two leaves that rules of the same radio buttons show by different items, no more than one is visible.
use Rattle.std.proofs.Common.{if◌then◌else◌, ◌≡◌, ℕ, Bool, true, not, ◌||◌, ◌&&◌, List, [], ◌∷◌, Some, None, refl, sym, ap, ◌∙◌, subst}
use Rattle.std.specs.Prelude.{Any, filter, find, is_some, nat_lt}
use Rattle.std.proofs.lemmas.Bool.{and_parts, eqb-true}
use Rattle.std.proofs.lemmas.List.Sums.{AllPass-from_list_all}
use Rattle.tv_model.specs.declared.node.Node.{Node}
use Rattle.tv_model.specs.declared.record.Value.TheVariants as values
use Rattle.tv_model.specs.declared.desc.Dialog.{Dialog}
use Rattle.tv_model.specs.declared.desc.Rule.{Rule}
use Rattle.tv_model.specs.Description.Names.{meant}
use Rattle.tv_model.specs.Description.Numbers.{natural}
use Rattle.tv_machine.specs.State.{LeafState}
use Rattle.tv_model.specs.Description.Owners.{owner_by}
use Rattle.tv_machine.specs.Leaves.{PlacedNode, leaf_list}
use Rattle.tv_machine.specs.Dialog.Modal.{Modal}
use Rattle.tv_machine.specs.Dialog.Shortcuts.{act_on, called, is_visible_marker, marker_among, marking_leaf, marking_leaves}
use Rattle.tv_model.specs.Kinds.Cluster.{is_marked}
use Rattle.tv_machine.specs.Dialog.Lawful.{AreShownApart, ShowsBy}
use Rattle.tv_machine.specs.Dialog.Rules.{content_held, holds, is_marked_at, is_visible, shows}
use Rattle.tv_machine.proofs.ListLemmas.{bool_cases}

module _ (d : Dialog) (leaves : List LeafState) (radios : Node) where
  -- while the leaf is visible, the item by which it is shown is marked
  pub visible_marked : (leaf : PlacedNode) (item : ℕ) → Any (ShowsBy d radios item leaf) d.rules → is_visible d leaves leaf ≡ true
      → is_marked (content_held leaves [] radios.id).value item ≡ true
  visible_marked leaf item shown visible =
      let rule : Rule = shown.1 in
      let s : ShowsBy d radios item leaf rule = shown.4 in
      let passes : (not (shows d.views leaf rule.effect) || holds d leaves rule) ≡ true =
      subst (λ r. (not (shows d.views leaf r.effect) || holds d leaves r) ≡ true) shown.3
      (AllPass-from_list_all (λ r. not (shows d.views leaf r.effect) || holds d leaves r) d.rules visible shown.0 rule shown.2) in
      let held : holds d leaves rule ≡ true =
      subst (λ b. (not b || holds d leaves rule) ≡ true) s.showing passes in
      let marked : is_marked_at leaves (natural rule.item) (meant d.views rule.cluster) ≡ true =
      (and_parts (nat_lt 0 (natural rule.item)) (is_marked_at leaves (natural rule.item) (meant d.views rule.cluster)) held).1 in
      let by : is_marked_at leaves (natural rule.item) (Some radios) ≡ true =
      subst (λ o. is_marked_at leaves (natural rule.item) o ≡ true) s.cluster marked in
      subst (λ n. is_marked (content_held leaves [] radios.id).value n ≡ true) s.marked by

-- of two leaves that are shown by different items no more than one is visible, since one item is marked
pub one_visible : (d : Dialog) (leaves : List LeafState) (leaf other : PlacedNode) (apart : AreShownApart d leaf other) (v : ℕ)
    → (content_held leaves [] apart.radios.id).value ≡ Some (values.Item v) → is_visible d leaves leaf ≡ true → is_visible d leaves other ≡ true → ⊥
one_visible d leaves leaf other apart v one first second =
    let at : v ≡ apart.item = eqb-true v apart.item (subst (λ o. is_marked o apart.item ≡ true) one (visible_marked d leaves apart.radios leaf apart.item apart.shown first)) in
    let too : v ≡ apart.other_item = eqb-true v apart.other_item (subst (λ o. is_marked o apart.other_item ≡ true) one (visible_marked d leaves apart.radios other apart.other_item apart.other_shown second)) in
    apart.apart (sym at ∙ too)

-- ---- what the marker does

-- what is found among what passes a test
find_filter : {A : Type 0} (p q : A → Bool) (xs : List A) → find p (filter q xs) ≡ find (λ x. q x && p x) xs
find_filter p q [] = refl
find_filter p q (x ∷ xs) =
    bool_cases (q x) (λ b. find p (if b then x ∷ filter q xs else filter q xs) ≡ (if b && p x then Some x else find (λ y. q y && p y) xs))
    (λ yes. ap (λ o. if p x then Some x else o) (find_filter p q xs)) (λ no. find_filter p q xs)

-- of some markers the one that acts is the visible one, if any is
acts_among : (d : Dialog) (letter : ℕ) (m : Modal) (markers : List PlacedNode)
    → act_on d letter (marker_among d m.leaves markers) m ≡ act_on d letter (find (is_visible d m.leaves) markers) m
acts_among d letter m [] = refl
acts_among d letter m (marker ∷ []) =
    bool_cases (is_visible d m.leaves marker)
    (λ b. (if b then called d letter marker marker.node.kind m else m) ≡ act_on d letter (if b then Some marker else None) m)
    (λ yes. sym (ap (λ b. if b then called d letter marker marker.node.kind m else m) yes)) (λ no. refl)
acts_among d letter m (marker ∷ other ∷ others) = refl

-- a letter does what the first visible leaf that marks it does
pub acts_visible : (d : Dialog) (letter : ℕ) (m : Modal)
    → act_on d letter (marking_leaf d m.leaves letter) m
    ≡ act_on d letter (find (is_visible_marker d m.leaves letter) (leaf_list d.views)) m
acts_visible d letter m =
    acts_among d letter m (marking_leaves d letter)
    ∙ ap (λ o. act_on d letter o m) (find_filter (is_visible d m.leaves) (λ leaf. is_some (owner_by letter leaf.node.kind)) (leaf_list d.views))
