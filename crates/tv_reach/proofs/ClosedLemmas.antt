-- Lists of masks that the code finds closed are closed.
use Rattle.std.proofs.Common.{◌≡◌, ◌↔◌, ◌⊎◌, inl, inr, ℕ, zero, suc, ◌+◌, ◌<◌, ◌≤◌, Bool, true, false, nat_lt, ◌&&◌, ◌==◌, List, [], ◌∷◌, find, get_or, length, take, Some, None, option_map, refl, sym, ap, subst, ◌∙◌, All, Any, arith}
use Rattle.std.specs.List.{AllZip}
use Rattle.std.specs.Prelude.{slice_get}
use Rattle.std.proofs.lemmas.Bool.{and_parts, false≢true, true≢false}
use Rattle.std.proofs.lemmas.List.{get_or_default, take_all}
use Rattle.std.proofs.lemmas.List.Elements.{All-cons, All-head, All-more, All-nil, All-tail}
use Rattle.tv_model.specs.declared.desc.Dialog.{Dialog}
use Rattle.tv_model.specs.declared.desc.Rule.{Rule}
use Rattle.tv_model.specs.declared.kind.Kind.{Kind}
use Rattle.tv_model.specs.declared.kind.Kind.TheVariants as kinds
use Rattle.tv_model.specs.declared.node.Node.{Node}
use Rattle.tv_model.specs.Description.Names.{meant}
use Rattle.tv_model.specs.Description.Numbers.{natural}
use Rattle.tv_model.specs.Kinds.Cluster.{is_marked}
use Rattle.tv_machine.specs.Controls.Declared.{declared_value}
use Rattle.tv_machine.specs.State.{LeafState}
use Rattle.tv_machine.specs.Leaves.{PlacedNode, leaf_list}
use Rattle.tv_machine.specs.Dialog.Opening.{opened_leaf, opened_leaves}
use Rattle.tv_machine.specs.Dialog.Rules.{content_by, holds, is_marked_at}
use Rattle.tv_machine.proofs.LeafLemmas.{leaf_id, state_id}
use Rattle.tv_machine.proofs.ListLemmas.{find-map, found-all, found-passes, has, id-itself, none-fails, option_cases, same-id}
use Rattle.tv_laws.proofs.WorkLemmas.{get_all}
use Rattle.tv_reach.specs.declared.mask.Mask.{Mask}
use Rattle.tv_reach.specs.declared.shown.ShownLeaf.{ShownLeaf}
use Rattle.tv_reach.specs.Marks.{is_view}
use Rattle.tv_reach.specs.Masks.{Covers, HasRule, IsClosed, IsFollowed, may_hold}
use Rattle.tv_reach.specs.Shown.{AreClosed, AreShownLeaves, HasStarting, IsLeafFollowed, IsMaskOf, IsMoved, IsPart, IsRuleFollowed, IsShownLeaf, LeadsIn, is_own_in}
use Rattle.tv_reach.proofs.MaskLemmas.{any-weaker}

pub both_true : (a b : Bool) → a ≡ true → b ≡ true → (a && b) ≡ true
both_true true b p q = q
both_true false b p q = absurd (false≢true p)

pub one_of : {A B C : Type 0} → (A → C) → (B → C) → A ⊎ B → C
one_of f g (inl a) = f a
one_of f g (inr b) = g b

-- ---- loops over lists

-- it goes on past an item with P
pub goes_on : {A : Type 0} (P : A → Type 0) (xs : List A) (i : ℕ) (x : A) → i < length xs → x ≡ get_or xs i x → All P (take i xs) → P x
    → All P (take (i + 1) xs)
goes_on P xs i x less is passed here = All-more P xs i x less passed (subst P is here)

-- it has gone past all items
pub gone : {A : Type 0} (P : A → Type 0) (xs : List A) (i : ℕ) → length xs ≤ i → All P (take i xs) → All P xs
gone P xs i past passed = subst (All P) (take_all i xs past) passed

-- what is so of each pair gives what is so of each first one
pub zip_all : {A B : Type 0} (R : A → B → Type 0) (Q : B → Type 0) (S : A → Type 0) → ((x : A) (y : B) → R x y → Q y → S x)
    → (xs : List A) (ys : List B) → AllZip R xs ys → All Q ys → All S xs
zip_all R Q S gives [] ys zip all = All-nil S
zip_all R Q S gives (x ∷ xs) [] zip all = absurd zip
zip_all R Q S gives (x ∷ xs) (y ∷ ys) zip all =
    All-cons S x xs (gives x y zip.0 (All-head Q y ys all)) (zip_all R Q S gives xs ys zip.1 (All-tail Q y ys all))

-- and the other way
pub zip_gives : {A B : Type 0} (R : A → B → Type 0) (S : A → Type 0) (Q : B → Type 0) → ((x : A) (y : B) → R x y → S x → Q y)
    → (xs : List A) (ys : List B) → AllZip R xs ys → All S xs → All Q ys
zip_gives R S Q gives [] [] zip all = All-nil Q
zip_gives R S Q gives [] (y ∷ ys) zip all = absurd zip
zip_gives R S Q gives (x ∷ xs) [] zip all = All-nil Q
zip_gives R S Q gives (x ∷ xs) (y ∷ ys) zip all =
    All-cons Q y ys (gives x y zip.0 (All-head S x xs all)) (zip_gives R S Q gives xs ys zip.1 (All-tail S x xs all))

-- there is an item at each place before the end
there_is : {A : Type 0} (xs : List A) (i : ℕ) → i < length xs → (x : A) × (slice_get xs i ≡ Some x)
there_is [] i less = absurd (omega (arith, less))
there_is (x ∷ xs) zero less = (x, refl)
there_is (x ∷ xs) (suc i) less = there_is xs i (omega (arith, less))

-- ---- a choice

-- a mask with the moved rules has what the choice and the rest have
pub part_moved : (own choice mask rest moved : Mask) → ((k : ℕ) → HasRule rest k ↔ (HasRule mask k × (HasRule own k → ⊥)))
    → ((k : ℕ) → HasRule moved k ↔ (HasRule rest k ⊎ HasRule choice k)) → (other : Mask) → IsPart moved other → IsMoved own choice mask other
part_moved own choice mask rest moved without union other part place (inl chosen) = part place ((union place).1 (inr chosen))
part_moved own choice mask rest moved without union other part place (inr kept) = part place ((union place).1 (inl ((without place).1 kept)))

-- a mask with what the choice and the rest have, has the moved rules
pub moved_part : (own choice mask rest moved : Mask) → ((k : ℕ) → HasRule rest k ↔ (HasRule mask k × (HasRule own k → ⊥)))
    → ((k : ℕ) → HasRule moved k ↔ (HasRule rest k ⊎ HasRule choice k)) → (other : Mask) → IsMoved own choice mask other → IsPart moved other
moved_part own choice mask rest moved without union other leads place has =
    leads place (one_of (λ kept. inr ((without place).0 kept)) (λ chosen. inl chosen) ((union place).0 has))

module _ (views : List Node) (rules : List Rule) (node : Node) where
  -- a rule that a mask of the node's own lacks is another's
  not_own : (own : Mask) (place : ℕ) (rule : Rule) → IsMaskOf (is_own_in views node) rules own → slice_get rules place ≡ Some rule
      → (HasRule own place → ⊥) → is_own_in views node rule ≡ false
  not_own own place rule owns there lacks = of (is_own_in views node rule) refl
    where
      of : (b : Bool) → is_own_in views node rule ≡ b → b ≡ false
      of true e = absurd (lacks ((owns place).1 (rule, there, e)))
      of false e = refl

  -- a choice that is followed has its mask
  pub leads_moved : (item : ℕ) (own choice mask : Mask) → IsMaskOf (is_own_in views node) rules own
      → IsMaskOf (λ rule. is_own_in views node rule && may_hold node.kind item rule) rules choice
      → ((place : ℕ) → HasRule mask place → place < length rules)
      → (other : Mask) → LeadsIn views rules node item mask other → IsMoved own choice mask other
  leads_moved item own choice mask owns chooses within other leads place (inl chosen) =
      let passes = (chooses place).0 chosen in
      leads place passes.0 passes.1 (inl (and_parts (is_own_in views node passes.0) (may_hold node.kind item passes.0) passes.2))
  leads_moved item own choice mask owns chooses within other leads place (inr kept) =
      let at = there_is rules place (within place kept.0) in
      leads place at.0 at.1 (inr (not_own own place at.0 owns at.1 kept.1, kept.0))

  -- a choice whose mask is had is followed
  pub moved_leads : (item : ℕ) (own choice mask : Mask) → IsMaskOf (is_own_in views node) rules own
      → IsMaskOf (λ rule. is_own_in views node rule && may_hold node.kind item rule) rules choice
      → (other : Mask) → IsMoved own choice mask other → LeadsIn views rules node item mask other
  moved_leads item own choice mask owns chooses other moved place rule there (inl both) =
      moved place (inl ((chooses place).1 (rule, there, both_true (is_own_in views node rule) (may_hold node.kind item rule) both.0 both.1)))
  moved_leads item own choice mask owns chooses other moved place rule there (inr kept) =
      moved place (inr (kept.1, λ o. apart ((owns place).0 o)))
    where
      apart : ((r : Rule) × (slice_get rules place ≡ Some r) × (is_own_in views node r ≡ true)) → ⊥
      apart own_rule =
          let both : Some rule ≡ Some own_rule.0 = sym there ∙ own_rule.1 in
          let same : rule ≡ own_rule.0 = cc in
          true≢false (sym own_rule.2 ∙ ap (is_own_in views node) (sym same) ∙ kept.0)

-- ---- each choice

same_items : (a b c : ℕ) → (a == c) ≡ true → (b == c) ≡ true → (b == a) ≡ true
same_items a b c e f = grind (arith)

-- what may hold with an item may hold with that of each rule that may
hold_alike : (kind : Kind) (item : ℕ) (rule other : Rule) → may_hold kind item rule ≡ true → may_hold kind item other ≡ true
    → may_hold kind (natural rule.item) other ≡ true
hold_alike (kinds.RadioButtons radios) item rule other e f = same_items (natural rule.item) (natural other.item) item e f
hold_alike _ item rule other e f = refl

module _ (views : List Node) (rules : List Rule) (masks : List Mask) (shown : ShownLeaf) where
  abbrev node : Node
  node = shown.node.now

  abbrev test : ℕ → Rule → Bool
  test item rule = is_own_in views node rule && may_hold node.kind item rule

  -- where none of its rules may hold then, the mask has what may hold
  stays : (item : ℕ) (here : Mask) → find (test item) rules ≡ None → LeadsIn views rules node item here here
  stays item here none place rule there (inl both) =
      absurd (true≢false (sym (both_true (is_own_in views node rule) (may_hold node.kind item rule) both.0 both.1)
      ∙ get_all (λ r. test item r ≡ false) rules place rule (none-fails (test item) rules none) there))
  stays item here none place rule there (inr kept) = kept.1

  as_well : (item : ℕ) (rule : Rule) (here other : Mask) → may_hold node.kind item rule ≡ true
      → LeadsIn views rules node (natural rule.item) here other → LeadsIn views rules node item here other
  as_well item rule here other may leads place r there (inl both) =
      leads place r there (inl (both.0, hold_alike node.kind item rule r may both.1))
  as_well item rule here other may leads place r there (inr kept) = leads place r there (inr kept)

  -- where each choice that rules ask for is followed, so is each choice
  pub each_choice : All (IsRuleFollowed views rules masks shown) rules → IsLeafFollowed views rules masks shown
  each_choice all = λ k mask h part item.
      let here = get_or masks k mask in
      option_cases (find (test item) rules) (λ o. find (test item) rules ≡ o → Any (LeadsIn views rules node item here) masks)
      (λ is none. (k, here, h, get_or_default masks k here mask h, stays item here none))
      (λ rule is found.
      let parts = and_parts (is_own_in views node rule) (may_hold node.kind item rule) (found-passes (test item) rules rule found) in
      any-weaker (LeadsIn views rules node (natural rule.item) here) (LeadsIn views rules node item here)
      (λ other leads. as_well item rule here other parts.1 leads) masks
      (found-all (IsRuleFollowed views rules masks shown) (test item) rules rule all found parts.0 k mask h part))
      refl

-- ---- the whole

module _ (d : Dialog) (masks : List Mask) (leaves : List ShownLeaf) (shown : AreShownLeaves d.views d.rules leaves) (c : AreClosed d.views d.rules masks leaves) where
  abbrev declared : PlacedNode → LeafState
  declared leaf = opened_leaf None leaf.node

  -- a leaf that is found has its rules in the start
  found_starts : (leaf : PlacedNode) (p : PlacedNode → Bool) (xs : List PlacedNode) (ys : List ShownLeaf) → AllZip (IsShownLeaf d.views d.rules) xs ys
      → All (λ y. HasStarting d.views d.rules c.start y.node.now) ys → find p xs ≡ Some leaf → HasStarting d.views d.rules c.start leaf.node
  found_starts leaf p xs ys zip all found =
      found-all (λ x. HasStarting d.views d.rules c.start x.node) p xs leaf
      (zip_all (IsShownLeaf d.views d.rules) (λ y. HasStarting d.views d.rules c.start y.node.now) (λ x. HasStarting d.views d.rules c.start x.node)
      (λ x y is has. subst (HasStarting d.views d.rules c.start) is.node has) xs ys zip all) found

  start_has : (place : ℕ) (rule : Rule) → slice_get d.rules place ≡ Some rule → holds d (opened_leaves d None) rule ≡ true → HasRule c.start place
  start_has place rule there on =
      let parts = and_parts (nat_lt 0 (natural rule.item)) (is_marked_at (opened_leaves d None) (natural rule.item) (meant d.views rule.cluster)) on in
      option_cases (meant d.views rule.cluster)
      (λ o. meant d.views rule.cluster ≡ o → is_marked_at (opened_leaves d None) (natural rule.item) o ≡ true → HasRule c.start place)
      (λ is none e. absurd (false≢true e))
      (λ node is named e.
      of node named
      (sym (ap (λ o. is_marked (content_by false o).value (natural rule.item)) (find-map declared (has state_id node.id) (leaf_list d.views))) ∙ e))
      refl parts.1
    where
      least : nat_lt 0 (natural rule.item) ≡ true
      least = (and_parts (nat_lt 0 (natural rule.item)) (is_marked_at (opened_leaves d None) (natural rule.item) (meant d.views rule.cluster)) on).0

      of : (node : Node) → meant d.views rule.cluster ≡ Some node
          → is_marked (content_by false (option_map declared (find (has leaf_id node.id) (leaf_list d.views)))).value (natural rule.item) ≡ true
          → HasRule c.start place
      of node named e =
          option_cases (find (has leaf_id node.id) (leaf_list d.views))
          (λ o. find (has leaf_id node.id) (leaf_list d.views) ≡ o
          → is_marked (content_by false (option_map declared o)).value (natural rule.item) ≡ true → HasRule c.start place)
          (λ is none f. absurd (false≢true f))
          (λ leaf is found f.
          let ids : leaf.node.id ≡ node.id = same-id leaf.node.id node.id (found-passes (has leaf_id node.id) (leaf_list d.views) leaf found) in
          let own : is_own_in d.views leaf.node rule ≡ true
          = ap (is_view leaf.node.id) named ∙ ap (λ i. i.0 == leaf.node.id.0) (sym ids) ∙ id-itself leaf.node.id in
          found_starts leaf (has leaf_id node.id) (leaf_list d.views) leaves shown c.has found place (
            rule,
            there,
            both_true (is_own_in d.views leaf.node rule) (nat_lt 0 (natural rule.item) && is_marked (declared_value leaf.node.kind) (natural rule.item)) own
                (both_true (nat_lt 0 (natural rule.item)) (is_marked (declared_value leaf.node.kind) (natural rule.item)) least f),
          ))
          refl e

  leaf_followed : (leaf : PlacedNode) (y : ShownLeaf) → IsShownLeaf d.views d.rules leaf y → IsLeafFollowed d.views d.rules masks y
      → All (λ mask. IsFollowed d masks mask leaf) masks
  leaf_followed leaf y is followed = λ k mask h may item.
      subst (λ node. Any (LeadsIn d.views d.rules node item (get_or masks k mask)) masks) is.node
      (followed k mask h (λ place has. let p = (is.by place).0 has in may place p.0 p.1 p.2) item)

  pub closes : IsClosed d masks
  closes = record {
    starts = any-weaker (IsPart c.start) (Covers d (opened_leaves d None)) (λ mask part place rule there on. part place (start_has place rule there on)) masks c.starts;
    leads = λ k mask h j leaf less.
        zip_all (IsShownLeaf d.views d.rules) (IsLeafFollowed d.views d.rules masks) (λ x. All (λ m. IsFollowed d masks m x) masks) leaf_followed
        (leaf_list d.views) leaves shown c.leads j leaf less k mask h;
  }
