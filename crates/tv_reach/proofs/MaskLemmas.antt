-- What lies within a closed list of masks stays there, and what may be shown and enabled then.
use Rattle.std.proofs.Common.{◌≡◌, inl, inr, Bool, true, false, not, nat_lt, ◌||◌, ◌==◌, ℕ, zero, suc, List, [], ◌∷◌, get_or, Option, Some, None, refl, sym, subst, ◌∙◌, All, Any, arith}
use Rattle.std.specs.List.{list_all}
use Rattle.std.specs.Prelude.{slice_get}
use Rattle.std.proofs.lemmas.Bool.{and_parts, false≢true}
use Rattle.tv_model.specs.declared.node.Node.{Node}
use Rattle.tv_model.specs.declared.desc.Dialog.{Dialog}
use Rattle.tv_model.specs.declared.desc.Rule.{Rule}
use Rattle.tv_model.specs.declared.kind.Kind.{Kind}
use Rattle.tv_model.specs.declared.kind.Kind.TheVariants as kinds
use Rattle.tv_model.specs.declared.record.Value.{Value}
use Rattle.tv_model.specs.declared.record.Value.TheVariants as values
use Rattle.tv_model.specs.Kinds.Cluster.{is_marked}
use Rattle.tv_model.specs.Description.Names.{meant}
use Rattle.tv_model.specs.Description.Numbers.{natural}
use Rattle.tv_machine.specs.State.{LeafState}
use Rattle.tv_machine.specs.Leaves.{PlacedNode, leaf_list}
use Rattle.tv_machine.specs.Dialog.Alike.{HoldSame}
use Rattle.tv_machine.specs.Dialog.Modal.{Modal, content_at}
use Rattle.tv_machine.specs.Dialog.Rules.{content_held, enables, holds, is_among, is_command_enabled, is_marked_at, is_visible, shows, state_of}
use Rattle.tv_machine.specs.Dialog.Step.{dialog_step}
use Rattle.tv_machine.specs.Safe.{HasValueOf}
use Rattle.tv_machine.proofs.LeafLemmas.{IsIn, leaf_at-all}
use Rattle.tv_machine.proofs.ListLemmas.{bool_cases, same-id}
use Rattle.tv_machine.proofs.MarkLemmas.{value_by}
use Rattle.tv_laws.specs.Fit.{IsStanding}
use Rattle.tv_laws.specs.Sound.{IsSoundDialog}
use Rattle.tv_laws.proofs.StandLemmas.{standing-leaf}
use Rattle.tv_laws.proofs.StepLemmas.{stays-fit}
use Rattle.tv_laws.proofs.WorkLemmas.{get_all, nothing}
use Rattle.tv_reach.specs.declared.mask.Mask.{Mask}
use Rattle.tv_reach.specs.Marks.{IsMove, MovesOne, is_view}
use Rattle.tv_reach.specs.Masks.{ClosedHolds, Covers, HasRules, IsClosed, IsFollowed, LeadsTo, LiesWithin, MayEnable, MayHoldThen, MayShow, is_own, may_hold}
use Rattle.tv_reach.proofs.MoveLemmas.{events-move-one}

-- ---- lists

pub any-weaker : {A : Type 0} (P Q : A → Type 0) → ((x : A) → P x → Q x) → (xs : List A) → Any P xs → Any Q xs
any-weaker P Q weaker xs any = (any.0, any.1, any.2, any.3, weaker any.1 any.4)

-- what is so of each element is so of one that there is
pub at-any : {A B : Type 0} (P : A → Type 0) (Q : A → Type 0) (xs : List A) → All P xs → Any Q xs → ((x : A) → P x → Q x → B) → B
at-any P Q xs all any of = of any.1 (subst P any.3 (all any.0 any.1 any.2)) any.4

list_all-at : {A : Type 0} (p : A → Bool) (xs : List A) (k : ℕ) (x : A) → list_all p xs ≡ true → slice_get xs k ≡ Some x → p x ≡ true
list_all-at p [] k x all there = absurd (nothing x there)
list_all-at p (y ∷ xs) zero x all there =
    let same : y ≡ x = cc in subst (λ z. p z ≡ true) same (and_parts (p y) (list_all p xs) all).0
list_all-at p (y ∷ xs) (suc k) x all there = list_all-at p xs k x (and_parts (p y) (list_all p xs) all).1 there

asked : (asks is : Bool) → (not asks || is) ≡ true → asks ≡ true → is ≡ true
asked true is e on = e
asked false is e on = absurd (false≢true on)

-- ---- one mask

module _ (d : Dialog) (leaves : List LeafState) (mask : Mask) (covers : Covers d leaves mask) where
  may_all : (asks : Rule → Bool) → list_all (λ rule. not (asks rule) || holds d leaves rule) d.rules ≡ true → HasRules d asks mask
  may_all asks all place rule there on =
      covers place rule there
      (asked (asks rule) (holds d leaves rule) (list_all-at (λ r. not (asks r) || holds d leaves r) d.rules place rule all there) on)

  -- what is visible may be shown
  pub visible-may : (leaf : PlacedNode) → is_visible d leaves leaf ≡ true → MayShow d leaf mask
  visible-may leaf visible = may_all (λ rule. shows d.views leaf rule.effect) visible

  -- and what is enabled may be enabled
  pub enabled-may : (number : ℕ) → is_command_enabled d leaves number ≡ true → MayEnable d number mask
  enabled-may number enabled = may_all (λ rule. enables number rule.effect) enabled

pub covers-same : (d : Dialog) (before after : List LeafState) (mask : Mask) → HoldSame d before after → Covers d before mask → Covers d after mask
covers-same d before after mask same covers place rule there on =
    covers place rule there (get_all (λ r. holds d before r ≡ holds d after r) d.rules place rule same there ∙ on)

-- where the same rules hold they lie within the same mask
pub lies-same : (d : Dialog) (masks : List Mask) (before after : List LeafState) → HoldSame d before after → LiesWithin d masks before
    → LiesWithin d masks after
lies-same d masks before after same = any-weaker (Covers d before) (Covers d after) (λ mask. covers-same d before after mask same) masks

module _ (d : Dialog) (sound : IsSoundDialog d) where
  -- ---- one leaf's marks

  -- the rules of the leaf that hold are those of one item
  record HasOneItem (leaf : PlacedNode) (after : List LeafState) : Type 0 where
    item : ℕ
    allowed : All (λ rule. is_own d leaf rule ≡ true → holds d after rule ≡ true → may_hold leaf.node.kind item rule ≡ true) d.rules

  abbrev item_of_value : Option Value → ℕ
  item_of_value (Some (values.Item item)) = item
  item_of_value _ = 0

  marked_item : (v : Option Value) (k : Kind) → HasValueOf k v → (rule : Rule) → is_marked v (natural rule.item) ≡ true
      → may_hold k (item_of_value v) rule ≡ true
  marked_item None k fits rule on = absurd (false≢true on)
  marked_item (Some (values.Text text)) k fits rule on = absurd (false≢true on)
  marked_item (Some (values.Marks marks)) (kinds.RadioButtons radios) fits rule on = absurd fits
  marked_item (Some (values.Marks marks)) _ fits rule on = refl
  marked_item (Some (values.Item item)) (kinds.RadioButtons radios) fits rule on = swap item (natural rule.item) on
    where
      swap : (a b : ℕ) → (a == b) ≡ true → (b == a) ≡ true
      swap a b e = grind (arith)
  marked_item (Some (values.Item item)) _ fits rule on = refl

  one_item : (m : Modal) → IsStanding d m → (leaf : PlacedNode) → IsIn d leaf → HasOneItem leaf m.leaves
  one_item m s leaf e =
      let v = (content_at m leaf.node.id).value in
      record {
        item = item_of_value v;
        allowed = λ k r h own on.
            let rule = get_or d.rules k r in
            of rule (meant d.views rule.cluster) own
            (and_parts (nat_lt 0 (natural rule.item)) (is_marked_at m.leaves (natural rule.item) (meant d.views rule.cluster)) on).1;
      }
    where
      of : (rule : Rule) (o : Option Node) → is_view leaf.node.id o ≡ true → is_marked_at m.leaves (natural rule.item) o ≡ true
          → may_hold leaf.node.kind (item_of_value (content_at m leaf.node.id).value) rule ≡ true
      of rule None own on = absurd (false≢true own)
      of rule (Some node) own on =
          let is : node.id ≡ leaf.node.id = same-id node.id leaf.node.id own in
          let here : is_marked (content_held m.leaves [] leaf.node.id).value (natural rule.item) ≡ true
          = subst (λ i. is_marked (content_held m.leaves [] i).value (natural rule.item) ≡ true) is on in
          let same : (content_held m.leaves [] leaf.node.id).value ≡ (content_at m leaf.node.id).value
          = value_by (is_among [] leaf.node.id) (state_of m.leaves leaf.node.id)
          ∙ sym (value_by (is_among m.overwriting leaf.node.id) (state_of m.leaves leaf.node.id)) in
          marked_item (content_at m leaf.node.id).value leaf.node.kind (standing-leaf d sound m s leaf e).safe.value rule
          (subst (λ v. is_marked v (natural rule.item) ≡ true) same here)

  -- ---- closed lists

  module _ (masks : List Mask) (closed : IsClosed d masks) (before after : List LeafState) where
    -- after a move the rules that hold lie within the mask to which it leads
    covers_moved : (move : IsMove d before after) (one : HasOneItem move.leaf after) (mask other : Mask)
        → Covers d before mask → LeadsTo d move.leaf one.item mask other → Covers d after other
    covers_moved move one mask other covers leads place rule there on = leads place rule there moved
      where
        moved : MayHoldThen d move.leaf one.item mask place rule
        moved =
            bool_cases (is_own d move.leaf rule)
            (λ b. is_own d move.leaf rule ≡ b → MayHoldThen d move.leaf one.item mask place rule)
            (λ is e. inl (
              e,
              get_all (λ r. is_own d move.leaf r ≡ true → holds d after r ≡ true → may_hold move.leaf.node.kind one.item r ≡ true) d.rules place rule
                  one.allowed there e on,
            ))
            (λ is e. inr (
              e,
              covers place rule there
                  (get_all (λ r. is_own d move.leaf r ≡ false → holds d before r ≡ holds d after r) d.rules place rule move.marks there e ∙ on),
            ))
            refl

    move-within : (move : IsMove d before after) → HasOneItem move.leaf after → LiesWithin d masks before → LiesWithin d masks after
    move-within move one lies =
        at-any (λ mask. All (IsFollowed d masks mask) (leaf_list d.views)) (Covers d before) masks closed.leads lies
        (λ mask followed covers.
        any-weaker (LeadsTo d move.leaf one.item mask) (Covers d after) (λ other. covers_moved move one mask other covers) masks
        (leaf_at-all (IsFollowed d masks mask) d move.leaf.node.id move.leaf followed move.there
        (visible-may d before mask covers move.leaf move.visible) one.item))

  pub closed-holds : ClosedHolds d
  closed-holds masks m e closed o given lies = of (events-move-one d sound m e o)
    where
      of : MovesOne d m.leaves (dialog_step d e m).leaves → LiesWithin d masks (dialog_step d e m).leaves
      of (inl same) = lies-same d masks m.leaves (dialog_step d e m).leaves same.marks lies
      of (inr move) =
          move-within masks closed m.leaves (dialog_step d e m).leaves move
          (one_item (dialog_step d e m) (stays-fit d sound m e o given).fit.standing move.leaf move.there) lies
