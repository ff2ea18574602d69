-- A list of masks that is closed is found to be so.
use Rattle.std.proofs.Common.{◌≡◌, ℕ, Bool, true, false, nat_lt, ◌&&◌, List, get_or, Option, Some, None, option_map, sym, ap, subst, ◌∙◌, All, Any}
use Rattle.std.proofs.lemmas.Bool.{and_parts, false≢true}
use Rattle.tv_model.specs.declared.desc.Dialog.{Dialog}
use Rattle.tv_model.specs.declared.desc.Rule.{Rule}
use Rattle.tv_model.specs.declared.node.Node.{Node}
use Rattle.tv_model.specs.Description.Names.{meant}
use Rattle.tv_model.specs.Description.Numbers.{natural}
use Rattle.tv_model.specs.Kinds.Cluster.{is_marked}
use Rattle.tv_machine.specs.Controls.Declared.{declared_value}
use Rattle.tv_machine.specs.State.{LeafState}
use Rattle.tv_machine.specs.Leaves.{PlacedNode, leaf_list}
use Rattle.tv_machine.specs.Dialog.Lawful.{IsLawfulDialog}
use Rattle.tv_machine.specs.Dialog.Opening.{opened_leaf, opened_leaves}
use Rattle.tv_machine.specs.Dialog.Rules.{content_by, holds, is_marked_at, state_of}
use Rattle.tv_machine.proofs.LeafLemmas.{IsIn, leaves-are, state_id}
use Rattle.tv_machine.proofs.ListLemmas.{find-map, has, same-id}
use Rattle.tv_reach.specs.declared.mask.Mask.{Mask}
use Rattle.tv_reach.specs.declared.shown.ShownLeaf.{ShownLeaf}
use Rattle.tv_reach.specs.Marks.{is_view}
use Rattle.tv_reach.specs.Masks.{Covers, HasRule, IsClosed, IsFollowed}
use Rattle.tv_reach.specs.Shown.{AreShownLeaves, HasStart, IsLeafFollowed, IsShownLeaf, LeadsIn, Passes, is_own_in, starts_in}
use Rattle.tv_reach.proofs.ClosedLemmas.{both_true, zip_gives}
use Rattle.tv_reach.proofs.FoundLemmas.{zip_any}
use Rattle.tv_reach.proofs.MaskLemmas.{any-weaker, at-any}

module _ (d : Dialog) (lawful : IsLawfulDialog d) where
  -- ---- the start

  abbrev declared : PlacedNode → LeafState
  declared leaf = opened_leaf None leaf.node

  -- what a rule asks for is marked as the dialog is declared, where a leaf is declared so
  marked_there : (leaf : PlacedNode) → IsIn d leaf → (item : ℕ) (o : Option Node) → is_view leaf.node.id o ≡ true
      → is_marked (declared_value leaf.node.kind) item ≡ true → is_marked_at (opened_leaves d None) item o ≡ true
  marked_there leaf there item None own on = absurd (false≢true own)
  marked_there leaf there item (Some node) own on =
      ap (λ i. is_marked (content_by false (state_of (opened_leaves d None) i)).value item) (same-id node.id leaf.node.id own)
      ∙ ap (λ o. is_marked (content_by false o).value item) (find-map declared (has state_id leaf.node.id) (leaf_list d.views) ∙ ap (option_map declared) there)
      ∙ on

  holds_there : (leaf : PlacedNode) → IsIn d leaf → (rule : Rule) → starts_in d.views leaf.node rule ≡ true → holds d (opened_leaves d None) rule ≡ true
  holds_there leaf there rule on =
      let item = natural rule.item in
      let marked = is_marked (declared_value leaf.node.kind) item in
      let own = and_parts (is_own_in d.views leaf.node rule) (nat_lt 0 item && marked) on in
      let marks = and_parts (nat_lt 0 item) marked own.1 in
      both_true (nat_lt 0 item) (is_marked_at (opened_leaves d None) item (meant d.views rule.cluster)) marks.0
      (marked_there leaf there item (meant d.views rule.cluster) own.0 marks.1)

  -- a mask with the rules that hold then has each that holds as a leaf is declared
  covers_start : (leaves : List ShownLeaf) → AreShownLeaves d.views d.rules leaves → (mask : Mask) → Covers d (opened_leaves d None) mask
      → HasStart d.views d.rules leaves mask
  covers_start leaves shown mask covers place some =
      at-any (λ leaf. Passes (starts_in d.views leaf.node) d.rules place → HasRule mask place)
      (λ leaf. Passes (starts_in d.views leaf.node) d.rules place) (leaf_list d.views)
      (leaves-are d lawful (λ leaf. Passes (starts_in d.views leaf.node) d.rules place → HasRule mask place)
      (λ leaf there passes. covers place passes.0 passes.1 (holds_there leaf there passes.0 passes.2)))
      (zip_any (IsShownLeaf d.views d.rules) (λ leaf. Passes (starts_in d.views leaf.node) d.rules place) (leaf_list d.views) leaves some.0 some.1 shown
      some.2 (sym some.3) (λ leaf is. subst (λ node. Passes (starts_in d.views node) d.rules place) is.node some.4))
      (λ leaf gives passes. gives passes)

  pub starts_found : (masks : List Mask) (leaves : List ShownLeaf) → AreShownLeaves d.views d.rules leaves → IsClosed d masks
      → Any (HasStart d.views d.rules leaves) masks
  starts_found masks leaves shown closed =
      any-weaker (Covers d (opened_leaves d None)) (HasStart d.views d.rules leaves) (covers_start leaves shown) masks closed.starts

  -- ---- choices

  follows : (masks : List Mask) (leaf : PlacedNode) (y : ShownLeaf) → IsShownLeaf d.views d.rules leaf y
      → All (λ mask. IsFollowed d masks mask leaf) masks → IsLeafFollowed d.views d.rules masks y
  follows masks leaf y is followed = λ k mask h part item.
      subst (λ node. Any (LeadsIn d.views d.rules node item (get_or masks k mask)) masks) (sym is.node)
      (followed k mask h (λ place rule there on. part place ((is.by place).1 (rule, there, on))) item)

  pub leads_found : (masks : List Mask) (leaves : List ShownLeaf) → AreShownLeaves d.views d.rules leaves → IsClosed d masks
      → All (IsLeafFollowed d.views d.rules masks) leaves
  leads_found masks leaves shown closed =
      zip_gives (IsShownLeaf d.views d.rules) (λ leaf. All (λ mask. IsFollowed d masks mask leaf) masks) (IsLeafFollowed d.views d.rules masks) (follows masks)
      (leaf_list d.views) leaves shown (λ j leaf less k mask h. closed.leads k mask h j leaf less)
