-- What the code finds of leaves and masks, said of the dialog.
use Rattle.std.proofs.Common.{◌≡◌, ◌↔◌, ◌⊎◌, inl, inr, ℕ, zero, suc, ◌<◌, Bool, true, false, ◌||◌, List, [], ◌∷◌, get_or, length, Option, Some, None, refl, sym, ap, subst, ◌∙◌, All, Any, IsTrue, arith}
use Rattle.std.specs.List.{AllZip, list_any}
use Rattle.std.proofs.lemmas.Bool.{true≢false}
use Rattle.std.proofs.lemmas.List.Elements.{All-cons, All-nil}
use Rattle.tv_model.specs.declared.command.CommandSpec.{CommandSpec}
use Rattle.tv_model.specs.declared.node.Id.{Id}
use Rattle.tv_model.specs.Description.Commands.{command_of}
use Rattle.tv_model.specs.Description.Nodes.{is_control}
use Rattle.tv_machine.specs.Leaves.{PlacedNode, leaf_list}
use Rattle.tv_reach.specs.declared.case.Case.{Case}
use Rattle.tv_reach.specs.declared.mask.Mask.{Mask}
use Rattle.tv_reach.specs.declared.shown.ShownLeaf.{ShownLeaf}
use Rattle.tv_reach.specs.Found.{HasRuleFor, IsCase, IsInNone, IsLeafOf}
use Rattle.tv_reach.specs.Masks.{HasRule, MayShow}
use Rattle.tv_reach.specs.Never.{Blocks, IsNeverFree, MayBeFree, MayEnableBy, starts_invalid}
use Rattle.tv_reach.specs.Runs.{IsNeverShown}
use Rattle.tv_reach.specs.Shown.{IsPart}
use Rattle.tv_reach.proofs.ClosedLemmas.{zip_all}
use Rattle.tv_reach.proofs.MaskLemmas.{at-any}

-- ---- lists

-- what is so of one of the second list is so of one of the first
pub zip_any : {A B : Type 0} (R : A → B → Type 0) (P : A → Type 0) (xs : List A) (ys : List B) (k : ℕ) (y : B) → AllZip R xs ys → k < length ys
    → y ≡ get_or ys k y → ((x : A) → R x y → P x) → Any P xs
zip_any R P [] [] k y zip less is of = absurd (omega (arith, less))
zip_any R P [] (z ∷ ys) k y zip less is of = absurd zip
zip_any R P (x ∷ xs) [] k y zip less is of = absurd zip
zip_any R P (x ∷ xs) (z ∷ ys) zero y zip less is of = (0, x, omega arith, refl, of x (subst (R x) (sym is) zip.0))
zip_any R P (x ∷ xs) (z ∷ ys) (suc k) y zip less is of =
    let later = zip_any R P xs ys k y zip.1 (omega (arith, less)) is of in (suc later.0, later.1, omega (arith, later.2), later.3, later.4)

-- ---- a leaf of a case

module _ (case : Case) (leaf : PlacedNode) (shown : ShownLeaf) (is : IsLeafOf case leaf shown) where
  -- a mask by which it may be shown has its rules
  pub shown_part : (mask : Mask) → MayShow case.dialog.now leaf mask → IsPart shown.shown_by mask
  shown_part mask may place has = let passes = (is.by place).0 has in may place passes.0 passes.1 passes.2

  -- and one that has its rules may show it
  pub part_shown : (mask : Mask) → IsPart shown.shown_by mask → MayShow case.dialog.now leaf mask
  part_shown mask part place rule there on = part place ((is.by place).1 (rule, there, on))

  pub none_shown : IsNeverShown case.dialog.now case.masks.now leaf → IsInNone case.masks.now shown.shown_by
  none_shown never = λ k mask h part. never k mask h (part_shown (get_or case.masks.now k mask) part)

  pub never_shown : IsInNone case.masks.now shown.shown_by → IsNeverShown case.dialog.now case.masks.now leaf
  never_shown none = λ k mask h may. none k mask h (shown_part (get_or case.masks.now k mask) may)

  enabled_part : (mask : Mask) (o : Option CommandSpec) → MayEnableBy case.dialog.now o mask → (place : ℕ) → HasRuleFor case.dialog.now.rules o place
      → HasRule mask place
  enabled_part mask None may place has = absurd has
  enabled_part mask (Some command) may place has = may place has.0 has.1 has.2

  -- a mask by which it may be free has those that enable it, too
  pub never_free : (enabled freed : Mask) → ((k : ℕ) → HasRule freed k ↔ (HasRule shown.shown_by k ⊎ HasRule enabled k))
      → ((k : ℕ) → HasRule enabled k → HasRuleFor case.dialog.now.rules (command_of shown.node.now.kind) k)
      → IsInNone case.masks.now freed → IsNeverFree case.dialog.now case.masks.now leaf
  never_free enabled freed union enables none = inr (λ k mask h may. none k mask h (part (get_or case.masks.now k mask) may))
    where
      part : (mask : Mask) → MayBeFree case.dialog.now leaf mask → IsPart freed mask
      part mask may place has = of ((union place).0 has)
        where
          of : HasRule shown.shown_by place ⊎ HasRule enabled place → HasRule mask place
          of (inl shows) = shown_part mask may.0 place shows
          of (inr on) =
              enabled_part mask (command_of leaf.node.kind) may.1 place
              (subst (λ node. HasRuleFor case.dialog.now.rules (command_of node.kind) place) is.node (enables place on))

  part_enabled : (mask : Mask) (o : Option CommandSpec) → ((place : ℕ) → HasRuleFor case.dialog.now.rules o place → HasRule mask place)
      → MayEnableBy case.dialog.now o mask
  part_enabled mask None has = tt
  part_enabled mask (Some command) has = λ place rule there on. has place (rule, there, on)

  -- what is never free has no mask with all of these
  pub none_free : (enabled freed : Mask) → ((k : ℕ) → HasRule freed k ↔ (HasRule shown.shown_by k ⊎ HasRule enabled k))
      → ((k : ℕ) → HasRule enabled k ↔ HasRuleFor case.dialog.now.rules (command_of shown.node.now.kind) k)
      → is_control shown.node.now.kind ≡ true → IsNeverFree case.dialog.now case.masks.now leaf → IsInNone case.masks.now freed
  none_free enabled freed union enables on (inl off) =
      absurd (true≢false (sym on ∙ ap (λ node. is_control node.kind) is.node ∙ off))
  none_free enabled freed union enables on (inr never) = λ k mask h part. never k mask h (may (get_or case.masks.now k mask) part)
    where
      may : (mask : Mask) → IsPart freed mask → MayBeFree case.dialog.now leaf mask
      may mask part = (
        part_shown mask (λ place has. part place ((union place).1 (inl has))),
        subst (λ node. MayEnableBy case.dialog.now (command_of node.kind) mask) is.node
            (part_enabled mask (command_of shown.node.now.kind) (λ place has. part place ((union place).1 (inr ((enables place).1 has))))),
      )

  pub no_control : is_control shown.node.now.kind ≡ false → IsNeverFree case.dialog.now case.masks.now leaf
  no_control e = inl (subst (λ node. is_control node.kind ≡ false) is.node e)

  -- where no mask shows it, it blocks if it starts invalid
  pub blocks_so : IsInNone case.masks.now shown.shown_by → (invalid : Bool) → invalid ≡ starts_invalid shown.node.now.kind
      → IsTrue invalid ↔ Blocks case.dialog.now case.masks.now leaf.node.id leaf
  blocks_so none invalid same = (
    (λ e. record {
      id = refl;
      invalid = subst (λ node. starts_invalid node.kind ≡ true) is.node (sym same ∙ e);
      hidden = never_shown none;
    }),
    (λ blocks. same ∙ ap (λ node. starts_invalid node.kind) is.node ∙ blocks.invalid),
  )

  -- and where one shows it, it doesn't
  pub blocks_not : (IsInNone case.masks.now shown.shown_by → ⊥) → Blocks case.dialog.now case.masks.now leaf.node.id leaf → ⊥
  blocks_not some blocks = some (none_shown blocks.hidden)

-- ---- all leaves of a case

-- what is so of each leaf, as the code finds it, is so of each of the dialog
pub all_of : (case : Case) (is : IsCase case) (P : PlacedNode → Type 0) → All (λ shown. (leaf : PlacedNode) → IsLeafOf case leaf shown → P leaf) case.leaves.now
    → All P (leaf_list case.dialog.now.views)
all_of case is P all =
    zip_all (IsLeafOf case) (λ shown. (leaf : PlacedNode) → IsLeafOf case leaf shown → P leaf) P (λ leaf shown of each. each leaf of)
    (leaf_list case.dialog.now.views) case.leaves.now is.leaves all

-- what is so of each of the dialog is so of the one at which the code is
pub all_here : {B : Type 0} (case : Case) (is : IsCase case) (P : PlacedNode → Type 0) (k : ℕ) (shown : ShownLeaf) → k < length case.leaves.now
    → shown ≡ get_or case.leaves.now k shown → All P (leaf_list case.dialog.now.views) → ((leaf : PlacedNode) → IsLeafOf case leaf shown → P leaf → B) → B
all_here case is P k shown less here all then =
    at-any P (λ leaf. IsLeafOf case leaf shown) (leaf_list case.dialog.now.views) all
    (zip_any (IsLeafOf case) (λ leaf. IsLeafOf case leaf shown) (leaf_list case.dialog.now.views) case.leaves.now k shown is.leaves less here (λ leaf of. of))
    (λ leaf p of. then leaf of p)

-- what is so of each leaf of an id, as the code finds it, is so of each of the dialog
pub all_of_id : (case : Case) (is : IsCase case) (i : Id) (S : PlacedNode → Type 0)
    → All (λ shown. shown.node.now.id ≡ i → (leaf : PlacedNode) → IsLeafOf case leaf shown → S leaf) case.leaves.now
    → All (λ leaf. leaf.node.id ≡ i → S leaf) (leaf_list case.dialog.now.views)
all_of_id case is i S all =
    zip_all (IsLeafOf case) (λ shown. shown.node.now.id ≡ i → (leaf : PlacedNode) → IsLeafOf case leaf shown → S leaf) (λ leaf. leaf.node.id ≡ i → S leaf)
    (λ leaf shown of each e. each (ap (λ node. node.id) of.node ∙ e) leaf of) (leaf_list case.dialog.now.views) case.leaves.now is.leaves all

-- what is so of none, as the code finds them, is so of no leaf of the dialog
pub none_of : (case : Case) (is : IsCase case) (P : PlacedNode → Type 0)
    → All (λ shown. (leaf : PlacedNode) → IsLeafOf case leaf shown → P leaf → ⊥) case.leaves.now → All (λ leaf. P leaf → ⊥) (leaf_list case.dialog.now.views)
none_of case is P all =
    zip_all (IsLeafOf case) (λ shown. (leaf : PlacedNode) → IsLeafOf case leaf shown → P leaf → ⊥) (λ leaf. P leaf → ⊥)
    (λ leaf shown of none. none leaf of) (leaf_list case.dialog.now.views) case.leaves.now is.leaves all

pub not_any : (case : Case) (is : IsCase case) (P : PlacedNode → Type 0)
    → All (λ shown. (leaf : PlacedNode) → IsLeafOf case leaf shown → P leaf → ⊥) case.leaves.now → Any P (leaf_list case.dialog.now.views) → ⊥
not_any case is P all any =
    at-any (λ leaf. P leaf → ⊥) P (leaf_list case.dialog.now.views) (none_of case is P all) any (λ leaf none p. none p)

-- ---- tests of lists

neither : (a b : Bool) → (a || b) ≡ false → (a ≡ false) × (b ≡ false)
neither true b e = absurd (true≢false e)
neither false b e = (refl, e)

-- what none of a list passes each of it fails
pub each_fails : {A : Type 0} (p : A → Bool) (xs : List A) → list_any p xs ≡ false → All (λ x. p x ≡ false) xs
each_fails p [] e = All-nil (λ x. p x ≡ false)
each_fails p (x ∷ xs) e =
    let parts = neither (p x) (list_any p xs) e in All-cons (λ y. p y ≡ false) x xs parts.0 (each_fails p xs parts.1)
