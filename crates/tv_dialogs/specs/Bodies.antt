-- The bodies of a description's dialogs, and the dialogs round them before a run.
use Rattle.std.specs.Prelude.{◌≡◌, ℕ, List, [], ◌∷◌, length, Some, None, slice_get}
use Rattle.tv_model.specs.declared.desc.Dialog.{Dialog}
use Rattle.tv_view.specs.Meaning.{Leaf}
use Rattle.tv_group.specs.Outline.{IsFreshBody}
use Rattle.tv_group.specs.declared.group.GroupOf.{GroupOf}
use Rattle.tv_dialogs.specs.Kept.{IsKeptAs}
use Rattle.tv_dialogs.specs.declared.kept.Kept.{Kept}

-- one fresh body for each dialog, in order
pub record AreFreshBodies {V : Type 0} (look : V → Leaf) (dialogs : List Dialog)
    (bodies : List (GroupOf V)) : Type 0 where
  pub count : length bodies ≡ length dialogs
  pub fresh : (place : ℕ) (d : Dialog) (body : GroupOf V) → slice_get dialogs place ≡ Some d
      → slice_get bodies place ≡ Some body
      → IsFreshBody look d.node d.views body

-- the dialogs one for one, before any of them was open
abbrev pub AreNew : {V : Type 0} → (V → Leaf) → List Dialog → List (Kept V) → Type 0
AreNew look [] [] = Unit {0}
AreNew look [] (k ∷ kept) = ⊥
AreNew look (d ∷ dialogs) [] = ⊥
AreNew look (d ∷ dialogs) (k ∷ kept) = IsKeptAs look d None [] k × AreNew look dialogs kept

-- the body of a dialog that is kept
abbrev pub kept_body : {V : Type 0} → Kept V → GroupOf V
kept_body kept = kept.dialog.body
