-- What a focus request leaves as it was.
use Rattle.std.proofs.Common.{◌≡◌, true, not, ◌==◌, if◌then◌else◌, refl, sym}
use Rattle.tv_model.specs.declared.node.Id.{Id}
use Rattle.tv_model.specs.declared.desc.Dialog.{Dialog}
use Rattle.tv_machine.specs.Dialog.Focus.{Request, Same, NotFree, Refused, Moved, after_request, is_free_at, is_granted, keeps_focus, request, requested}
use Rattle.tv_machine.specs.Dialog.Modal.{Modal, leaf_at}
use Rattle.tv_machine.specs.Dialog.Lawful.{IsLawfulDialog}
use Rattle.tv_machine.specs.Dialog.Alike.{HoldSame}
use Rattle.tv_machine.proofs.ListLemmas.{bool_cases, same-id}
use Rattle.tv_machine.proofs.LeafLemmas.{HasLeaves}
use Rattle.tv_machine.proofs.MarkLemmas.{hold-itself}
use Rattle.tv_machine.proofs.RefocusLemmas.{held-moved, hold-moved}

module _ (d : Dialog) (lawful : IsLawfulDialog d) (m : Modal) (i : Id) where
  hold_after : HasLeaves d m → (r : Request) → HoldSame d m.leaves (after_request d i r m).leaves
  hold_after leaves Same = hold-itself d m.leaves
  hold_after leaves NotFree = hold-itself d m.leaves
  hold_after leaves Refused = hold-itself d m.leaves
  hold_after leaves Moved = hold-moved d lawful m i leaves

  -- every rule holds as it did
  pub hold-request : HasLeaves d m → HoldSame d m.leaves (request d i m).leaves
  hold-request leaves = hold_after leaves (requested d m i)

  held_after : (r : Request) → (after_request d i r m).held ≡ m.held
  held_after Same = refl
  held_after NotFree = refl
  held_after Refused = refl
  held_after Moved = held-moved d lawful m i

  pub held-request : (request d i m).held ≡ m.held
  held-request = held_after (requested d m i)

-- ---- where it is granted the focus is there

module _ (d : Dialog) (m : Modal) (i : Id) where
  abbrev last : Request
  last = if keeps_focus m (leaf_at d m.focus) then Refused else Moved

  abbrev other : Request
  other = if not (is_free_at d m.leaves i) then NotFree else last

  pub focus-request : is_granted (requested d m i) ≡ true → (request d i m).focus ≡ i
  focus-request =
      bool_cases (i.0 == m.focus.0) (λ b. is_granted (if b then Same else other) ≡ true → (after_request d i (if b then Same else other) m).focus ≡ i)
      (λ is e. sym (same-id i m.focus is))
      (λ is. bool_cases (not (is_free_at d m.leaves i))
      (λ b. is_granted (if b then NotFree else last) ≡ true → (after_request d i (if b then NotFree else last) m).focus ≡ i)
      (λ stops e. absurd cc)
      (λ goes. bool_cases (keeps_focus m (leaf_at d m.focus))
      (λ b. is_granted (if b then Refused else Moved) ≡ true → (after_request d i (if b then Refused else Moved) m).focus ≡ i)
      (λ stops e. absurd cc)
      (λ moves e. refl)))
