-- What waits after an event.
use Rattle.std.proofs.Common.{arith, ◌≡◌, ◌≤◌, inl, inr, List, [], ◌∷◌, Some, length, drop, slice_get, refl, sym, ap, subst, ◌∙◌}
use Rattle.tv_event.specs.declared.event.Command.{Command}
use Rattle.tv_event.specs.declared.event.Event.{Event}
use Rattle.tv_event.specs.declared.event.Event.TheVariants as events
use Rattle.tv_model.specs.declared.desc.Dialog.{Dialog}
use Rattle.tv_view.specs.Meaning.{Leaf}
use Rattle.tv_machine.specs.Dialog.Ending.{command}
use Rattle.tv_machine.specs.Dialog.Modal.{Modal}
use Rattle.tv_view.specs.declared.reaction.Reaction.{Reaction}
use Rattle.tv_view.specs.declared.reaction.Reaction.TheVariants as reactions
use Rattle.tv_dialog.specs.Settling.{SettlesTo, IsPosted, posted_by}
use Rattle.tv_dialog.specs.Standing.{Stands}
use Rattle.tv_dialog.specs.declared.dialog.DialogOf.{DialogOf}

-- of one event nothing is left
pub rest-none : (waiting : List Event) → length waiting ≤ 1 → drop 1 waiting ≡ []
rest-none [] few = refl
rest-none (e ∷ []) few = refl
rest-none (e ∷ f ∷ rest) few = absurd (omega (arith, few))

pub first-is : (waiting : List Event) (e f : Event) → waiting ≡ e ∷ [] → Some f ≡ slice_get waiting 0 → f ≡ e
first-is waiting e f is first = let both : Some f ≡ Some e = first ∙ ap (λ w. slice_get w 0) is in cc

pub posted-few : (waiting : List Event) → IsPosted waiting → length waiting ≤ 1
posted-few waiting (inl none) = omega (arith, ap length none)
posted-few waiting (inr one) = omega (arith, ap length one.1)

-- an answer posts nothing, or a command alone
pub posted-by : (r : Reaction) (waiting : List Event) → waiting ≡ posted_by r → IsPosted waiting
posted-by (reactions.Post i c) waiting is = inr (c, is)
posted-by reactions.Pass waiting is = inl is
posted-by reactions.Done waiting is = inl is
posted-by (reactions.Focus i) waiting is = inl is
posted-by (reactions.FocusPress i item) waiting is = inl is
posted-by (reactions.Changed i) waiting is = inl is
posted-by (reactions.Capture i) waiting is = inl is
posted-by reactions.Release waiting is = inl is

-- ---- turns one after the other

module _ {V : Type 0} (look : V → Leaf) (d : Dialog) where
  -- where nothing waits it has come to it
  pub come-to : (target : Modal) (dialog : DialogOf V) → dialog.pending ≡ [] → SettlesTo look d target dialog → Stands look d target.leaves target dialog
  come-to target dialog none (inl (is, s)) = s
  come-to target dialog none (inr (c, (is, s))) = let f : [] ≡ events.Command c ∷ [] = sym none ∙ is in absurd cc

  -- a turn, and another one for the command that it posted
  pub settles : (target : Modal) (mid new : DialogOf V) → SettlesTo look d target mid → new.pending ≡ [] → (mid.pending ≡ [] → new ≡ mid)
      → ((n : Modal) (c : Command) → length n.log ≤ 1 → mid.pending ≡ events.Command c ∷ [] → Stands look d n.leaves n mid
      → SettlesTo look d (command d c.0 n) new)
      → Stands look d target.leaves target new
  settles target mid new (inl first) empty rests turns = subst (Stands look d target.leaves target) (sym (rests first.0)) first.1
  settles target mid new (inr posted) empty rests turns =
      let a = posted.1.1 in
      subst (λ t. Stands look d t.leaves t new) a.comes
      (come-to (command d posted.0.0 a.now) new empty (turns a.now posted.0 a.short posted.1.0 a.stands))

-- nothing is left after it
pub settled-none : (mid new : List Event) → IsPosted mid → (mid ≡ [] → new ≡ []) → ((c : Command) → mid ≡ events.Command c ∷ [] → new ≡ []) → new ≡ []
settled-none mid new (inl none) rests last = rests none
settled-none mid new (inr one) rests last = last one.0 one.1
