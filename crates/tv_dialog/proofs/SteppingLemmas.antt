-- What a dialog posts of an event comes to what the machine's dialog makes of the event.
use Rattle.std.proofs.Common.{◌≡◌, ◌≤◌, Bool, true, false, length, Some, None, is_some, if◌then◌else◌, refl, sym, ap, subst, ◌∙◌, arith}
use Rattle.tv_event.specs.declared.event.Event.{Event}
use Rattle.tv_event.specs.declared.event.Event.TheVariants as events
use Rattle.tv_event.specs.declared.event.Key.{Key}
use Rattle.tv_event.specs.declared.event.Key.TheVariants as keys
use Rattle.tv_model.specs.declared.desc.Dialog.{Dialog}
use Rattle.tv_machine.specs.State.{Held}
use Rattle.tv_machine.specs.Dialog.Ending.{command}
use Rattle.tv_machine.specs.Dialog.Focus.{is_free_at}
use Rattle.tv_machine.specs.Dialog.Keys.{key}
use Rattle.tv_machine.specs.Dialog.Modal.{Modal}
use Rattle.tv_machine.specs.Dialog.Mouse.{down_at, is_close_mark, topmost_leaf}
use Rattle.tv_machine.specs.Dialog.Shortcuts.{HaveOneMarker}
use Rattle.tv_machine.specs.Dialog.Step.{dialog_step, free_step, held_step, step_by}
use Rattle.tv_group.specs.Ready.{HoldsLeaf}
use Rattle.tv_dialog.specs.Settling.{IsFresh, IsReadyFor, turned}
use Rattle.tv_dialog.specs.Stepping.{IsHandedIn, posted, posted_free, posted_held, posted_key, walked}
use Rattle.tv_machine.proofs.ListLemmas.{bool_cases, option_cases}

through : {A : Type 0} (P : A → Type 0) (x y : A) → Some x ≡ Some y → P x → P y
through P x y e p = let same : x ≡ y = cc in subst P same p

module _ (d : Dialog) (m : Modal) (fresh : IsFresh m) (focus : is_free_at d m.leaves m.focus ≡ true)
    (markers : HaveOneMarker d m.leaves) (leaf : HoldsLeaf d m) where
  short : length m.log ≤ 1
  short = let none : length m.log ≡ 0 = ap length fresh.log in omega arith

  -- the posted event may be handled, and comes to this
  abbrev Comes : Modal → Event → Type 0
  Comes target e = IsReadyFor d m e × (turned d e m ≡ target)

  comes_key : (k : Key) (e : Event) → IsHandedIn (events.Key k) → posted_key k ≡ Some e → Comes (key d k m) e
  comes_key keys.Tab e handed is = absurd cc
  comes_key keys.ShiftTab e handed is = absurd cc
  comes_key keys.Esc e handed is = through (Comes (key d keys.Esc m)) (events.Command (record { 0 = 11 })) e is (short, refl)
  comes_key keys.Enter e handed is = through (Comes (key d keys.Enter m)) (events.Broadcast (record { 0 = 14 })) e is ((fresh, refl), refl)
  comes_key k e handed is = through (Comes (key d k m)) (events.Key k) e is (record { fresh = fresh; other = refl; free = focus; markers = markers; capital = handed }, refl)

  comes_free : m.held ≡ None → (e posted_one : Event) → IsHandedIn e → posted_free e ≡ Some posted_one → Comes (free_step d e m) posted_one
  comes_free none (events.Key k) one handed is = comes_key k one handed is
  comes_free none (events.Down p) one handed is =
      bool_cases (is_close_mark p)
      (λ b. (if b then Some (events.Command (record { 0 = 4 })) else Some (events.Down p)) ≡ Some one → Comes (if b then command d 4 m else down_at d (topmost_leaf d m p) p m) one)
      (λ mark e. through (Comes (command d 4 m)) (events.Command (record { 0 = 4 })) one e (short, refl))
      (λ other e. through (Comes (down_at d (topmost_leaf d m p) p m)) (events.Down p) one e (record { fresh = fresh; at = handed; free = none }, refl))
      is
  comes_free none (events.Up p) one handed is = absurd cc
  comes_free none (events.Move p) one handed is = absurd cc
  comes_free none (events.Command c) one handed is = through (Comes (command d c.0 m)) (events.Command c) one is (short, refl)
  comes_free none (events.Broadcast c) one handed is = absurd cc

  comes_held : (held : Held) → m.held ≡ Some held → (e posted_one : Event) → IsHandedIn e → posted_held e ≡ Some posted_one → Comes (held_step d held e m) posted_one
  comes_held held some (events.Key k) one handed is = absurd cc
  comes_held held some (events.Down p) one handed is = absurd cc
  comes_held held some (events.Up p) one handed is =
      through (Comes (held_step d held (events.Up p) m)) (events.Up p) one is
      (record { fresh = fresh; at = handed; held = ap is_some some; leaf = leaf }, ap (λ o. step_by d o (events.Up p) m) some)
  comes_held held some (events.Move p) one handed is =
      through (Comes (held_step d held (events.Move p) m)) (events.Move p) one is
      (record { fresh = fresh; at = handed; held = ap is_some some; leaf = leaf }, ap (λ o. step_by d o (events.Move p) m) some)
  comes_held held some (events.Command c) one handed is = through (Comes (command d c.0 m)) (events.Command c) one is (short, refl)
  comes_held held some (events.Broadcast c) one handed is = absurd cc

  -- what is posted comes to what the machine makes of the event
  pub posted-comes : (e one : Event) → IsHandedIn e → posted (is_some m.held) e ≡ Some one → IsReadyFor d m one × (turned d one m ≡ dialog_step d e m)
  posted-comes e one handed =
      option_cases m.held (λ o. m.held ≡ o → posted (is_some o) e ≡ Some one → Comes (step_by d o e m) one)
      (λ none same is. comes_free same e one handed is) (λ held some same is. comes_held held same e one handed is) refl

-- ---- where nothing is posted

walks_key : (d : Dialog) (m : Modal) (k : Key) → posted_key k ≡ None → walked d (events.Key k) m ≡ key d k m
walks_key d m keys.Tab is = refl
walks_key d m keys.ShiftTab is = refl
walks_key d m keys.Esc is = absurd cc
walks_key d m keys.Enter is = absurd cc
walks_key d m k is = absurd cc

walks_free : (d : Dialog) (m : Modal) (e : Event) → posted_free e ≡ None → walked d e m ≡ free_step d e m
walks_free d m (events.Key k) is = walks_key d m k is
walks_free d m (events.Down p) is =
    bool_cases (is_close_mark p) (λ b. (if b then Some (events.Command (record { 0 = 4 })) else Some (events.Down p)) ≡ None → m ≡ free_step d (events.Down p) m)
    (λ mark e. absurd cc) (λ other e. absurd cc) is
walks_free d m (events.Up p) is = refl
walks_free d m (events.Move p) is = refl
walks_free d m (events.Command c) is = absurd cc
walks_free d m (events.Broadcast c) is = refl

stays_held : (d : Dialog) (m : Modal) (held : Held) (e : Event) → posted_held e ≡ None → m ≡ held_step d held e m
stays_held d m held (events.Key k) is = refl
stays_held d m held (events.Down p) is = refl
stays_held d m held (events.Up p) is = absurd cc
stays_held d m held (events.Move p) is = absurd cc
stays_held d m held (events.Command c) is = absurd cc
stays_held d m held (events.Broadcast c) is = refl

module _ (d : Dialog) (m : Modal) (e : Event) where
  -- while nothing holds the mouse the keys that walk do so
  pub none-walks : (held : Bool) → held ≡ is_some m.held → held ≡ false → posted held e ≡ None → walked d e m ≡ dialog_step d e m
  none-walks held at free none =
      option_cases m.held (λ o. is_some o ≡ false → walked d e m ≡ step_by d o e m)
      (λ none_held same. walks_free d m e (ap (λ b. posted b e) (sym free) ∙ none)) (λ h some same. absurd cc) (sym at ∙ free)

  -- while a leaf does nothing comes of the event
  pub none-stays : (held : Bool) → held ≡ is_some m.held → held ≡ true → posted held e ≡ None → m ≡ dialog_step d e m
  none-stays held at holds none =
      option_cases m.held (λ o. is_some o ≡ true → m ≡ step_by d o e m)
      (λ none_held same. absurd cc) (λ h some same. stays_held d m h e (ap (λ b. posted b e) (sym holds) ∙ none)) (sym at ∙ holds)
