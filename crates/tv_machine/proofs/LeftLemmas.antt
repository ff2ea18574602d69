-- Of an event that is left to the program nothing is made but that the log is emptied.
use Rattle.std.proofs.Common.{◌≡◌, ℕ, Bool, true, false, not, ◌&&◌, ◌||◌, if◌then◌else◌, List, [], ◌∷◌, Option, Some, None, refl, sym, ap, ◌∙◌}
use Rattle.std.specs.Prelude.{is_some, is_none, pos, slice_get, ◌==◌}
use Rattle.std.proofs.lemmas.Bool.{false≢true}
use Rattle.tv_cells.specs.Layers.{is_in}
use Rattle.tv_cells.specs.declared.rect.Point.{Point}
use Rattle.tv_event.specs.declared.event.Event.{Event}
use Rattle.tv_event.specs.declared.event.Event.TheVariants as events
use Rattle.tv_event.specs.declared.event.Key.{Key}
use Rattle.tv_event.specs.declared.event.Key.TheVariants as keys
use Rattle.tv_model.specs.declared.desc.Desc.{Desc}
use Rattle.tv_model.specs.declared.desc.Window.{Window}
use Rattle.tv_model.specs.Description.Rectangles.{rect, desktop}
use Rattle.tv_machine.specs.State.{State, OpenWindow, OpenMenu}
use Rattle.tv_machine.specs.Dialog.Mouse.{is_close_mark}
use Rattle.tv_machine.specs.Screen.Bodies.{window_of}
use Rattle.tv_machine.specs.Screen.Bars.{status_under}
use Rattle.tv_machine.specs.Session.Commands.{do_command}
use Rattle.tv_machine.specs.Session.Desktop.{alt_pressed, desktop_down, desktop_key, down_beside_title, down_in_front, down_on_desktop, down_on_window, grab_window, raise, raise_found, seen_from, window_of_digit, window_under}
use Rattle.tv_machine.specs.Session.Dragging.{grabbed, is_grip}
use Rattle.tv_machine.specs.Session.Menu.{title_at, title_of_letter, open_menu}
use Rattle.tv_machine.specs.Session.Step.{after_down, after_event, after_key, dialog_with_hold, is_status_row, status_command, status_item_of, step, with_empty_log}
use Rattle.tv_machine.specs.Session.Left.{is_alt_taken, is_down_taken, is_idle, is_key_taken, is_left, is_gripped, is_on_top, is_untaken, is_window_down}
use Rattle.tv_machine.proofs.StepLemmas.{down-no-menu, down_by_dialog, key-no-item, key_by_dialog, step_by_frame, step_by_hold}

-- ---- tests

and-left : (a b : Bool) → (a && b) ≡ true → a ≡ true
and-left true b e = refl
and-left false b e = absurd (false≢true e)

and-right : (a b : Bool) → (a && b) ≡ true → b ≡ true
and-right true b e = e
and-right false b e = absurd (false≢true e)

or-left : (a b : Bool) → not (a || b) ≡ true → not a ≡ true
or-left true b e = absurd (false≢true e)
or-left false b e = refl

or-right : (a b : Bool) → not (a || b) ≡ true → not b ≡ true
or-right true b e = absurd (false≢true e)
or-right false b e = e

false-of : (a : Bool) → not a ≡ true → a ≡ false
false-of true e = absurd (false≢true e)
false-of false e = refl

none-of : {A : Type 0} (o : Option A) → is_none o ≡ true → o ≡ None
none-of None e = refl
none-of (Some x) e = absurd (false≢true e)

none-untold : {A : Type 0} (o : Option A) → not (is_some o) ≡ true → o ≡ None
none-untold None e = refl
none-untold (Some x) e = absurd (false≢true e)

module _ (d : Desc) (s : State) where
  abbrev t : State
  t = with_empty_log s

  abbrev down_by_found : List OpenWindow → Option OpenWindow → Point → State
  down_by_found windows None p = t
  down_by_found windows (Some w) p = down_on_window d windows w p t

  same : (b : Bool) → not (not b) ≡ true → b ≡ true
  same true e = refl
  same false e = absurd (false≢true e)

  on-desktop : (b : Bool) (p : Point) → down_by_found s.windows (window_under d s p) p ≡ t → (if b then down_on_desktop d (window_under d s p) p t else t) ≡ t
  on-desktop true p e = found (window_under d s p) e
    where
      found : (o : Option OpenWindow) → down_by_found s.windows o p ≡ t → down_on_desktop d o p t ≡ t
      found None e = e
      found (Some w) e = e
  on-desktop false p e = refl

  -- ---- keys

  alt-left : (ch : ℕ) → not (is_alt_taken d s ch) ≡ true → desktop_key d (keys.Alt ch) t ≡ t
  alt-left ch free =
      let untitled = none-untold (title_of_letter d ch) (or-left (is_some (title_of_letter d ch)) (is_some (window_of_digit d s ch)) free) in
      let unnumbered = none-untold (window_of_digit d s ch) (or-right (is_some (title_of_letter d ch)) (is_some (window_of_digit d s ch)) free) in
      ap (λ o. alt_pressed d ch o t) untitled ∙ ap (λ o. raise_found o t) unnumbered

  key-by : (k : Key) → s.menu ≡ None → s.dialog ≡ None → status_item_of d s k ≡ None → desktop_key d k t ≡ t → after_key d k t ≡ t
  key-by k shut closed free rest = key-no-item d k t shut free ∙ (ap (λ o. key_by_dialog d o k t) closed ∙ rest)

  key-left : (k : Key) → s.menu ≡ None → s.dialog ≡ None → not (is_key_taken d s k) ≡ true → after_key d k t ≡ t
  key-left (keys.Alt ch) shut closed free =
      key-by (keys.Alt ch) shut closed
      (none-untold (status_item_of d s (keys.Alt ch)) (or-left (is_some (status_item_of d s (keys.Alt ch))) (is_alt_taken d s ch) free))
      (alt-left ch (or-right (is_some (status_item_of d s (keys.Alt ch))) (is_alt_taken d s ch) free))
  key-left k shut closed free = key-by k shut closed (none-untold (status_item_of d s k) free) refl

  -- ---- mouse downs

  grab-left : (window : Option Window) (w : OpenWindow) (p : Point) → not (is_gripped window (seen_from w.origin p)) ≡ true → grab_window window w p t ≡ t
  grab-left None w p free = refl
  grab-left (Some window) w p free = ap (λ b. if b then grabbed w.origin p t else t) (false-of (is_grip window.node.w (seen_from w.origin p)) free)

  front-left : (w : OpenWindow) (p : Point) → not (is_on_top (window_of d w.id) (seen_from w.origin p)) ≡ true → down_in_front d w p t ≡ t
  front-left w p free =
      let mark = is_close_mark (seen_from w.origin p) in
      let grip = is_gripped (window_of d w.id) (seen_from w.origin p) in
      ap (λ b. if b then do_command d 4 t else grab_window (window_of d w.id) w p t) (false-of mark (or-left mark grip free))
      ∙ grab-left (window_of d w.id) w p (or-right mark grip free)

  window-left : (windows : List OpenWindow) (found : Option OpenWindow) (p : Point) → not (is_window_down d windows found p) ≡ true → down_by_found windows found p ≡ t
  window-left windows None p free = refl
  window-left [] (Some w) p free = refl
  window-left (front ∷ behind) (Some w) p free =
      let other = not (front.id.0 == w.id.0) in
      let top = is_on_top (window_of d w.id) (seen_from w.origin p) in
      ap (λ b. if b then down_in_front d w p t else raise w.id t) (same (front.id.0 == w.id.0) (or-left other top free)) ∙ front-left w p (or-right other top free)

  down-left : (p : Point) → s.menu ≡ None → s.dialog ≡ None → not (is_down_taken d s p) ≡ true → after_down d p t ≡ t
  down-left p shut closed free =
      let off = not (is_in (rect (pos 0) (pos 0) d.width d.height) p.x p.y) in
      let low = is_status_row d p in
      let titled = is_some (title_at d p) in
      let taken = is_window_down d s.windows (window_under d s p) p in
      let below = or-right off (low || (titled || taken)) free in
      let beside = or-right low (titled || taken) below in
      down-no-menu d p t shut
      ∙ (ap (λ b. if b then t else if low then status_command d (status_under d p.x) t else down_by_dialog d t.dialog p t) (false-of off (or-left off (low || (titled || taken)) free))
      ∙ (ap (λ b. if b then status_command d (status_under d p.x) t else down_by_dialog d t.dialog p t) (false-of low (or-left low (titled || taken) below))
      ∙ (ap (λ o. down_by_dialog d o p t) closed
      ∙ (ap (λ o. down_beside_title d o p t) (none-untold (title_at d p) (or-left titled taken beside))
      ∙ on-desktop (is_in (desktop d) p.x p.y) p (window-left s.windows (window_under d s p) p (or-right titled taken beside))))))

  -- ---- events

  event-left : (e : Event) → s.menu ≡ None → s.dialog ≡ None → is_untaken d s e ≡ true → after_event d e t ≡ t
  event-left (events.Key k) shut closed free = key-left k shut closed free
  event-left (events.Down p) shut closed free = down-left p shut closed free
  event-left (events.Move p) shut closed free = refl
  event-left (events.Up p) shut closed free = refl
  event-left (events.Command c) shut closed free = absurd (false≢true free)
  event-left (events.Broadcast c) shut closed free = absurd (false≢true free)

  -- nothing is made of an event that is left
  pub left-stays : (e : Event) → is_left d s e ≡ true → step d s e ≡ with_empty_log s
  left-stays e free =
      let idle = and-left (is_idle s) (is_untaken d s e) free in
      let rest = and-right (not s.is_over) (is_none s.frame && (is_none s.menu && is_none s.dialog)) idle in
      let still = and-right (is_none s.frame) (is_none s.menu && is_none s.dialog) rest in
      let shut = none-of s.menu (and-left (is_none s.menu) (is_none s.dialog) still) in
      let closed = none-of s.dialog (and-right (is_none s.menu) (is_none s.dialog) still) in
      ap (λ b. if b then with_empty_log s else step_by_frame d s.frame e t) (false-of s.is_over (and-left (not s.is_over) (is_none s.frame && (is_none s.menu && is_none s.dialog)) idle))
      ∙ (ap (λ o. step_by_frame d o e t) (none-of s.frame (and-left (is_none s.frame) (is_none s.menu && is_none s.dialog) rest))
      ∙ (ap (λ o. step_by_hold d (dialog_with_hold o) e t) closed
      ∙ event-left e shut closed (and-right (is_idle s) (is_untaken d s e) free)))
