-- What the menu bar and the status line take, and what is left for the desktop.
use Rattle.std.proofs.Common.{◌≡◌, ℕ, Bool, true, false, not, if◌then◌else◌, Option, Some, None, refl, sym, ap, ◌∙◌}
use Rattle.std.specs.Prelude.{pos}
use Rattle.std.proofs.lemmas.Bool.{true≢false}
use Rattle.tv_cells.specs.Layers.{is_in}
use Rattle.tv_cells.specs.declared.rect.Point.{Point}
use Rattle.tv_event.specs.declared.event.Command.{Command}
use Rattle.tv_event.specs.declared.event.Event.TheVariants as events
use Rattle.tv_event.specs.declared.event.Key.{Key}
use Rattle.tv_event.specs.declared.event.Key.TheVariants as keys
use Rattle.tv_model.specs.declared.desc.Desc.{Desc}
use Rattle.tv_model.specs.declared.desc.StatusItem.{StatusItem}
use Rattle.tv_model.specs.Description.Commands.{command_number}
use Rattle.tv_model.specs.Description.Rectangles.{desktop, rect}
use Rattle.tv_machine.specs.State.{OpenMenu, State}
use Rattle.tv_machine.specs.Screen.Bars.{status_under}
use Rattle.tv_machine.specs.Session.Commands.{do_command}
use Rattle.tv_machine.specs.Session.Desktop.{alt_pressed, desktop_down, desktop_key, down_beside_title, down_on_desktop, raise_found, window_of_digit, window_under}
use Rattle.tv_machine.specs.Session.Menu.{menu_down, menu_key, open_menu, title_at, title_of_letter}
use Rattle.tv_machine.specs.Session.Step.{after_down, is_item_enabled, is_status_row, status_command}
use Rattle.tv_menu.specs.Bar.{bar_offer, closed_key, down_offered, key_offered, opening}
use Rattle.tv_menu.specs.Line.{cell_answer, line_down, line_key, turned_by}
use Rattle.tv_menu.specs.declared.offered.Offered.{Offered}
use Rattle.tv_menu.specs.declared.offered.Offered.TheVariants as offers
use Rattle.tv_session.proofs.CommandLemmas.{none_some, same_some}
use Rattle.tv_machine.proofs.ListLemmas.{bool_cases, option_cases}
use Rattle.tv_machine.proofs.StepLemmas.{down-no-menu, down_by_dialog, down_by_row, key_by_item}

-- ---- whether it was taken

pub left_none : (result : Bool) (o : Option State) → ((after : State) → o ≡ Some after → result ≡ true) → result ≡ false → o ≡ None
left_none result o takes is = option_cases o (λ x. x ≡ None) (λ none. refl) (λ after some. absurd (true≢false (sym (takes after some) ∙ is)))

pub taken_some : (result : Bool) (o : Option State) → (o ≡ None → result ≡ false) → result ≡ true → (after : State) × (o ≡ Some after)
taken_some result o leaves is = option_cases o (λ x. (after : State) × (x ≡ Some after)) (λ none. absurd (true≢false (sym is ∙ leaves none))) (λ after some. (after, refl))

pub not_true : (b : Bool) → not b ≡ true → b ≡ false
not_true true e = absurd (true≢false (sym e))
not_true false e = refl

pub not_false : (b : Bool) → not b ≡ false → b ≡ true
not_false true e = refl
not_false false e = absurd (true≢false e)

module _ (d : Desc) where
  -- ---- keys

  pub bar_key : (k : Key) (s : State) → s.menu ≡ None → bar_offer d (events.Key k) s ≡ closed_key d k s
  bar_key k s none = ap (λ o. key_offered d o k s) none

  opened_alt : (ch : ℕ) (title : Option ℕ) (s after : State) → opening title s ≡ Some after → alt_pressed d ch title s ≡ after
  opened_alt ch None s after e = absurd (none_some after e)
  opened_alt ch (Some menu) s after e = same_some (open_menu menu s) after e

  pub closed_after : (k : Key) (s after : State) → closed_key d k s ≡ Some after → desktop_key d k s ≡ after
  closed_after (keys.Alt ch) s after e = opened_alt ch (title_of_letter d ch) s after e
  closed_after keys.Tab s after e = absurd (none_some after e)
  closed_after keys.ShiftTab s after e = absurd (none_some after e)
  closed_after keys.Enter s after e = absurd (none_some after e)
  closed_after keys.Esc s after e = absurd (none_some after e)
  closed_after keys.Up s after e = absurd (none_some after e)
  closed_after keys.Down s after e = absurd (none_some after e)
  closed_after keys.Left s after e = absurd (none_some after e)
  closed_after keys.Right s after e = absurd (none_some after e)
  closed_after keys.Home s after e = absurd (none_some after e)
  closed_after keys.End s after e = absurd (none_some after e)
  closed_after keys.PageUp s after e = absurd (none_some after e)
  closed_after keys.PageDown s after e = absurd (none_some after e)
  closed_after keys.CtrlPageUp s after e = absurd (none_some after e)
  closed_after keys.CtrlPageDown s after e = absurd (none_some after e)
  closed_after keys.Backspace s after e = absurd (none_some after e)
  closed_after keys.Delete s after e = absurd (none_some after e)
  closed_after keys.Insert s after e = absurd (none_some after e)
  closed_after (keys.Ctrl x) s after e = absurd (none_some after e)
  closed_after (keys.Function x) s after e = absurd (none_some after e)
  closed_after (keys.Char x) s after e = absurd (none_some after e)

  no_title : (title : Option ℕ) (s : State) → opening title s ≡ None → title ≡ None
  no_title None s e = refl
  no_title (Some menu) s e = absurd (none_some (open_menu menu s) (sym e))

  pub alt_left : (ch : ℕ) (s : State) → closed_key d (keys.Alt ch) s ≡ None → desktop_key d (keys.Alt ch) s ≡ raise_found (window_of_digit d s ch) s
  alt_left ch s e = ap (λ title. alt_pressed d ch title s) (no_title (title_of_letter d ch) s e)

  pub menu_keyed : (k : Key) (o : OpenMenu) (s : State) → s.menu ≡ Some o → bar_offer d (events.Key k) s ≡ Some (menu_key d o k s)
  menu_keyed k o s some = ap (λ x. key_offered d x k s) some

  turned_not_taken : (item : StatusItem) (result : Offered) → result ≡ line_key (Some item) → ((c : Command) → result ≡ offers.Turned c → ⊥) → ⊥
  turned_not_taken item result is never = never _ is

  pub no_item : (o : Option StatusItem) (result : Offered) → result ≡ line_key o → ((c : Command) → result ≡ offers.Turned c → ⊥) → o ≡ None
  no_item None result is never = refl
  no_item (Some item) result is never = absurd (turned_not_taken item result is never)

  abbrev number_in : Offered → ℕ
  number_in (offers.Turned c) = c.0
  number_in offers.Taken = 0
  number_in offers.Left = 0

  pub key_turned : (o : Option StatusItem) (k : Key) (c : Command) (s : State) → offers.Turned c ≡ line_key o → key_by_item d o k s ≡ do_command d c.0 s
  key_turned None k c s e = absurd cc
  key_turned (Some item) k c s e = sym (ap (λ (x : Offered). do_command d (number_in x) s) e)

  -- ---- mouse downs

  pub bar_down : (p : Point) (s : State) → s.menu ≡ None → bar_offer d (events.Down p) s ≡ opening (title_at d p) s
  bar_down p s none = ap (λ o. down_offered d o p s) none

  opened_down : (title : Option ℕ) (p : Point) (s after : State) → opening title s ≡ Some after → down_beside_title d title p s ≡ after
  opened_down None p s after e = absurd (none_some after e)
  opened_down (Some menu) p s after e = same_some (open_menu menu s) after e

  pub down_after : (p : Point) (s after : State) → opening (title_at d p) s ≡ Some after → desktop_down d p s ≡ after
  down_after p s after e = opened_down (title_at d p) p s after e

  pub down_left : (p : Point) (s : State) → opening (title_at d p) s ≡ None
      → desktop_down d p s ≡ (if is_in (desktop d) p.x p.y then down_on_desktop d (window_under d s p) p s else s)
  down_left p s e = ap (λ title. down_beside_title d title p s) (no_title (title_at d p) s e)

  pub menu_downed : (p : Point) (o : OpenMenu) (s : State) → s.menu ≡ Some o → bar_offer d (events.Down p) s ≡ Some (menu_down d o p s)
  menu_downed p o s some = ap (λ x. down_offered d x p s) some

  -- ---- the status line

  cell_turned : (o : Option StatusItem) (c : Command) (s : State) → cell_answer d s o ≡ offers.Turned c → status_command d o s ≡ do_command d c.0 s
  cell_turned None c s e = absurd cc
  cell_turned (Some item) c s e =
      bool_cases (is_item_enabled d s item)
      (λ b. (if b then turned_by item else offers.Taken) ≡ offers.Turned c
      → (if b then do_command d (command_number item.command) s else s) ≡ do_command d c.0 s)
      (λ is turned. ap (λ (x : Offered). do_command d (number_in x) s) turned) (λ is taken. absurd cc) e

  cell_taken : (o : Option StatusItem) (s : State) → cell_answer d s o ≡ offers.Taken → status_command d o s ≡ s
  cell_taken None s e = refl
  cell_taken (Some item) s e =
      bool_cases (is_item_enabled d s item)
      (λ b. (if b then turned_by item else offers.Taken) ≡ offers.Taken → (if b then do_command d (command_number item.command) s else s) ≡ s)
      (λ is turned. absurd cc) (λ is taken. refl) e

  cell_left : (o : Option StatusItem) (s : State) → cell_answer d s o ≡ offers.Left → ⊥
  cell_left None s e = absurd cc
  cell_left (Some item) s e =
      bool_cases (is_item_enabled d s item) (λ b. (if b then turned_by item else offers.Taken) ≡ offers.Left → ⊥) (λ is left. absurd cc) (λ is left. absurd cc) e

  row_turned : (p : Point) (c : Command) (s : State) → line_down d s p ≡ offers.Turned c → down_by_row d p s ≡ do_command d c.0 s
  row_turned p c s e =
      bool_cases (is_in (rect (pos 0) (pos 0) d.width d.height) p.x p.y)
      (λ b. (if not b then offers.Taken else if is_status_row d p then cell_answer d s (status_under d p.x) else offers.Left) ≡ offers.Turned c
      → (if not b then s else if is_status_row d p then status_command d (status_under d p.x) s else down_by_dialog d s.dialog p s) ≡ do_command d c.0 s)
      (λ inside. bool_cases (is_status_row d p)
      (λ b. (if b then cell_answer d s (status_under d p.x) else offers.Left) ≡ offers.Turned c
      → (if b then status_command d (status_under d p.x) s else down_by_dialog d s.dialog p s) ≡ do_command d c.0 s)
      (λ row is. cell_turned (status_under d p.x) c s is) (λ above is. absurd cc))
      (λ outside is. absurd cc) e

  row_taken : (p : Point) (s : State) → line_down d s p ≡ offers.Taken → down_by_row d p s ≡ s
  row_taken p s e =
      bool_cases (is_in (rect (pos 0) (pos 0) d.width d.height) p.x p.y)
      (λ b. (if not b then offers.Taken else if is_status_row d p then cell_answer d s (status_under d p.x) else offers.Left) ≡ offers.Taken
      → (if not b then s else if is_status_row d p then status_command d (status_under d p.x) s else down_by_dialog d s.dialog p s) ≡ s)
      (λ inside. bool_cases (is_status_row d p)
      (λ b. (if b then cell_answer d s (status_under d p.x) else offers.Left) ≡ offers.Taken
      → (if b then status_command d (status_under d p.x) s else down_by_dialog d s.dialog p s) ≡ s)
      (λ row is. cell_taken (status_under d p.x) s is) (λ above is. absurd cc))
      (λ outside is. refl) e

  row_left : (p : Point) (s : State) → line_down d s p ≡ offers.Left → down_by_row d p s ≡ down_by_dialog d s.dialog p s
  row_left p s e =
      bool_cases (is_in (rect (pos 0) (pos 0) d.width d.height) p.x p.y)
      (λ b. (if not b then offers.Taken else if is_status_row d p then cell_answer d s (status_under d p.x) else offers.Left) ≡ offers.Left
      → (if not b then s else if is_status_row d p then status_command d (status_under d p.x) s else down_by_dialog d s.dialog p s) ≡ down_by_dialog d s.dialog p s)
      (λ inside. bool_cases (is_status_row d p)
      (λ b. (if b then cell_answer d s (status_under d p.x) else offers.Left) ≡ offers.Left
      → (if b then status_command d (status_under d p.x) s else down_by_dialog d s.dialog p s) ≡ down_by_dialog d s.dialog p s)
      (λ row is. absurd (cell_left (status_under d p.x) s is)) (λ above is. refl))
      (λ outside is. absurd cc) e

  pub status_turned : (p : Point) (c : Command) (s : State) → s.menu ≡ None → line_down d s p ≡ offers.Turned c → after_down d p s ≡ do_command d c.0 s
  status_turned p c s shut e = down-no-menu d p s shut ∙ row_turned p c s e

  pub status_taken : (p : Point) (s : State) → s.menu ≡ None → line_down d s p ≡ offers.Taken → after_down d p s ≡ s
  status_taken p s shut e = down-no-menu d p s shut ∙ row_taken p s e

  pub status_left : (p : Point) (s : State) → s.menu ≡ None → line_down d s p ≡ offers.Left → after_down d p s ≡ down_by_dialog d s.dialog p s
  status_left p s shut e = down-no-menu d p s shut ∙ row_left p s e
