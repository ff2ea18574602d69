-- What a run logs names what there is, and nothing comes before an end but lines that answer nothing.
use Rattle.std.proofs.Common.{◌≡◌, Bool, true, false, not, ◌&&◌, ◌==◌, ℕ, ◌+◌, ◌-◌, ◌<◌, ◌≤◌, if◌then◌else◌, List, [], ◌∷◌, ◌++◌, filter, length, map, position, reverse, Option, Some, None, option_map, refl, sym, subst, All, arith}
use Rattle.std.specs.Prelude.{ℤ, pos, negsuc, neg_ℤ, ◌≤ℤ◌, ◌<ℤ◌, ◌-ℤ◌, int_lt, nat_le, nat_lt, slice_get}
use Rattle.std.proofs.lemmas.Int.{ints}
use Rattle.std.proofs.lemmas.List.{get_or-reverse, length-reverse}
use Rattle.std.proofs.lemmas.List.Elements.{All-append, All-cons, All-filter, All-head, All-map, All-nil, All-tail}
use Rattle.std.proofs.lemmas.Option.{get_or_from_slice_get, slice_get_within}
use Rattle.tv_cells.specs.Layers.{is_in}
use Rattle.tv_cells.specs.declared.rect.Point.{Point}
use Rattle.tv_event.specs.declared.event.Event.{Event}
use Rattle.tv_event.specs.declared.event.Event.TheVariants as events
use Rattle.tv_event.specs.declared.event.Key.{Key}
use Rattle.tv_event.specs.declared.event.Key.TheVariants as keys
use Rattle.tv_model.specs.declared.desc.Desc.{Desc}
use Rattle.tv_model.specs.declared.desc.Dialog.{Dialog}
use Rattle.tv_model.specs.declared.desc.Menu.{Menu}
use Rattle.tv_model.specs.declared.desc.MenuItem.{MenuItem}
use Rattle.tv_model.specs.declared.desc.StatusItem.{StatusItem}
use Rattle.tv_model.specs.declared.desc.Window.{Window}
use Rattle.tv_model.specs.declared.log.LogLine.{LogLine}
use Rattle.tv_model.specs.declared.log.LogLine.TheVariants as lines
use Rattle.tv_model.specs.declared.node.Id.{Id}
use Rattle.tv_model.specs.Description.Commands.{command_number}
use Rattle.tv_model.specs.Description.Heads.{is_named}
use Rattle.tv_model.specs.Description.Marks.{upper}
use Rattle.tv_model.specs.Description.Nodes.{has_id}
use Rattle.tv_model.specs.Description.Numbers.{IsBetween, natural}
use Rattle.tv_model.specs.Description.Rectangles.{desktop, rect}
use Rattle.tv_model.specs.Faults.Letters.{is_same_key}
use Rattle.tv_machine.specs.State.{HeldFrame, OpenDialog, OpenMenu, OpenWindow, State}
use Rattle.tv_machine.specs.Dialog.Ending.{command}
use Rattle.tv_machine.specs.Dialog.Modal.{Modal}
use Rattle.tv_machine.specs.Dialog.Mouse.{is_close_mark}
use Rattle.tv_machine.specs.Dialog.Opening.{opened_dialog}
use Rattle.tv_machine.specs.Dialog.Step.{dialog_step}
use Rattle.tv_machine.specs.Safe.{dragged_width}
use Rattle.tv_machine.specs.Screen.Bars.{Spot, item_under, spot_in, columns_of, status_spot, status_text, status_under}
use Rattle.tv_machine.specs.Screen.Bodies.{window_of}
use Rattle.tv_machine.specs.Session.Commands.{after_work, close_front, command_by_dialog, do_command, idle_command, in_dialog, last_first, modal_of, open_dialog, open_first, open_found, opener_of, overwriting_at, own_command, saved_at, with_line_logged, works}
use Rattle.tv_machine.specs.Session.Desktop.{alt_pressed, desktop_down, desktop_key, down_beside_title, down_in_front, down_on_desktop, down_on_window, grab_window, raise, raise_found, seen_from, window_of_digit, window_under}
use Rattle.tv_machine.specs.Session.Dragging.{clamped, corner_at, dropped, front_at, grabbed, is_grip, is_grip_of, is_same_point, let_go, moved_dialog, moved_frame, moved_front, placed, step_dragged}
use Rattle.tv_machine.specs.Session.Menu.{choose, choose_at, close_menu, down_on_item, down_on_title, item_of_letter, items_of_menu, menu_down, menu_key, open_items, title_at, title_of_letter}
use Rattle.tv_machine.specs.Session.Start.{closed, open_window, start, started_at, started_by}
use Rattle.tv_machine.specs.Session.Step.{after_event, dialog_with_hold, down_on_dialog, event_from, is_item_enabled, is_status_row, status_command, status_item_of, step, step_held, to_dialog, with_empty_log}
use Rattle.tv_machine.proofs.ListLemmas.{bool_cases, found-all, option_cases}
use Rattle.tv_machine.proofs.StepLemmas.{down_by_dialog, down_by_menu, down_by_row, key_by_dialog, key_by_item, key_by_menu, step_by_frame, step_by_hold}
use Rattle.tv_laws.specs.Runs.{IsFitState}
use Rattle.tv_words.specs.Fields.{IsNumber}
use Rattle.tv_answers.proofs.ToldLemmas.{IsClean, IsNamed, IsTold, clean_append, clean_line}
use Rattle.tv_answers.proofs.ToldDialogLemmas.{GivesNumber, IsNamedDialog, commanded, opened_clean, stepped_clean}

-- ---- lists

all_reversed : {A : Type 0} (P : A → Type 0) (xs : List A) → All P xs → All P (reverse xs)
all_reversed P xs all k x less =
    let within : k < length xs = omega (arith, less, length-reverse xs) in
    subst P (sym (get_or-reverse xs k x within)) (all (length xs - 1 - k) x (omega (arith, within)))

at_place : {A : Type 0} (P : A → Type 0) (xs : List A) (place : ℕ) (x : A) → All P xs → slice_get xs place ≡ Some x → P x
at_place P xs place x all there = subst P (get_or_from_slice_get xs place x x there) (all place x (slice_get_within xs place x there))

-- ---- numbers

number_between : (z : ℤ) → neg_ℤ (pos 1000) ≤ℤ z → z ≤ℤ pos 1000 → IsNumber z
number_between (pos n) least most = record { sfits = omega (arith, high n most) }
  where
    high : (n : ℕ) → pos n ≤ℤ pos 1000 → n ≤ 1000
    high n h = omega (arith, ints)
number_between (negsuc n) least most = record { sfits = omega (arith, low n least) }
  where
    low : (n : ℕ) → neg_ℤ (pos 1000) ≤ℤ negsuc n → n ≤ 1000
    low n h = omega (arith, ints)

not_less : (a b : ℤ) → int_lt a b ≡ false → b ≤ℤ a
not_less a b e = grind (arith, ints)

clamped_least : (low high n : ℤ) → low ≤ℤ high → low ≤ℤ clamped low high n
clamped_least low high n order =
    bool_cases (int_lt n low) (λ b. low ≤ℤ (if b then low else if int_lt high n then high else n)) (λ below. omega (arith, ints))
    (λ from. bool_cases (int_lt high n) (λ b. low ≤ℤ (if b then high else n)) (λ above. order) (λ within. not_less n low from))

clamped_most : (low high n : ℤ) → low ≤ℤ high → clamped low high n ≤ℤ high
clamped_most low high n order =
    bool_cases (int_lt n low) (λ b. (if b then low else if int_lt high n then high else n) ≤ℤ high) (λ below. order)
    (λ from. bool_cases (int_lt high n) (λ b. (if b then high else n) ≤ℤ high) (λ above. omega (arith, ints)) (λ within. not_less high n within))

-- ---- a description

-- what is logged by name has one, commands have numbers, and frames are no wider than a screen may be
pub record HasNames (d : Desc) : Type 0 where
  pub dialogs : All (IsNamedDialog d) d.dialogs
  pub windows : All (λ window. IsNamed d window.node.id) d.windows
  pub items : All (λ menu. All (λ item. GivesNumber (Some item.command)) menu.items) d.menus
  pub status : All (λ item. GivesNumber (Some item.command)) d.status
  pub wide_dialogs : All (λ dialog. dialog.node.w ≤ℤ pos 132) d.dialogs
  pub wide_windows : All (λ window. window.node.w ≤ℤ pos 132) d.windows
  pub width : IsBetween (pos 20) (pos 132) d.width
  pub height : IsBetween (pos 10) (pos 60) d.height

module _ (d : Desc) (names : HasNames d) where
  -- the log is clean, and open windows have names
  abbrev pub IsGood : State → Type 0
  IsGood t = IsClean d t.log × All (λ window. IsNamed d window.id) t.windows

  with_line : (line : LogLine) (t : State) → IsTold d line → IsGood t → IsGood (with_line_logged line t)
  with_line line t told g = (clean_line d t.log line told g.0, g.1)

  dialog_named : (place : ℕ) (dialog : Dialog) → slice_get d.dialogs place ≡ Some dialog → IsNamedDialog d dialog
  dialog_named place dialog there = at_place (IsNamedDialog d) d.dialogs place dialog names.dialogs there

  -- ---- the open dialog

  worked_good : (o : OpenDialog) (m : Modal) (over : Option ℕ) (t : State) → IsClean d m.log → IsGood t → IsGood (after_work t o m over)
  worked_good o m None t clean g = (clean_append d t.log m.log g.0 clean, g.1)
  worked_good o m (Some number) t clean g = (clean_append d t.log m.log g.0 clean, g.1)

  work_good : (o : OpenDialog) (work : Dialog → Modal → Modal) (t : State) → ((dialog : Dialog) → IsNamedDialog d dialog → IsClean d (work dialog (modal_of t o)).log) → IsGood t → IsGood (in_dialog d t o work)
  work_good o work t clean g =
      option_cases (slice_get d.dialogs o.place) (λ found. IsGood (works t o work found)) (λ none. g)
      (λ dialog there. worked_good o (work dialog (modal_of t o)) (work dialog (modal_of t o)).ended t (clean dialog (dialog_named o.place dialog there)) g)

  -- an event that has no command comes to it
  to_dialog_good : (o : OpenDialog) (e : Event) (t : State) → ((dialog : Dialog) (named : IsNamedDialog d dialog) → IsClean d (dialog_step dialog (event_from o.origin e) (modal_of t o)).log) → IsGood t → IsGood (to_dialog d o e t)
  to_dialog_good o e t clean g = work_good o (λ dialog m. dialog_step dialog (event_from o.origin e) m) t clean g

  opens : (place : ℕ) (t : State) → IsGood t → IsGood (open_dialog d place t)
  opens place t g =
      option_cases (slice_get d.dialogs place) (λ found. IsGood (open_found t place found)) (λ none. g)
      (λ dialog there.
      let named = dialog_named place dialog there in
      let m : Modal = opened_dialog dialog (saved_at t place) (overwriting_at t place) in (
        clean_append d (t.log ++ lines.Open dialog.node.id ∷ []) m.log (clean_line d t.log (lines.Open dialog.node.id) named.own g.0) (opened_clean d dialog named (saved_at t place) (overwriting_at t place)),
        g.1,
      ))

  -- ---- commands

  closes : (windows : List OpenWindow) (t : State) → All (λ window. IsNamed d window.id) windows → IsGood t → IsGood (close_front windows t)
  closes [] t all g = g
  closes (w ∷ behind) t all g =
      with_line (lines.Close w.id) (record t { windows = behind }) (All-head (λ (window : OpenWindow). IsNamed d window.id) w behind all) (g.0, All-tail (λ (window : OpenWindow). IsNamed d window.id) w behind all)

  first_good : (menus : List Menu) (t : State) → IsGood t → IsGood (open_first menus t)
  first_good [] t g = g
  first_good (menu ∷ menus) t g = g

  own_good : (number : ℕ) (opener : Option ℕ) (t : State) → IsNumber (pos number) → IsGood t → IsGood (own_command d number opener t)
  own_good number None t fits g = bool_cases (nat_le 100 number) (λ b. IsGood (if b then with_line_logged (lines.Command number) t else t)) (λ own. with_line (lines.Command number) t fits g) (λ low. g)
  own_good number (Some place) t fits g = opens place t g

  last_named : (windows : List OpenWindow) → All (λ window. IsNamed d window.id) windows → All (λ window. IsNamed d window.id) (last_first windows)
  last_named [] all = all
  last_named (w ∷ behind) all =
      All-cons (λ (window : OpenWindow). IsNamed d window.id) w (reverse behind) (All-head (λ (window : OpenWindow). IsNamed d window.id) w behind all)
      (all_reversed (λ (window : OpenWindow). IsNamed d window.id) behind (All-tail (λ (window : OpenWindow). IsNamed d window.id) w behind all))

  idle_good : (number : ℕ) (t : State) → IsNumber (pos number) → IsGood t → IsGood (idle_command d number t)
  idle_good number t fits g =
      let last : State = own_command d number (opener_of d number) t in
      let next : State = record t { windows = last_first (reverse t.windows) } in
      let quit : State = record t { is_over = true } in
      bool_cases (number == 1)
      (λ b. IsGood (if b then with_line_logged lines.Quit quit else if number == 3 then open_first d.menus t else if number == 4 then close_front t.windows t else if number == 7 then next else last))
      (λ is. with_line lines.Quit quit tt g)
      (λ no_quit. bool_cases (number == 3) (λ b. IsGood (if b then open_first d.menus t else if number == 4 then close_front t.windows t else if number == 7 then next else last))
      (λ is. first_good d.menus t g)
      (λ no_menu. bool_cases (number == 4) (λ b. IsGood (if b then close_front t.windows t else if number == 7 then next else last)) (λ is. closes t.windows t g.1 g)
      (λ no_close. bool_cases (number == 7) (λ b. IsGood (if b then next else last)) (λ is. (g.0, last_named (reverse t.windows) (all_reversed (λ (window : OpenWindow). IsNamed d window.id) t.windows g.1)))
      (λ other. own_good number (opener_of d number) t fits g))))

  command_good : (number : ℕ) (t : State) → IsNumber (pos number) → IsGood t → IsGood (do_command d number t)
  command_good number t fits g =
      option_cases t.dialog (λ x. IsGood (command_by_dialog d number x t)) (λ none. idle_good number t fits g)
      (λ o some. work_good o (λ dialog m. command dialog number m) t (λ dialog named. commanded d dialog named number (modal_of t o) fits tt) g)

  -- ---- menus

  choose_good : (item : Option MenuItem) (t : State) → ((x : MenuItem) → item ≡ Some x → GivesNumber (Some x.command)) → IsGood t → IsGood (choose d item t)
  choose_good None t fits g = g
  choose_good (Some item) t fits g = command_good (command_number item.command) (close_menu t) (fits item refl) g

  items_number : (o : OpenMenu) → All (λ item. GivesNumber (Some item.command)) (open_items d o)
  items_number o =
      option_cases (slice_get d.menus o.menu) (λ found. All (λ item. GivesNumber (Some item.command)) (items_of_menu found)) (λ none. All-nil (λ (item : MenuItem). GivesNumber (Some item.command)))
      (λ menu there. at_place (λ (x : Menu). All (λ item. GivesNumber (Some item.command)) x.items) d.menus o.menu menu names.items there)

  choose_at_good : (o : OpenMenu) (place : Option ℕ) (t : State) → IsGood t → IsGood (choose_at d o place t)
  choose_at_good o None t g = g
  choose_at_good o (Some place) t g =
      choose_good (slice_get (open_items d o) place) t (λ x there. at_place (λ (item : MenuItem). GivesNumber (Some item.command)) (open_items d o) place x (items_number o) there) g

  menu_key_good : (o : OpenMenu) (k : Key) (t : State) → IsGood t → IsGood (menu_key d o k t)
  menu_key_good o keys.Left t g = g
  menu_key_good o keys.Right t g = g
  menu_key_good o keys.Up t g = g
  menu_key_good o keys.Down t g = g
  menu_key_good o keys.Enter t g = choose_at_good o (Some o.item) t g
  menu_key_good o keys.Esc t g = g
  menu_key_good o (keys.Char ch) t g = choose_at_good o (item_of_letter (open_items d o) (upper ch)) t g
  menu_key_good o (keys.Alt letter) t g = choose_at_good o (item_of_letter (open_items d o) letter) t g
  menu_key_good o _ t g = g

  on_item_good : (o : OpenMenu) (item : Option ℕ) (t : State) → IsGood t → IsGood (down_on_item d o item t)
  on_item_good o None t g = g
  on_item_good o (Some item) t g = choose_at_good o (Some item) t g

  on_title_good : (o : OpenMenu) (p : Point) (title : Option ℕ) (t : State) → IsGood t → IsGood (down_on_title d o p title t)
  on_title_good o p None t g = on_item_good o (item_under d o.menu p) t g
  on_title_good o p (Some menu) t g = g

  menu_down_good : (o : OpenMenu) (p : Point) (t : State) → IsGood t → IsGood (menu_down d o p t)
  menu_down_good o p t g = on_title_good o p (title_at d p) t g

  -- ---- the desktop

  raise_good : (i : Id) (t : State) → IsGood t → IsGood (raise i t)
  raise_good i t g = (
    g.0,
    All-append (λ (window : OpenWindow). IsNamed d window.id) (filter (λ (w : OpenWindow). w.id.0 == i.0) t.windows) (filter (λ (w : OpenWindow). not (w.id.0 == i.0)) t.windows)
        (All-filter (λ (w : OpenWindow). w.id.0 == i.0) (λ (window : OpenWindow). IsNamed d window.id) t.windows g.1)
        (All-filter (λ (w : OpenWindow). not (w.id.0 == i.0)) (λ (window : OpenWindow). IsNamed d window.id) t.windows g.1),
  )

  found_good : (w : Option OpenWindow) (t : State) → IsGood t → IsGood (raise_found w t)
  found_good None t g = g
  found_good (Some w) t g = raise_good w.id t g

  alt_good : (ch : ℕ) (title : Option ℕ) (t : State) → IsGood t → IsGood (alt_pressed d ch title t)
  alt_good ch None t g = found_good (window_of_digit d t ch) t g
  alt_good ch (Some menu) t g = g

  desktop_key_good : (k : Key) (t : State) → IsGood t → IsGood (desktop_key d k t)
  desktop_key_good (keys.Alt ch) t g = alt_good ch (title_of_letter d ch) t g
  desktop_key_good _ t g = g

  grab_good : (window : Option Window) (w : OpenWindow) (p : Point) (t : State) → IsGood t → IsGood (grab_window window w p t)
  grab_good None w p t g = g
  grab_good (Some window) w p t g =
      bool_cases (is_grip window.node.w (seen_from w.origin p)) (λ b. IsGood (if b then grabbed w.origin p t else t)) (λ grip. g) (λ beside. g)

  close_number : IsNumber (pos 4)
  close_number = record { sfits = omega arith }

  in_front_good : (w : OpenWindow) (p : Point) (t : State) → IsGood t → IsGood (down_in_front d w p t)
  in_front_good w p t g =
      bool_cases (is_close_mark (seen_from w.origin p)) (λ b. IsGood (if b then do_command d 4 t else grab_window (window_of d w.id) w p t))
      (λ mark. command_good 4 t close_number g) (λ off. grab_good (window_of d w.id) w p t g)

  on_window_good : (windows : List OpenWindow) (w : OpenWindow) (p : Point) (t : State) → IsGood t → IsGood (down_on_window d windows w p t)
  on_window_good [] w p t g = g
  on_window_good (front ∷ behind) w p t g =
      bool_cases (front.id.0 == w.id.0) (λ b. IsGood (if b then down_in_front d w p t else raise w.id t)) (λ is. in_front_good w p t g) (λ other. raise_good w.id t g)

  on_desktop_good : (w : Option OpenWindow) (p : Point) (t : State) → IsGood t → IsGood (down_on_desktop d w p t)
  on_desktop_good None p t g = g
  on_desktop_good (Some w) p t g = on_window_good t.windows w p t g

  title_good : (title : Option ℕ) (p : Point) (t : State) → IsGood t → IsGood (down_beside_title d title p t)
  title_good None p t g =
      bool_cases (is_in (desktop d) p.x p.y) (λ b. IsGood (if b then down_on_desktop d (window_under d t p) p t else t))
      (λ inside. on_desktop_good (window_under d t p) p t g) (λ outside. g)
  title_good (Some place) p t g = g

  desktop_down_good : (p : Point) (t : State) → IsGood t → IsGood (desktop_down d p t)
  desktop_down_good p t g = title_good (title_at d p) p t g

  -- ---- the status line

  spot_number : (place first : ℕ) (items : List StatusItem) (column : ℕ) → All (λ item. GivesNumber (Some item.command)) items → (spot : Spot StatusItem) → spot_in status_text place first items column ≡ Some spot → GivesNumber (Some spot.entry.command)
  spot_number place first [] column all spot e = absurd cc
  spot_number place first (item ∷ items) column all spot e =
      bool_cases (nat_lt column first)
      (λ b. (if b then None else if nat_lt column (first + columns_of (status_text item)) then Some (record { entry = item; place = place; column = column - first }) else spot_in status_text (place + 1) (first + columns_of (status_text item)) items column) ≡ Some spot → GivesNumber (Some spot.entry.command))
      (λ before f. absurd cc)
      (λ from. bool_cases (nat_lt column (first + columns_of (status_text item)))
      (λ b. (if b then Some (record { entry = item; place = place; column = column - first }) else spot_in status_text (place + 1) (first + columns_of (status_text item)) items column) ≡ Some spot → GivesNumber (Some spot.entry.command))
      (λ here f. let same : record { entry = item; place = place; column = column - first } ≡ spot = cc in subst (λ (x : Spot StatusItem). GivesNumber (Some x.entry.command)) same (All-head (λ (x : StatusItem). GivesNumber (Some x.command)) item items all))
      (λ later f. spot_number (place + 1) (first + columns_of (status_text item)) items column (All-tail (λ (x : StatusItem). GivesNumber (Some x.command)) item items all) spot f)) e

  on_screen_number : (b : Bool) (column : ℕ) (item : StatusItem) → option_map (λ spot. spot.entry) (if b then status_spot d column else None) ≡ Some item → GivesNumber (Some item.command)
  on_screen_number true column item e =
      option_cases (status_spot d column) (λ o. option_map (λ spot. spot.entry) o ≡ Some item → GivesNumber (Some item.command)) (λ none f. absurd cc)
      (λ spot there f. let same : spot.entry ≡ item = cc in subst (λ (x : StatusItem). GivesNumber (Some x.command)) same (spot_number 0 0 d.status column names.status spot there)) e
  on_screen_number false column item e = absurd cc

  under_number : (x : ℤ) (item : StatusItem) → status_under d x ≡ Some item → GivesNumber (Some item.command)
  under_number x item e = on_screen_number _ (natural x) item e

  status_good : (item : Option StatusItem) (t : State) → ((x : StatusItem) → item ≡ Some x → GivesNumber (Some x.command)) → IsGood t → IsGood (status_command d item t)
  status_good None t fits g = g
  status_good (Some item) t fits g =
      bool_cases (is_item_enabled d t item) (λ b. IsGood (if b then do_command d (command_number item.command) t else t)) (λ enabled. command_good (command_number item.command) t (fits item refl) g) (λ disabled. g)

  -- ---- events, while nothing holds the mouse

  key_below : (k : Key) (t : State) → IsGood t → IsGood (key_by_dialog d t.dialog k t)
  key_below k t g =
      option_cases t.dialog (λ x. IsGood (key_by_dialog d x k t)) (λ none. desktop_key_good k t g)
      (λ o some. to_dialog_good o (events.Key k) t (λ dialog named. stepped_clean d dialog named (events.Key k) (modal_of t o) tt tt) g)

  key_status : (item : Option StatusItem) (k : Key) (t : State) → ((x : StatusItem) → item ≡ Some x → GivesNumber (Some x.command)) → IsGood t → IsGood (key_by_item d item k t)
  key_status None k t fits g = key_below k t g
  key_status (Some item) k t fits g = command_good (command_number item.command) t (fits item refl) g

  key_good : (k : Key) (t : State) → IsGood t → IsGood (key_by_menu d t.menu k t)
  key_good k t g =
      option_cases t.menu (λ o. IsGood (key_by_menu d o k t))
      (λ none. key_status (status_item_of d t k) k t
      (λ x found. found-all (λ (item : StatusItem). GivesNumber (Some item.command)) (λ item. is_same_key item.key k && is_item_enabled d t item) d.status x names.status found) g)
      (λ o some. menu_key_good o k t g)

  down_at_dialog : (o : OpenDialog) (p : Point) (t : State) → IsGood t → IsGood (down_on_dialog d o p t)
  down_at_dialog o p t g =
      bool_cases (is_grip_of (slice_get d.dialogs o.place) (seen_from o.origin p)) (λ b. IsGood (if b then grabbed o.origin p t else to_dialog d o (events.Down p) t)) (λ grip. g)
      (λ beside. to_dialog_good o (events.Down p) t (λ dialog named. stepped_clean d dialog named (events.Down (seen_from o.origin p)) (modal_of t o) tt tt) g)

  down_below : (p : Point) (t : State) → IsGood t → IsGood (down_by_dialog d t.dialog p t)
  down_below p t g =
      option_cases t.dialog (λ x. IsGood (down_by_dialog d x p t)) (λ none. desktop_down_good p t g)
      (λ o some. bool_cases (is_in (desktop d) p.x p.y) (λ b. IsGood (if b then down_on_dialog d o p t else t)) (λ inside. down_at_dialog o p t g) (λ outside. g))

  down_row : (p : Point) (t : State) → IsGood t → IsGood (down_by_row d p t)
  down_row p t g =
      bool_cases (is_in (rect (pos 0) (pos 0) d.width d.height) p.x p.y)
      (λ b. IsGood (if not b then t else if is_status_row d p then status_command d (status_under d p.x) t else down_by_dialog d t.dialog p t))
      (λ inside. bool_cases (is_status_row d p) (λ b. IsGood (if b then status_command d (status_under d p.x) t else down_by_dialog d t.dialog p t))
      (λ row. status_good (status_under d p.x) t (under_number p.x) g) (λ above. down_below p t g))
      (λ outside. g)

  down_good : (p : Point) (t : State) → IsGood t → IsGood (down_by_menu d t.menu p t)
  down_good p t g = option_cases t.menu (λ o. IsGood (down_by_menu d o p t)) (λ none. down_row p t g) (λ o some. menu_down_good o p t g)

  event_good : (e : Event) (t : State) → IsGood t → IsGood (after_event d e t)
  event_good (events.Key k) t g = key_good k t g
  event_good (events.Down p) t g = down_good p t g
  event_good (events.Move p) t g = g
  event_good (events.Up p) t g = g
  event_good (events.Command c) t g = g
  event_good (events.Broadcast c) t g = g

  -- ---- while a leaf holds it

  held_good : (o : OpenDialog) (e : Event) (t : State) → IsGood t → IsGood (step_held d o e t)
  held_good o (events.Move p) t g = to_dialog_good o (events.Move p) t (λ dialog named. stepped_clean d dialog named (events.Move (seen_from o.origin p)) (modal_of t o) tt tt) g
  held_good o (events.Up p) t g = to_dialog_good o (events.Up p) t (λ dialog named. stepped_clean d dialog named (events.Up (seen_from o.origin p)) (modal_of t o) tt tt) g
  held_good o (events.Key k) t g = g
  held_good o (events.Down p) t g = g
  held_good o (events.Command c) t g = g
  held_good o (events.Broadcast c) t g = g

  -- ---- while a frame is held

  width_at : (o : Option OpenDialog) (windows : List OpenWindow) (width : ℤ) → dragged_width d o windows ≡ Some width → width ≤ℤ pos 132
  width_at None [] width e = absurd cc
  width_at None (front ∷ behind) width e =
      option_cases (window_of d front.id) (λ found. option_map (λ window. window.node.w) found ≡ Some width → width ≤ℤ pos 132) (λ none f. absurd cc)
      (λ window found f.
      let same : window.node.w ≡ width = cc in
      subst (λ w. w ≤ℤ pos 132) same (found-all (λ (x : Window). x.node.w ≤ℤ pos 132) (λ x. has_id front.id x.node) d.windows window names.wide_windows found)) e
  width_at (Some o) windows width e =
      option_cases (slice_get d.dialogs o.place) (λ found. option_map (λ dialog. dialog.node.w) found ≡ Some width → width ≤ℤ pos 132) (λ none f. absurd cc)
      (λ dialog there f. let same : dialog.node.w ≡ width = cc in subst (λ w. w ≤ℤ pos 132) same (at_place (λ (x : Dialog). x.node.w ≤ℤ pos 132) d.dialogs o.place dialog names.wide_dialogs there)) e

  abbrev HasNumbers : Point → Type 0
  HasNumbers p = IsNumber p.x × IsNumber p.y

  corner_numbers : (frame : HeldFrame) (p : Point) (width : ℤ) → width ≤ℤ pos 132 → (pos 0 ≤ℤ frame.off) × (frame.off <ℤ width) → HasNumbers (corner_at d frame p)
  corner_numbers frame p width wide column =
      let right : ℤ = d.width -ℤ pos 1 in
      let bottom : ℤ = d.height -ℤ pos 2 in
      let x : ℤ = clamped (pos 0) right p.x in
      let y : ℤ = clamped (pos 1) bottom p.y in
      let from_left : pos 0 ≤ℤ right = omega (arith, ints, names.width) in
      let from_top : pos 1 ≤ℤ bottom = omega (arith, ints, names.height) in
      let x_least : pos 0 ≤ℤ x = clamped_least (pos 0) right p.x from_left in
      let x_most : x ≤ℤ right = clamped_most (pos 0) right p.x from_left in
      let y_least : pos 1 ≤ℤ y = clamped_least (pos 1) bottom p.y from_top in
      let y_most : y ≤ℤ bottom = clamped_most (pos 1) bottom p.y from_top in (
        number_between (x -ℤ frame.off) (low x frame.off width x_least column.1 wide) (high x frame.off d.width column.0 x_most names.width.1),
        number_between y (above y y_least) (below y d.height y_most names.height.1),
      )
    where
      low : (z off w : ℤ) → pos 0 ≤ℤ z → off <ℤ w → w ≤ℤ pos 132 → neg_ℤ (pos 1000) ≤ℤ (z -ℤ off)
      low z off w a b c = omega (arith, ints)

      high : (z off w : ℤ) → pos 0 ≤ℤ off → z ≤ℤ (w -ℤ pos 1) → w ≤ℤ pos 132 → (z -ℤ off) ≤ℤ pos 1000
      high z off w a b c = omega (arith, ints)

      above : (z : ℤ) → pos 1 ≤ℤ z → neg_ℤ (pos 1000) ≤ℤ z
      above z a = omega (arith, ints)

      below : (z h : ℤ) → z ≤ℤ (h -ℤ pos 2) → h ≤ℤ pos 60 → z ≤ℤ pos 1000
      below z h a b = omega (arith, ints)

  front_named : (corner : Point) (windows : List OpenWindow) → All (λ window. IsNamed d window.id) windows → All (λ window. IsNamed d window.id) (front_at corner windows)
  front_named corner [] all = all
  front_named corner (front ∷ behind) all =
      All-cons (λ (window : OpenWindow). IsNamed d window.id) (record front { origin = corner }) behind (All-head (λ (window : OpenWindow). IsNamed d window.id) front behind all) (All-tail (λ (window : OpenWindow). IsNamed d window.id) front behind all)

  placed_good : (o : Option OpenDialog) (corner : Point) (t : State) → IsGood t → IsGood (placed o corner t)
  placed_good None corner t g = (g.0, front_named corner t.windows g.1)
  placed_good (Some o) corner t g = g

  front_logged : (windows : List OpenWindow) (corner : Point) (t : State) → HasNumbers corner → All (λ window. IsNamed d window.id) windows → IsGood t → IsGood (moved_front windows corner t)
  front_logged [] corner t fits all g = g
  front_logged (front ∷ behind) corner t fits all g = with_line (lines.Moved front.id corner) t (All-head (λ (window : OpenWindow). IsNamed d window.id) front behind all, fits.0, fits.1) g

  frame_logged : (o : Option OpenDialog) (corner : Point) (t : State) → HasNumbers corner → IsGood t → IsGood (moved_frame d o corner t)
  frame_logged None corner t fits g = front_logged t.windows corner t fits g.1 g
  frame_logged (Some o) corner t fits g =
      option_cases (slice_get d.dialogs o.place) (λ found. IsGood (moved_dialog found corner t)) (λ none. g)
      (λ dialog there. with_line (lines.Moved dialog.node.id corner) t ((dialog_named o.place dialog there).own, fits.0, fits.1) g)

  dropped_good : (frame : HeldFrame) (corner : Point) (t : State) → HasNumbers corner → IsGood t → IsGood (dropped d frame corner t)
  dropped_good frame corner t fits g =
      bool_cases (is_same_point frame.from corner) (λ b. IsGood (if b then t else moved_frame d t.dialog corner t)) (λ same. g) (λ other. frame_logged t.dialog corner t fits g)

  dragged_good : (frame : HeldFrame) (e : Event) (t : State) → ((p : Point) → HasNumbers (corner_at d frame p)) → IsGood t → IsGood (step_dragged d frame e t)
  dragged_good frame (events.Move p) t fits g = placed_good t.dialog (corner_at d frame p) t g
  dragged_good frame (events.Up p) t fits g =
      let corner = corner_at d frame p in
      dropped_good frame corner (placed t.dialog corner (let_go t)) (fits p) (placed_good t.dialog corner (let_go t) g)
  dragged_good frame (events.Key k) t fits g = g
  dragged_good frame (events.Down p) t fits g = g
  dragged_good frame (events.Command c) t fits g = g
  dragged_good frame (events.Broadcast c) t fits g = g

  -- ---- the step, and the start

  pub step_good : (s : State) (e : Event) → IsFitState d s → All (λ window. IsNamed d window.id) s.windows → IsGood (step d s e)
  step_good s e f windows =
      let quiet : State = with_empty_log s in
      let g : IsGood quiet = (tt, windows) in
      bool_cases s.is_over (λ b. IsGood (if b then quiet else step_by_frame d s.frame e quiet)) (λ over. g)
      (λ goes. option_cases s.frame (λ frame. IsGood (step_by_frame d frame e quiet))
      (λ loose. option_cases (dialog_with_hold s.dialog) (λ o. IsGood (step_by_hold d o e quiet)) (λ none. event_good e quiet g) (λ o some. held_good o e quiet g))
      (λ frame held.
      let x = f.frame frame held in
      dragged_good frame e quiet (λ p. corner_numbers frame p x.width (width_at s.dialog s.windows x.width x.there) x.column) g))

  closed_good : IsGood (closed d)
  closed_good = (tt, all_reversed (λ (window : OpenWindow). IsNamed d window.id) (map open_window d.windows) (All-map (λ (window : OpenWindow). IsNamed d window.id) open_window d.windows names.windows))

  started_at_good : (place : Option ℕ) → IsGood (started_at d place)
  started_at_good None = closed_good
  started_at_good (Some place) = opens place (closed d) closed_good

  started_by_good : (name : Option (List ℕ)) → IsGood (started_by d name)
  started_by_good None = closed_good
  started_by_good (Some name) = started_at_good (position (is_named name) d.dialogs)

  pub start_good : IsGood (start d)
  start_good = started_by_good d.start
