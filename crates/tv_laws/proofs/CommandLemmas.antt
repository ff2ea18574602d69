-- Commands, menus and windows: the run stays fit.
use Rattle.std.proofs.Common.{◌≡◌, true, false, ◌==◌, ℕ, if◌then◌else◌, List, [], ◌∷◌, reverse, Option, Some, None, refl, sym, ◌∙◌, ap, option_map}
use Rattle.std.specs.Prelude.{nat_le, slice_get}
use Rattle.tv_cells.specs.Layers.{is_in}
use Rattle.tv_cells.specs.declared.rect.Point.{Point}
use Rattle.tv_event.specs.declared.event.Key.{Key}
use Rattle.tv_event.specs.declared.event.Key.TheVariants as keys
use Rattle.tv_model.specs.declared.desc.Desc.{Desc}
use Rattle.tv_model.specs.declared.desc.Menu.{Menu}
use Rattle.tv_model.specs.declared.desc.MenuItem.{MenuItem}
use Rattle.tv_model.specs.declared.desc.Window.{Window}
use Rattle.tv_model.specs.declared.log.LogLine.TheVariants as lines
use Rattle.tv_model.specs.Description.Commands.{command_number}
use Rattle.tv_model.specs.Description.Marks.{upper}
use Rattle.tv_model.specs.Description.Rectangles.{desktop}
use Rattle.tv_machine.specs.State.{OpenDialog, OpenMenu, OpenWindow, State}
use Rattle.tv_machine.specs.Dialog.Ending.{command}
use Rattle.tv_machine.specs.Dialog.Mouse.{is_close_mark}
use Rattle.tv_machine.specs.Safe.{dragged_width, front_width}
use Rattle.tv_machine.specs.Screen.Bars.{item_under}
use Rattle.tv_machine.specs.Screen.Bodies.{window_of}
use Rattle.tv_machine.specs.Session.Commands.{close_front, command_by_dialog, do_command, idle_command, last_first, open_first, opener_of, own_command, raised, with_line_logged}
use Rattle.tv_machine.specs.Session.Desktop.{alt_pressed, desktop_down, desktop_key, down_beside_title, down_in_front, down_on_desktop, down_on_window, grab_window, raise, raise_found, seen_from, window_of_digit, window_under}
use Rattle.tv_machine.specs.Session.Dragging.{grabbed, is_grip}
use Rattle.tv_machine.specs.Session.Menu.{choose, choose_at, close_menu, down_on_item, down_on_title, item_of_letter, menu_down, menu_key, open_items, open_menu, title_at, title_of_letter}
use Rattle.tv_machine.specs.Session.Step.{dialog_with_hold}
use Rattle.tv_laws.specs.Runs.{HasSoundDialogs, IsFitState, IsKept}
use Rattle.tv_laws.proofs.EndLemmas.{command-done}
use Rattle.tv_machine.proofs.ListLemmas.{bool_cases, option_cases, same-id}
use Rattle.tv_laws.proofs.DragLemmas.{grabbed-fit}
use Rattle.tv_laws.proofs.WorkLemmas.{dialog-opens, dialog-works, kept-beside, kept-logged, no-frame, nothing}

module _ (d : Desc) (sound : HasSoundDialogs d) where
  -- ---- while no dialog is open

  -- a run that goes on, with no dialog open and no frame held
  pub record IsIdle (s : State) : Type 0 where
    pub kept : IsKept d s
    pub none : s.dialog ≡ None
    pub over : s.is_over ≡ false
    pub free : s.frame ≡ None

  pub idle-fit : (s : State) → IsKept d s → s.dialog ≡ None → s.frame ≡ None → IsFitState d s
  idle-fit s k none free = record { kept = k; «open» = λ o e. absurd (nothing o (sym none ∙ e)); frame = no-frame d sound s free }

  pub idle-state : (s : State) → IsIdle s → IsFitState d s
  idle-state s i = idle-fit s i.kept i.none i.free

  -- its windows or its menu change
  pub idle-beside : (s : State) (windows : List OpenWindow) (menu : Option OpenMenu) → IsIdle s
      → IsFitState d (record s { windows = windows; menu = menu })
  idle-beside s windows menu i = idle-fit (record s { windows = windows; menu = menu }) (kept-beside d sound s s.is_over windows menu s.dialog i.kept) i.none i.free

  close_fit : (windows : List OpenWindow) (s : State) → IsIdle s → IsFitState d (close_front windows s)
  close_fit [] s i = idle-state s i
  close_fit (w ∷ behind) s i =
      let t : State = record s { windows = behind } in
      idle-fit (with_line_logged (lines.Close w.id) t) (kept-logged d sound (lines.Close w.id) t tt (kept-beside d sound s s.is_over behind s.menu s.dialog i.kept)) i.none i.free

  first_fit : (menus : List Menu) (s : State) → IsIdle s → IsFitState d (open_first menus s)
  first_fit [] s i = idle-state s i
  first_fit (menu ∷ menus) s i = idle-beside s s.windows (Some (record { menu = 0; item = 0 })) i

  own_fit : (number : ℕ) (opener : Option ℕ) (s : State) → IsIdle s → s.menu ≡ None → IsFitState d (own_command d number opener s)
  own_fit number None s i menu =
      bool_cases (nat_le 100 number) (λ b. IsFitState d (if b then with_line_logged (lines.Command number) s else s))
      (λ own. idle-fit (with_line_logged (lines.Command number) s) (kept-logged d sound (lines.Command number) s tt i.kept) i.none i.free) (λ low. idle-state s i)
  own_fit number (Some place) s i menu = dialog-opens d sound place s (idle-state s i) menu i.over i.free

  idle_command_fit : (number : ℕ) (s : State) → IsIdle s → s.menu ≡ None → IsFitState d (idle_command d number s)
  idle_command_fit number s i menu =
      let last : State = own_command d number (opener_of d number) s in
      let next : State = record s { windows = last_first (reverse s.windows) } in
      let quit : State = record s { is_over = true } in
      bool_cases (number == 1)
      (λ b. IsFitState d (if b then with_line_logged lines.Quit quit else if number == 3 then open_first d.menus s else if number == 4 then close_front s.windows s else if number == 7 then next else last))
      (λ is. idle-fit (with_line_logged lines.Quit quit) (kept-logged d sound lines.Quit quit tt (kept-beside d sound s true s.windows s.menu s.dialog i.kept)) i.none i.free)
      (λ no_quit. bool_cases (number == 3) (λ b. IsFitState d (if b then open_first d.menus s else if number == 4 then close_front s.windows s else if number == 7 then next else last))
      (λ is. first_fit d.menus s i)
      (λ no_menu. bool_cases (number == 4) (λ b. IsFitState d (if b then close_front s.windows s else if number == 7 then next else last)) (λ is. close_fit s.windows s i)
      (λ no_close. bool_cases (number == 7) (λ b. IsFitState d (if b then next else last)) (λ is. idle-beside s (last_first (reverse s.windows)) s.menu i)
      (λ other. own_fit number (opener_of d number) s i menu))))

  -- ---- commands

  -- a run that goes on, in which nothing holds the mouse
  pub record IsReady (s : State) : Type 0 where
    pub fit : IsFitState d s
    pub over : s.is_over ≡ false
    pub free : s.frame ≡ None
    pub idle : (o : OpenDialog) → s.dialog ≡ Some o → o.held ≡ None

  pub ready-idle : (s : State) → IsReady s → s.dialog ≡ None → IsIdle s
  ready-idle s r none = record { kept = r.fit.kept; none = none; over = r.over; free = r.free }

  idle_ready : (s : State) → IsIdle s → IsReady s
  idle_ready s i = record { fit = idle-state s i; over = i.over; free = i.free; idle = λ o e. absurd (nothing o (sym i.none ∙ e)) }

  -- a command while no menu is open
  pub command-fit : (number : ℕ) (s : State) → IsReady s → s.menu ≡ None → IsFitState d (do_command d number s)
  command-fit number s r menu =
      option_cases s.dialog (λ dialog. IsFitState d (command_by_dialog d number dialog s)) (λ none. idle_command_fit number s (ready-idle s r none) menu)
      (λ o some. dialog-works d sound s o (λ dialog m. command dialog number m) some r.fit r.free
      (λ dialog is going. command-done dialog is number _ (record { fit = going.fit; log = going.log; going = going.going; idle = r.idle o some })))

  -- ---- menus

  choose_fit : (item : Option MenuItem) (s : State) → IsIdle s → IsFitState d (choose d item s)
  choose_fit None s i = idle-state s i
  choose_fit (Some item) s i =
      let t = close_menu s in
      command-fit (command_number item.command) t (idle_ready t (record { kept = kept-beside d sound s s.is_over s.windows None s.dialog i.kept; none = i.none; over = i.over; free = i.free })) refl

  choose_at_fit : (o : OpenMenu) (place : Option ℕ) (s : State) → IsIdle s → IsFitState d (choose_at d o place s)
  choose_at_fit o None s i = idle-state s i
  choose_at_fit o (Some place) s i = choose_fit (slice_get (open_items d o) place) s i

  opened_fit : (place : ℕ) (s : State) → IsIdle s → IsFitState d (open_menu place s)
  opened_fit place s i = idle-beside s s.windows (Some (record { menu = place; item = 0 })) i

  pub menu_key-fit : (o : OpenMenu) (k : Key) (s : State) → IsIdle s → IsFitState d (menu_key d o k s)
  menu_key-fit o keys.Left s i = idle-beside s s.windows _ i
  menu_key-fit o keys.Right s i = idle-beside s s.windows _ i
  menu_key-fit o keys.Up s i = idle-beside s s.windows _ i
  menu_key-fit o keys.Down s i = idle-beside s s.windows _ i
  menu_key-fit o keys.Enter s i = choose_at_fit o (Some o.item) s i
  menu_key-fit o keys.Esc s i = idle-beside s s.windows None i
  menu_key-fit o (keys.Char ch) s i = choose_at_fit o (item_of_letter (open_items d o) (upper ch)) s i
  menu_key-fit o (keys.Alt letter) s i = choose_at_fit o (item_of_letter (open_items d o) letter) s i
  menu_key-fit o _ s i = idle-state s i

  on_item_fit : (o : OpenMenu) (item : Option ℕ) (s : State) → IsIdle s → IsFitState d (down_on_item d o item s)
  on_item_fit o None s i = idle-beside s s.windows None i
  on_item_fit o (Some item) s i = choose_at_fit o (Some item) s i

  on_title_fit : (o : OpenMenu) (p : Point) (title : Option ℕ) (s : State) → IsIdle s → IsFitState d (down_on_title d o p title s)
  on_title_fit o p None s i = on_item_fit o (item_under d o.menu p) s i
  on_title_fit o p (Some menu) s i = opened_fit menu s i

  pub menu_down-fit : (o : OpenMenu) (p : Point) (s : State) → IsIdle s → IsFitState d (menu_down d o p s)
  menu_down-fit o p s i = on_title_fit o p (title_at d p) s i

  -- ---- the desktop

  raise_fit : (w : Option OpenWindow) (s : State) → IsIdle s → IsFitState d (raise_found w s)
  raise_fit None s i = idle-state s i
  raise_fit (Some w) s i = idle-beside s (raised w.id s.windows) s.menu i

  alt_fit : (ch : ℕ) (title : Option ℕ) (s : State) → IsIdle s → IsFitState d (alt_pressed d ch title s)
  alt_fit ch None s i = raise_fit (window_of_digit d s ch) s i
  alt_fit ch (Some menu) s i = opened_fit menu s i

  pub desktop_key-fit : (k : Key) (s : State) → IsIdle s → IsFitState d (desktop_key d k s)
  desktop_key-fit (keys.Alt ch) s i = alt_fit ch (title_of_letter d ch) s i
  desktop_key-fit _ s i = idle-state s i

  module _ (w : OpenWindow) (p : Point) (s : State) (i : IsIdle s) (menu : s.menu ≡ None) where
    -- the front window is the one of this id, which is held by its top row
    grab_fit : (front : OpenWindow) (behind : List OpenWindow) → s.windows ≡ front ∷ behind → (front.id.0 == w.id.0) ≡ true
        → (window : Option Window) → window_of d w.id ≡ window → IsFitState d (grab_window window w p s)
    grab_fit front behind stack is None found = idle-state s i
    grab_fit front behind stack is (Some window) found =
        let there : dragged_width d s.dialog s.windows ≡ Some window.node.w =
        ap (λ o. dragged_width d o s.windows) i.none ∙ ap (front_width d) stack
        ∙ ap (λ x. option_map (λ x. x.node.w) (window_of d x)) (same-id front.id w.id is) ∙ ap (option_map (λ x. x.node.w)) found in
        bool_cases (is_grip window.node.w (seen_from w.origin p)) (λ b. IsFitState d (if b then grabbed w.origin p s else s))
        (λ grip. grabbed-fit d sound w.origin p s window.node.w (idle-state s i) there grip (ap dialog_with_hold i.none) menu i.over) (λ beside. idle-state s i)

    in_front_fit : (front : OpenWindow) (behind : List OpenWindow) → s.windows ≡ front ∷ behind → (front.id.0 == w.id.0) ≡ true
        → IsFitState d (down_in_front d w p s)
    in_front_fit front behind stack is =
        bool_cases (is_close_mark (seen_from w.origin p)) (λ b. IsFitState d (if b then do_command d 4 s else grab_window (window_of d w.id) w p s))
        (λ mark. command-fit 4 s (idle_ready s i) menu) (λ beside. grab_fit front behind stack is (window_of d w.id) refl)

    on_window_fit : (windows : List OpenWindow) → s.windows ≡ windows → IsFitState d (down_on_window d windows w p s)
    on_window_fit [] stack = idle-state s i
    on_window_fit (front ∷ behind) stack =
        bool_cases (front.id.0 == w.id.0) (λ b. IsFitState d (if b then down_in_front d w p s else raise w.id s)) (λ is. in_front_fit front behind stack is)
        (λ other. idle-beside s (raised w.id s.windows) s.menu i)

  on_desktop_fit : (w : Option OpenWindow) (p : Point) (s : State) → IsIdle s → s.menu ≡ None → IsFitState d (down_on_desktop d w p s)
  on_desktop_fit None p s i menu = idle-state s i
  on_desktop_fit (Some w) p s i menu = on_window_fit w p s i menu s.windows refl

  beside_fit : (title : Option ℕ) (p : Point) (s : State) → IsIdle s → s.menu ≡ None → IsFitState d (down_beside_title d title p s)
  beside_fit None p s i menu =
      bool_cases (is_in (desktop d) p.x p.y) (λ b. IsFitState d (if b then down_on_desktop d (window_under d s p) p s else s))
      (λ inside. on_desktop_fit (window_under d s p) p s i menu) (λ outside. idle-state s i)
  beside_fit (Some place) p s i menu = opened_fit place s i

  pub desktop_down-fit : (p : Point) (s : State) → IsIdle s → s.menu ≡ None → IsFitState d (desktop_down d p s)
  desktop_down-fit p s i menu = beside_fit (title_at d p) p s i menu
