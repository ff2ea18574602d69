-- While no dialog is open no event logs an end or saves anything, and a dialog that opens shows what was saved of it.
use Rattle.std.proofs.Common.{◌≡◌, true, ◌==◌, ℕ, if◌then◌else◌, List, [], ◌∷◌, ◌++◌, reverse, Option, Some, None, unwrap_or, refl, sym, ap, subst, ◌∙◌, All}
use Rattle.std.specs.Prelude.{nat_le, slice_get}
use Rattle.std.proofs.lemmas.List.Elements.{All-append, All-nil, All-push}
use Rattle.tv_cells.specs.Layers.{is_in}
use Rattle.tv_cells.specs.declared.rect.Point.{Point}
use Rattle.tv_event.specs.declared.event.Key.{Key}
use Rattle.tv_event.specs.declared.event.Key.TheVariants as keys
use Rattle.tv_model.specs.declared.desc.Desc.{Desc}
use Rattle.tv_model.specs.declared.desc.Dialog.{Dialog}
use Rattle.tv_model.specs.declared.desc.Menu.{Menu}
use Rattle.tv_model.specs.declared.desc.MenuItem.{MenuItem}
use Rattle.tv_model.specs.declared.desc.Window.{Window}
use Rattle.tv_model.specs.declared.log.LogLine.{LogLine}
use Rattle.tv_model.specs.declared.log.LogLine.TheVariants as lines
use Rattle.tv_model.specs.Description.Commands.{command_number}
use Rattle.tv_model.specs.Description.Marks.{upper}
use Rattle.tv_model.specs.Description.Rectangles.{corner_of, desktop}
use Rattle.tv_machine.specs.State.{OpenDialog, OpenMenu, OpenWindow, State}
use Rattle.tv_machine.specs.Dialog.Ending.{fields_of}
use Rattle.tv_machine.specs.Dialog.Modal.{Modal}
use Rattle.tv_machine.specs.Dialog.Mouse.{is_close_mark}
use Rattle.tv_machine.specs.Dialog.Opening.{first_focus, opened_dialog, opened_leaves, unfocused}
use Rattle.tv_machine.specs.Screen.Bars.{item_under}
use Rattle.tv_machine.specs.Screen.Bodies.{window_of}
use Rattle.tv_machine.specs.Session.Commands.{close_front, command_by_dialog, do_command, idle_command, last_first, open_dialog, open_first, open_found, opener_of, overwriting_at, own_command, saved_at, with_line_logged}
use Rattle.tv_machine.specs.Session.Desktop.{alt_pressed, desktop_down, desktop_key, down_beside_title, down_in_front, down_on_desktop, down_on_window, grab_window, raise, raise_found, seen_from, window_of_digit, window_under}
use Rattle.tv_machine.specs.Session.Dragging.{grabbed, is_grip}
use Rattle.tv_machine.specs.Session.Menu.{choose, choose_at, close_menu, down_on_item, down_on_title, item_of_letter, menu_down, menu_key, open_items, open_menu, title_at, title_of_letter}
use Rattle.tv_laws.specs.Records.{IsNoEnd, ShowsSaved, opened_record}
use Rattle.tv_laws.specs.Runs.{HasSoundDialogs, IsKept}
use Rattle.tv_machine.proofs.ListLemmas.{bool_cases, option_cases}
use Rattle.tv_laws.proofs.RecordLaws.OnceLemmas.{quiet-focus}
use Rattle.tv_laws.proofs.RecordLaws.ShowLemmas.{fields-opened}
use Rattle.tv_laws.proofs.WorkLemmas.{nothing, ordered_at, saved_safe, sound-at}

-- no end was logged, nothing was saved, and a dialog that is open now and wasn't shows what was saved of it
pub record IsBeside (d : Desc) (s after : State) : Type 0 where
  pub log : All IsNoEnd after.log
  pub saved : after.saved ≡ s.saved
  pub shows : (o : OpenDialog) → s.dialog ≡ None → after.dialog ≡ Some o → ShowsSaved d s o

module _ (d : Desc) (sound : HasSoundDialogs d) (s : State) (kept : IsKept d s) where
  -- no end was logged, nothing was saved, and no dialog is open
  abbrev pub IsStill : State → Type 0
  IsStill t = All IsNoEnd t.log × (t.saved ≡ s.saved) × (t.overwriting ≡ s.overwriting) × (t.dialog ≡ None)

  pub still-beside : (t : State) → IsStill t → IsBeside d s t
  still-beside t i = record { log = i.0; saved = i.1; shows = λ o was e. absurd (nothing o (sym i.3 ∙ e)) }

  still_logged : (line : LogLine) (t : State) → IsNoEnd line → IsStill t → IsBeside d s (with_line_logged line t)
  still_logged line t is i = still-beside (with_line_logged line t) (All-push IsNoEnd t.log line i.0 is, i.1, i.2, i.3)

  -- ---- a dialog opens

  opened_fields : (place : ℕ) (dialog : Dialog) (t : State) → slice_get d.dialogs place ≡ Some dialog → IsStill t
      → fields_of (opened_dialog dialog (saved_at t place) (overwriting_at t place)).leaves ≡ opened_record dialog (saved_at s place)
  opened_fields place dialog t there i =
      ap (λ xs. fields_of (opened_dialog dialog (unwrap_or (slice_get xs place) None) (overwriting_at t place)).leaves) i.1
      ∙ ap (λ xs. fields_of (opened_dialog dialog (saved_at s place) (unwrap_or (slice_get xs place) [])).leaves) i.2
      ∙ fields-opened dialog (sound-at d sound place dialog there) (saved_at s place) (overwriting_at s place) (saved_safe d sound s kept place dialog there)
      (ordered_at d sound s kept place dialog there)

  pub opens-beside : (place : ℕ) (t : State) → IsStill t → IsBeside d s (open_dialog d place t)
  opens-beside place t i =
      option_cases (slice_get d.dialogs place) (λ found. IsBeside d s (open_found t place found)) (λ none. still-beside t i)
      (λ dialog there.
      let before = unfocused dialog (saved_at t place) (overwriting_at t place) in
      let m : Modal = opened_dialog dialog (saved_at t place) (overwriting_at t place) in
      let quiet = quiet-focus dialog (first_focus dialog (opened_leaves dialog (saved_at t place))) before (All-nil IsNoEnd, refl) in
      let o : OpenDialog = record { place = place; origin = corner_of dialog.node; sheet = None; leaves = m.leaves; focus = m.focus; held = m.held } in
      record {
        log = All-append IsNoEnd (t.log ++ lines.Open dialog.node.id ∷ []) m.log (All-push IsNoEnd t.log (lines.Open dialog.node.id) i.0 tt) quiet.0;
        saved = i.1;
        shows = λ x was e. let this : o ≡ x = cc in subst (ShowsSaved d s) this (record { dialog = dialog; there = there; shown = opened_fields place dialog t there i });
      })

  -- ---- commands

  close_beside : (windows : List OpenWindow) (t : State) → IsStill t → IsBeside d s (close_front windows t)
  close_beside [] t i = still-beside t i
  close_beside (w ∷ behind) t i = still_logged (lines.Close w.id) (record t { windows = behind }) tt i

  first_beside : (menus : List Menu) (t : State) → IsStill t → IsBeside d s (open_first menus t)
  first_beside [] t i = still-beside t i
  first_beside (menu ∷ menus) t i = still-beside _ i

  own_beside : (number : ℕ) (opener : Option ℕ) (t : State) → IsStill t → IsBeside d s (own_command d number opener t)
  own_beside number None t i =
      bool_cases (nat_le 100 number) (λ b. IsBeside d s (if b then with_line_logged (lines.Command number) t else t))
      (λ own. still_logged (lines.Command number) t tt i) (λ low. still-beside t i)
  own_beside number (Some place) t i = opens-beside place t i

  idle_beside : (number : ℕ) (t : State) → IsStill t → IsBeside d s (idle_command d number t)
  idle_beside number t i =
      let last : State = own_command d number (opener_of d number) t in
      let next : State = record t { windows = last_first (reverse t.windows) } in
      let quit : State = record t { is_over = true } in
      bool_cases (number == 1)
      (λ b. IsBeside d s (if b then with_line_logged lines.Quit quit else if number == 3 then open_first d.menus t else if number == 4 then close_front t.windows t else if number == 7 then next else last))
      (λ is. still_logged lines.Quit quit tt i)
      (λ no_quit. bool_cases (number == 3) (λ b. IsBeside d s (if b then open_first d.menus t else if number == 4 then close_front t.windows t else if number == 7 then next else last))
      (λ is. first_beside d.menus t i)
      (λ no_menu. bool_cases (number == 4) (λ b. IsBeside d s (if b then close_front t.windows t else if number == 7 then next else last)) (λ is. close_beside t.windows t i)
      (λ no_close. bool_cases (number == 7) (λ b. IsBeside d s (if b then next else last)) (λ is. still-beside next i)
      (λ other. own_beside number (opener_of d number) t i))))

  pub command-beside : (number : ℕ) (t : State) → IsStill t → IsBeside d s (do_command d number t)
  command-beside number t i = subst (λ x. IsBeside d s (command_by_dialog d number x t)) (sym i.3) (idle_beside number t i)

  -- ---- menus

  choose_beside : (item : Option MenuItem) (t : State) → IsStill t → IsBeside d s (choose d item t)
  choose_beside None t i = still-beside t i
  choose_beside (Some item) t i = command-beside (command_number item.command) (close_menu t) i

  at_beside : (o : OpenMenu) (place : Option ℕ) (t : State) → IsStill t → IsBeside d s (choose_at d o place t)
  at_beside o None t i = still-beside t i
  at_beside o (Some place) t i = choose_beside (slice_get (open_items d o) place) t i

  pub menu_key-beside : (o : OpenMenu) (k : Key) (t : State) → IsStill t → IsBeside d s (menu_key d o k t)
  menu_key-beside o keys.Left t i = still-beside _ i
  menu_key-beside o keys.Right t i = still-beside _ i
  menu_key-beside o keys.Up t i = still-beside _ i
  menu_key-beside o keys.Down t i = still-beside _ i
  menu_key-beside o keys.Enter t i = at_beside o (Some o.item) t i
  menu_key-beside o keys.Esc t i = still-beside _ i
  menu_key-beside o (keys.Char ch) t i = at_beside o (item_of_letter (open_items d o) (upper ch)) t i
  menu_key-beside o (keys.Alt letter) t i = at_beside o (item_of_letter (open_items d o) letter) t i
  menu_key-beside o _ t i = still-beside t i

  on_item_beside : (o : OpenMenu) (item : Option ℕ) (t : State) → IsStill t → IsBeside d s (down_on_item d o item t)
  on_item_beside o None t i = still-beside _ i
  on_item_beside o (Some item) t i = at_beside o (Some item) t i

  on_title_beside : (o : OpenMenu) (p : Point) (title : Option ℕ) (t : State) → IsStill t → IsBeside d s (down_on_title d o p title t)
  on_title_beside o p None t i = on_item_beside o (item_under d o.menu p) t i
  on_title_beside o p (Some menu) t i = still-beside _ i

  pub menu_down-beside : (o : OpenMenu) (p : Point) (t : State) → IsStill t → IsBeside d s (menu_down d o p t)
  menu_down-beside o p t i = on_title_beside o p (title_at d p) t i

  -- ---- the desktop

  raise_beside : (w : Option OpenWindow) (t : State) → IsStill t → IsBeside d s (raise_found w t)
  raise_beside None t i = still-beside t i
  raise_beside (Some w) t i = still-beside _ i

  alt_beside : (ch : ℕ) (title : Option ℕ) (t : State) → IsStill t → IsBeside d s (alt_pressed d ch title t)
  alt_beside ch None t i = raise_beside (window_of_digit d t ch) t i
  alt_beside ch (Some menu) t i = still-beside _ i

  pub desktop_key-beside : (k : Key) (t : State) → IsStill t → IsBeside d s (desktop_key d k t)
  desktop_key-beside (keys.Alt ch) t i = alt_beside ch (title_of_letter d ch) t i
  desktop_key-beside _ t i = still-beside t i

  grab_beside : (window : Option Window) (w : OpenWindow) (p : Point) (t : State) → IsStill t → IsBeside d s (grab_window window w p t)
  grab_beside None w p t i = still-beside t i
  grab_beside (Some window) w p t i =
      bool_cases (is_grip window.node.w (seen_from w.origin p)) (λ b. IsBeside d s (if b then grabbed w.origin p t else t))
      (λ grip. still-beside (grabbed w.origin p t) i) (λ beside. still-beside t i)

  in_front_beside : (w : OpenWindow) (p : Point) (t : State) → IsStill t → IsBeside d s (down_in_front d w p t)
  in_front_beside w p t i =
      bool_cases (is_close_mark (seen_from w.origin p)) (λ b. IsBeside d s (if b then do_command d 4 t else grab_window (window_of d w.id) w p t))
      (λ mark. command-beside 4 t i) (λ off. grab_beside (window_of d w.id) w p t i)

  on_window_beside : (windows : List OpenWindow) (w : OpenWindow) (p : Point) (t : State) → IsStill t
      → IsBeside d s (down_on_window d windows w p t)
  on_window_beside [] w p t i = still-beside t i
  on_window_beside (front ∷ behind) w p t i =
      bool_cases (front.id.0 == w.id.0) (λ b. IsBeside d s (if b then down_in_front d w p t else raise w.id t)) (λ is. in_front_beside w p t i)
      (λ other. still-beside (raise w.id t) i)

  on_desktop_beside : (w : Option OpenWindow) (p : Point) (t : State) → IsStill t → IsBeside d s (down_on_desktop d w p t)
  on_desktop_beside None p t i = still-beside t i
  on_desktop_beside (Some w) p t i = on_window_beside t.windows w p t i

  title_beside : (title : Option ℕ) (p : Point) (t : State) → IsStill t → IsBeside d s (down_beside_title d title p t)
  title_beside None p t i =
      bool_cases (is_in (desktop d) p.x p.y) (λ b. IsBeside d s (if b then down_on_desktop d (window_under d t p) p t else t))
      (λ inside. on_desktop_beside (window_under d t p) p t i) (λ outside. still-beside t i)
  title_beside (Some place) p t i = still-beside (open_menu place t) i

  pub desktop_down-beside : (p : Point) (t : State) → IsStill t → IsBeside d s (desktop_down d p t)
  desktop_down-beside p t i = title_beside (title_at d p) p t i
