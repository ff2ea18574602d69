-- A run has no sheets but those that its program lays, and stays fit where one is laid.
use Rattle.std.proofs.Common.{◌≡◌, Bool, true, false, not, ◌==◌, ℕ, if◌then◌else◌, List, [], ◌∷◌, ◌++◌, map, filter, position, reverse, Option, Some, None, is_some, option_map, refl, sym, ap, subst, ◌∙◌}
use Rattle.std.specs.Prelude.{pos, slice_get}
use Rattle.std.proofs.lemmas.List.Elements.{All-append, All-cons, All-filter, All-head, All-nil, All-tail}
use Rattle.std.proofs.lemmas.List.Sorted.{All-permutation, IsPermutation-reverse}
use Rattle.tv_cells.specs.Layers.{is_in}
use Rattle.tv_cells.specs.Picture.{Picture}
use Rattle.tv_cells.specs.declared.rect.Point.{Point}
use Rattle.tv_event.specs.Commands.{is_own_command}
use Rattle.tv_event.specs.declared.event.Event.{Event}
use Rattle.tv_event.specs.declared.event.Event.TheVariants as events
use Rattle.tv_event.specs.declared.event.Key.{Key}
use Rattle.tv_event.specs.declared.event.Key.TheVariants as keys
use Rattle.tv_model.specs.declared.desc.Desc.{Desc}
use Rattle.tv_model.specs.declared.desc.Dialog.{Dialog}
use Rattle.tv_model.specs.declared.desc.Menu.{Menu}
use Rattle.tv_model.specs.declared.desc.MenuItem.{MenuItem}
use Rattle.tv_model.specs.declared.desc.StatusItem.{StatusItem}
use Rattle.tv_model.specs.declared.desc.Window.{Window}
use Rattle.tv_model.specs.declared.log.LogLine.TheVariants as lines
use Rattle.tv_model.specs.declared.node.Id.{Id}
use Rattle.tv_model.specs.Description.Commands.{command_number}
use Rattle.tv_model.specs.Description.Heads.{is_named}
use Rattle.tv_model.specs.Description.Rectangles.{desktop, rect}
use Rattle.tv_machine.specs.State.{HeldFrame, OpenDialog, OpenMenu, OpenWindow, State}
use Rattle.tv_machine.specs.Dialog.Ending.{command}
use Rattle.tv_machine.specs.Dialog.Modal.{Modal}
use Rattle.tv_machine.specs.Dialog.Mouse.{is_close_mark}
use Rattle.tv_machine.specs.Dialog.Step.{dialog_step}
use Rattle.tv_machine.specs.Safe.{dragged_width, front_width}
use Rattle.tv_machine.specs.Screen.Bars.{item_under, status_under}
use Rattle.tv_machine.specs.Screen.Bodies.{window_of}
use Rattle.tv_machine.specs.Session.Commands.{after_work, close_front, command_by_dialog, do_command, idle_command, in_dialog, last_first, modal_of, open_dialog, open_first, open_found, opener_of, own_command, raised, with_line_logged, works}
use Rattle.tv_machine.specs.Session.Desktop.{alt_pressed, desktop_down, desktop_key, down_beside_title, down_in_front, down_on_desktop, down_on_window, grab_window, raise, raise_found, seen_from, window_of_digit, window_under}
use Rattle.tv_machine.specs.Session.Dragging.{corner_at, dropped, front_at, grabbed, is_grip, is_grip_of, is_same_point, let_go, moved_dialog, moved_frame, moved_front, placed, step_dragged}
use Rattle.tv_machine.specs.Session.Laid.{is_open_dialog, laid_by_dialog, laid_in_dialog, laid_in_window, laid_in_windows}
use Rattle.tv_machine.specs.Session.Menu.{choose, choose_at, close_menu, down_on_item, down_on_title, item_of_letter, menu_down, menu_key, open_items, open_menu, title_at, title_of_letter}
use Rattle.tv_machine.specs.Session.Start.{closed, open_window, start, started_at, started_by}
use Rattle.tv_machine.specs.Session.Step.{after_event, dialog_with_hold, down_on_dialog, event_from, give_command, is_item_enabled, is_status_row, status_command, status_item_of, step, step_held, takes_command, to_dialog, with_empty_log}
use Rattle.tv_machine.proofs.ListLemmas.{bool_cases, option_cases}
use Rattle.tv_machine.proofs.StepLemmas.{down_by_dialog, down_by_menu, down_by_row, key_by_dialog, key_by_item, key_by_menu, step_by_frame, step_by_hold}
use Rattle.tv_laws.specs.Runs.{IsFitOpen, IsFitState}
use Rattle.tv_laws.specs.Runs.IsNext.{by_command, by_event}
use Rattle.tv_laws.specs.Sheets.{AreBare, HasNoSheets, IsBare, RunsBare, SheetsFit, StartsBare}

-- ---- lists of windows

abbrev IsWindowBare : OpenWindow → Type 0
IsWindowBare window = window.sheet ≡ None

reversed : (windows : List OpenWindow) → AreBare windows → AreBare (reverse windows)
reversed windows bare = All-permutation IsWindowBare windows (reverse windows) (IsPermutation-reverse windows) bare

rotated : (windows : List OpenWindow) → AreBare windows → AreBare (last_first windows)
rotated [] bare = bare
rotated (w ∷ behind) bare =
    All-cons IsWindowBare w (reverse behind) (All-head IsWindowBare w behind bare) (reversed behind (All-tail IsWindowBare w behind bare))

in_front : (i : Id) (windows : List OpenWindow) → AreBare windows → AreBare (raised i windows)
in_front i windows bare =
    All-append IsWindowBare (filter (λ w. w.id.0 == i.0) windows) (filter (λ w. not (w.id.0 == i.0)) windows)
    (All-filter (λ w. w.id.0 == i.0) IsWindowBare windows bare) (All-filter (λ w. not (w.id.0 == i.0)) IsWindowBare windows bare)

moved : (corner : Point) (windows : List OpenWindow) → AreBare windows → AreBare (front_at corner windows)
moved corner [] bare = bare
moved corner (front ∷ behind) bare =
    All-cons IsWindowBare (record front { origin = corner }) behind (All-head IsWindowBare front behind bare) (All-tail IsWindowBare front behind bare)

-- ---- a run without sheets

either : (b : Bool) (x y : State) → HasNoSheets x → HasNoSheets y → HasNoSheets (if b then x else y)
either true x y p q = p
either false x y p q = q

module _ (d : Desc) where
  -- the open dialog keeps its sheet while it works
  works-bare : (s : State) (o : OpenDialog) (work : Dialog → Modal → Modal) → s.dialog ≡ Some o → HasNoSheets s → HasNoSheets (in_dialog d s o work)
  works-bare s o work is bare =
      option_cases (slice_get d.dialogs o.place) (λ found. HasNoSheets (works s o work found)) (λ none. bare)
      (λ dialog there.
      let m : Modal = work dialog (modal_of s o) in
      option_cases m.ended (λ over. HasNoSheets (after_work s o m over)) (λ none. (bare.0, subst IsBare is bare.1)) (λ number ended. (bare.0, tt)))

  opens-bare : (place : ℕ) (s : State) → HasNoSheets s → HasNoSheets (open_dialog d place s)
  opens-bare place s bare =
      option_cases (slice_get d.dialogs place) (λ found. HasNoSheets (open_found s place found)) (λ none. bare) (λ dialog there. (bare.0, refl))

  -- ---- commands

  own-bare : (number : ℕ) (opener : Option ℕ) (s : State) → HasNoSheets s → HasNoSheets (own_command d number opener s)
  own-bare number None s bare = either (is_own_command number) (with_line_logged (lines.Command number) s) s bare bare
  own-bare number (Some place) s bare = opens-bare place s bare

  first-bare : (menus : List Menu) (s : State) → HasNoSheets s → HasNoSheets (open_first menus s)
  first-bare [] s bare = bare
  first-bare (menu ∷ menus) s bare = bare

  close-bare : (windows : List OpenWindow) (s : State) → AreBare windows → HasNoSheets s → HasNoSheets (close_front windows s)
  close-bare [] s are bare = bare
  close-bare (w ∷ behind) s are bare = (All-tail IsWindowBare w behind are, bare.1)

  idle-bare : (number : ℕ) (s : State) → HasNoSheets s → HasNoSheets (idle_command d number s)
  idle-bare number s bare =
      let next : State = record s { windows = last_first (reverse s.windows) } in
      let last : State = own_command d number (opener_of d number) s in
      let after : State = if number == 7 then next else last in
      let closed : State = if number == 4 then close_front s.windows s else after in
      let menu : State = if number == 3 then open_first d.menus s else closed in
      either (number == 1) (with_line_logged lines.Quit (record s { is_over = true })) menu bare
      (either (number == 3) (open_first d.menus s) closed (first-bare d.menus s bare)
      (either (number == 4) (close_front s.windows s) after (close-bare s.windows s bare.0 bare)
      (either (number == 7) next last (rotated (reverse s.windows) (reversed s.windows bare.0), bare.1) (own-bare number (opener_of d number) s bare))))

  command-bare : (number : ℕ) (s : State) → HasNoSheets s → HasNoSheets (do_command d number s)
  command-bare number s bare =
      option_cases s.dialog (λ o. HasNoSheets (command_by_dialog d number o s)) (λ none. idle-bare number s bare) (λ o some. works-bare s o (λ dialog m. command dialog number m) some bare)

  to-dialog-bare : (o : OpenDialog) (e : Event) (s : State) → s.dialog ≡ Some o → HasNoSheets s → HasNoSheets (to_dialog d o e s)
  to-dialog-bare o e s some bare = works-bare s o (λ dialog m. dialog_step dialog (event_from o.origin e) m) some bare

  -- ---- menus

  choose-bare : (item : Option MenuItem) (s : State) → HasNoSheets s → HasNoSheets (choose d item s)
  choose-bare None s bare = bare
  choose-bare (Some item) s bare = command-bare (command_number item.command) (close_menu s) bare

  choose-at-bare : (o : OpenMenu) (place : Option ℕ) (s : State) → HasNoSheets s → HasNoSheets (choose_at d o place s)
  choose-at-bare o None s bare = bare
  choose-at-bare o (Some place) s bare = choose-bare (slice_get (open_items d o) place) s bare

  menu-key-bare : (o : OpenMenu) (k : Key) (s : State) → HasNoSheets s → HasNoSheets (menu_key d o k s)
  menu-key-bare o keys.Left s bare = bare
  menu-key-bare o keys.Right s bare = bare
  menu-key-bare o keys.Up s bare = bare
  menu-key-bare o keys.Down s bare = bare
  menu-key-bare o keys.Enter s bare = choose-at-bare o (Some o.item) s bare
  menu-key-bare o keys.Esc s bare = bare
  menu-key-bare o (keys.Char ch) s bare = choose-at-bare o _ s bare
  menu-key-bare o (keys.Alt letter) s bare = choose-at-bare o _ s bare
  menu-key-bare o _ s bare = bare

  item-bare : (o : OpenMenu) (item : Option ℕ) (s : State) → HasNoSheets s → HasNoSheets (down_on_item d o item s)
  item-bare o None s bare = bare
  item-bare o (Some item) s bare = choose-at-bare o (Some item) s bare

  title-bare : (o : OpenMenu) (p : Point) (title : Option ℕ) (s : State) → HasNoSheets s → HasNoSheets (down_on_title d o p title s)
  title-bare o p None s bare = item-bare o (item_under d o.menu p) s bare
  title-bare o p (Some menu) s bare = bare

  -- ---- the desktop

  raise-bare : (w : Option OpenWindow) (s : State) → HasNoSheets s → HasNoSheets (raise_found w s)
  raise-bare None s bare = bare
  raise-bare (Some w) s bare = (in_front w.id s.windows bare.0, bare.1)

  alt-bare : (ch : ℕ) (title : Option ℕ) (s : State) → HasNoSheets s → HasNoSheets (alt_pressed d ch title s)
  alt-bare ch None s bare = raise-bare (window_of_digit d s ch) s bare
  alt-bare ch (Some menu) s bare = bare

  desktop-key-bare : (k : Key) (s : State) → HasNoSheets s → HasNoSheets (desktop_key d k s)
  desktop-key-bare (keys.Alt ch) s bare = alt-bare ch (title_of_letter d ch) s bare
  desktop-key-bare _ s bare = bare

  grab-bare : (window : Option Window) (w : OpenWindow) (p : Point) (s : State) → HasNoSheets s → HasNoSheets (grab_window window w p s)
  grab-bare None w p s bare = bare
  grab-bare (Some window) w p s bare = either (is_grip window.node.w (seen_from w.origin p)) (grabbed w.origin p s) s bare bare

  on-window-bare : (windows : List OpenWindow) (w : OpenWindow) (p : Point) (s : State) → HasNoSheets s → HasNoSheets (down_on_window d windows w p s)
  on-window-bare [] w p s bare = bare
  on-window-bare (front ∷ behind) w p s bare =
      either (front.id.0 == w.id.0) (down_in_front d w p s) (raise w.id s)
      (either (is_close_mark (seen_from w.origin p)) (do_command d 4 s) (grab_window (window_of d w.id) w p s) (command-bare 4 s bare) (grab-bare (window_of d w.id) w p s bare))
      (in_front w.id s.windows bare.0, bare.1)

  on-desktop-bare : (w : Option OpenWindow) (p : Point) (s : State) → HasNoSheets s → HasNoSheets (down_on_desktop d w p s)
  on-desktop-bare None p s bare = bare
  on-desktop-bare (Some w) p s bare = on-window-bare s.windows w p s bare

  beside-bare : (title : Option ℕ) (p : Point) (s : State) → HasNoSheets s → HasNoSheets (down_beside_title d title p s)
  beside-bare None p s bare =
      either (is_in (desktop d) p.x p.y) (down_on_desktop d (window_under d s p) p s) s (on-desktop-bare (window_under d s p) p s bare) bare
  beside-bare (Some menu) p s bare = bare

  -- ---- events

  key-below-bare : (k : Key) (s : State) → HasNoSheets s → HasNoSheets (key_by_dialog d s.dialog k s)
  key-below-bare k s bare =
      option_cases s.dialog (λ o. HasNoSheets (key_by_dialog d o k s)) (λ none. desktop-key-bare k s bare) (λ o some. to-dialog-bare o (events.Key k) s some bare)

  key-item-bare : (item : Option StatusItem) (k : Key) (s : State) → HasNoSheets s → HasNoSheets (key_by_item d item k s)
  key-item-bare None k s bare = key-below-bare k s bare
  key-item-bare (Some item) k s bare = command-bare (command_number item.command) s bare

  key-bare : (o : Option OpenMenu) (k : Key) (s : State) → HasNoSheets s → HasNoSheets (key_by_menu d o k s)
  key-bare None k s bare = key-item-bare (status_item_of d s k) k s bare
  key-bare (Some o) k s bare = menu-key-bare o k s bare

  status-bare : (item : Option StatusItem) (s : State) → HasNoSheets s → HasNoSheets (status_command d item s)
  status-bare None s bare = bare
  status-bare (Some item) s bare =
      either (is_item_enabled d s item) (do_command d (command_number item.command) s) s (command-bare (command_number item.command) s bare) bare

  on-dialog-bare : (o : OpenDialog) (p : Point) (s : State) → s.dialog ≡ Some o → HasNoSheets s → HasNoSheets (down_on_dialog d o p s)
  on-dialog-bare o p s some bare =
      either (is_grip_of (slice_get d.dialogs o.place) (seen_from o.origin p)) (grabbed o.origin p s) (to_dialog d o (events.Down p) s) bare
      (to-dialog-bare o (events.Down p) s some bare)

  down-below-bare : (p : Point) (s : State) → HasNoSheets s → HasNoSheets (down_by_dialog d s.dialog p s)
  down-below-bare p s bare =
      option_cases s.dialog (λ o. HasNoSheets (down_by_dialog d o p s)) (λ none. beside-bare (title_at d p) p s bare)
      (λ o some. either (is_in (desktop d) p.x p.y) (down_on_dialog d o p s) s (on-dialog-bare o p s some bare) bare)

  down-row-bare : (p : Point) (s : State) → HasNoSheets s → HasNoSheets (down_by_row d p s)
  down-row-bare p s bare =
      let below : State = down_by_dialog d s.dialog p s in
      let inside : State = if is_status_row d p then status_command d (status_under d p.x) s else below in
      either (not (is_in (rect (pos 0) (pos 0) d.width d.height) p.x p.y)) s inside bare
      (either (is_status_row d p) (status_command d (status_under d p.x) s) below (status-bare (status_under d p.x) s bare) (down-below-bare p s bare))

  down-bare : (o : Option OpenMenu) (p : Point) (s : State) → HasNoSheets s → HasNoSheets (down_by_menu d o p s)
  down-bare None p s bare = down-row-bare p s bare
  down-bare (Some o) p s bare = title-bare o p (title_at d p) s bare

  event-bare : (e : Event) (s : State) → HasNoSheets s → HasNoSheets (after_event d e s)
  event-bare (events.Key k) s bare = key-bare s.menu k s bare
  event-bare (events.Down p) s bare = down-bare s.menu p s bare
  event-bare (events.Move p) s bare = bare
  event-bare (events.Up p) s bare = bare
  event-bare (events.Command c) s bare = bare
  event-bare (events.Broadcast c) s bare = bare

  held-bare : (o : OpenDialog) (e : Event) (s : State) → s.dialog ≡ Some o → HasNoSheets s → HasNoSheets (step_held d o e s)
  held-bare o (events.Move p) s some bare = to-dialog-bare o (events.Move p) s some bare
  held-bare o (events.Up p) s some bare = to-dialog-bare o (events.Up p) s some bare
  held-bare o (events.Key k) s some bare = bare
  held-bare o (events.Down p) s some bare = bare
  held-bare o (events.Command c) s some bare = bare
  held-bare o (events.Broadcast c) s some bare = bare

  placed-bare : (o : Option OpenDialog) (corner : Point) (s : State) → IsBare o → HasNoSheets s → HasNoSheets (placed o corner s)
  placed-bare None corner s own bare = (moved corner s.windows bare.0, bare.1)
  placed-bare (Some o) corner s own bare = (bare.0, own)

  logged-bare : (o : Option OpenDialog) (corner : Point) (s : State) → HasNoSheets s → HasNoSheets (moved_frame d o corner s)
  logged-bare None corner s bare = by_windows s.windows
    where
      by_windows : (windows : List OpenWindow) → HasNoSheets (moved_front windows corner s)
      by_windows [] = bare
      by_windows (front ∷ behind) = bare
  logged-bare (Some o) corner s bare =
      option_cases (slice_get d.dialogs o.place) (λ found. HasNoSheets (moved_dialog found corner s)) (λ none. bare) (λ dialog there. bare)

  dragged-bare : (f : HeldFrame) (e : Event) (s : State) → HasNoSheets s → HasNoSheets (step_dragged d f e s)
  dragged-bare f (events.Move p) s bare = placed-bare s.dialog (corner_at d f p) s bare.1 bare
  dragged-bare f (events.Up p) s bare =
      let corner = corner_at d f p in
      let there : State = placed s.dialog corner (let_go s) in
      let stands = placed-bare s.dialog corner (let_go s) bare.1 bare in
      either (is_same_point f.from corner) there (moved_frame d there.dialog corner there) stands (logged-bare there.dialog corner there stands)
  dragged-bare f (events.Key k) s bare = bare
  dragged-bare f (events.Down p) s bare = bare
  dragged-bare f (events.Command c) s bare = bare
  dragged-bare f (events.Broadcast c) s bare = bare

  hold-bare : (e : Event) (s : State) → HasNoSheets s → HasNoSheets (step_by_hold d (dialog_with_hold s.dialog) e s)
  hold-bare e s bare =
      option_cases s.dialog (λ o. HasNoSheets (step_by_hold d (dialog_with_hold o) e s)) (λ none. event-bare e s bare)
      (λ o some. bool_cases (is_some o.held) (λ b. HasNoSheets (step_by_hold d (if b then Some o else None) e s)) (λ holds. held-bare o e s some bare) (λ loose. event-bare e s bare))

  step-bare : (s : State) (e : Event) → HasNoSheets s → HasNoSheets (step d s e)
  step-bare s e bare =
      bool_cases s.is_over (λ b. HasNoSheets (if b then with_empty_log s else step_by_frame d s.frame e (with_empty_log s))) (λ over. bare)
      (λ goes. option_cases s.frame (λ frame. HasNoSheets (step_by_frame d frame e (with_empty_log s))) (λ free. hold-bare e (with_empty_log s) bare) (λ frame held. dragged-bare frame e (with_empty_log s) bare))

  give-bare : (s : State) (number : ℕ) → HasNoSheets s → HasNoSheets (give_command d s number)
  give-bare s number bare =
      either (takes_command d s number) (do_command d number (close_menu (with_empty_log s))) (with_empty_log s) (command-bare number (close_menu (with_empty_log s)) bare) bare

  pub runs-bare : RunsBare d
  runs-bare s after bare (by_event e is) = subst HasNoSheets (sym is) (step-bare s e bare)
  runs-bare s after bare (by_command number is) = subst HasNoSheets (sym is) (give-bare s number bare)

  -- ---- the start

  declared-bare : (windows : List Window) → AreBare (map open_window windows)
  declared-bare [] = All-nil IsWindowBare
  declared-bare (w ∷ windows) = All-cons IsWindowBare (open_window w) (map open_window windows) refl (declared-bare windows)

  closed-bare : HasNoSheets (closed d)
  closed-bare = (reversed (map open_window d.windows) (declared-bare d.windows), tt)

  at-bare : (place : Option ℕ) → HasNoSheets (started_at d place)
  at-bare None = closed-bare
  at-bare (Some place) = opens-bare place (closed d) closed-bare

  by-bare : (name : Option (List ℕ)) → HasNoSheets (started_by d name)
  by-bare None = closed-bare
  by-bare (Some name) = at-bare (position (is_named name) d.dialogs)

  pub starts-bare : StartsBare d
  starts-bare = by-bare d.start

  -- ---- a sheet is laid

  laid-front : (i : Id) (sheet : Option Picture) (windows : List OpenWindow) → front_width d (map (laid_in_window i sheet) windows) ≡ front_width d windows
  laid-front i sheet [] = refl
  laid-front i sheet (w ∷ behind) =
      bool_cases (w.id.0 == i.0) (λ b. option_map (λ (window : Window). window.node.w) (window_of d (if b then record w { sheet = sheet } else w).id) ≡ option_map (λ window. window.node.w) (window_of d w.id))
      (λ is. refl) (λ other. refl)

  laid-width : (i : Id) (sheet : Option Picture) (o : Option OpenDialog) (windows : List OpenWindow) → dragged_width d o (map (laid_in_window i sheet) windows) ≡ dragged_width d o windows
  laid-width i sheet None windows = laid-front i sheet windows
  laid-width i sheet (Some o) windows = refl

  windows-fit : (i : Id) (sheet : Option Picture) (s : State) → IsFitState d s → IsFitState d (laid_in_windows i sheet s)
  windows-fit i sheet s fit = record {
    kept = record { saved = fit.kept.saved; records = fit.kept.records; places = fit.kept.places; ordered = fit.kept.ordered; ends = fit.kept.ends };
    «open» = λ o e. let x = fit.«open» o e in record { dialog = x.dialog; there = x.there; fit = x.fit; menu = x.menu; over = x.over; top = x.top };
    frame = λ held e.
        let x = fit.frame held e in
        record { width = x.width; there = laid-width i sheet s.dialog s.windows ∙ x.there; column = x.column; leaf = x.leaf; menu = x.menu; over = x.over };
  }

  loose-still : (o : OpenDialog) (sheet : Option Picture) → dialog_with_hold (Some o) ≡ None → dialog_with_hold (Some (record o { sheet = sheet })) ≡ None
  loose-still o sheet =
      bool_cases (is_some o.held) (λ b. (if b then Some o else None) ≡ None → (if b then Some (record o { sheet = sheet }) else None) ≡ None) (λ holds e. absurd cc) (λ free e. refl)

  dialog-fit : (o : OpenDialog) (sheet : Option Picture) (s : State) → s.dialog ≡ Some o → IsFitState d s → IsFitState d (laid_in_dialog o sheet s)
  dialog-fit o sheet s some fit =
      let after : OpenDialog = record o { sheet = sheet } in
      let was = fit.«open» o some in
      record {
        kept = record { saved = fit.kept.saved; records = fit.kept.records; places = fit.kept.places; ordered = fit.kept.ordered; ends = fit.kept.ends };
        «open» = λ x e.
            let this : after ≡ x = cc in
            subst (IsFitOpen d (laid_in_dialog o sheet s)) this
            (record { dialog = was.dialog; there = was.there; fit = was.fit; menu = was.menu; over = was.over; top = was.top });
        frame = λ held e.
            let x = fit.frame held e in
            record {
              width = x.width;
              there = sym (ap (λ y. dragged_width d y s.windows) some) ∙ x.there;
              column = x.column;
              leaf = loose-still o sheet (sym (ap dialog_with_hold some) ∙ x.leaf);
              menu = x.menu;
              over = x.over;
            };
      }

  pub sheets-fit : SheetsFit d
  sheets-fit s i sheet fit =
      option_cases s.dialog (λ o. IsFitState d (laid_by_dialog d i sheet o s)) (λ none. windows-fit i sheet s fit)
      (λ o some. bool_cases (is_open_dialog d i o) (λ b. IsFitState d (if b then laid_in_dialog o sheet s else laid_in_windows i sheet s))
      (λ here. dialog-fit o sheet s some fit) (λ other. windows-fit i sheet s fit))
