-- A dialog that no start, no status item and no menu item opens is never open.
use Rattle.std.proofs.Common.{◌≡◌, ◌⊎◌, inl, inr, Bool, true, false, not, ◌&&◌, ◌==◌, ℕ, if◌then◌else◌, List, [], ◌∷◌, position, reverse, Option, Some, None, option_map, refl, sym, ap, subst, ◌∙◌, All}
use Rattle.std.specs.Prelude.{nat_le, pos, slice_get}
use Rattle.std.proofs.lemmas.Bool.{false≢true}
use Rattle.std.proofs.lemmas.List.Elements.{All-nil}
use Rattle.std.proofs.lemmas.List.Quantifiers.{position-Some}
use Rattle.std.proofs.lemmas.Option.{get_or_from_slice_get}
use Rattle.tv_cells.specs.Layers.{is_in}
use Rattle.tv_cells.specs.declared.rect.Point.{Point}
use Rattle.tv_event.specs.declared.event.Event.{Event}
use Rattle.tv_event.specs.declared.event.Event.TheVariants as events
use Rattle.tv_event.specs.declared.event.Key.{Key}
use Rattle.tv_event.specs.declared.event.Key.TheVariants as keys
use Rattle.tv_model.specs.declared.desc.Desc.{Desc}
use Rattle.tv_model.specs.declared.desc.Dialog.{Dialog}
use Rattle.tv_model.specs.declared.desc.Menu.{Menu}
use Rattle.tv_model.specs.declared.desc.StatusItem.{StatusItem}
use Rattle.tv_model.specs.declared.desc.Window.{Window}
use Rattle.tv_model.specs.declared.log.LogLine.TheVariants as lines
use Rattle.tv_model.specs.Description.Commands.{command_number}
use Rattle.tv_model.specs.Description.Heads.{dialog_head, is_named}
use Rattle.tv_model.specs.Description.Marks.{upper}
use Rattle.tv_model.specs.Description.Rectangles.{desktop, rect}
use Rattle.tv_model.specs.Faults.Letters.{is_same_key}
use Rattle.tv_model.specs.Faults.Starts.{is_option_number}
use Rattle.tv_machine.specs.State.{HeldFrame, OpenDialog, OpenMenu, OpenWindow, State}
use Rattle.tv_machine.specs.Dialog.Mouse.{is_close_mark}
use Rattle.tv_machine.specs.Output.{states}
use Rattle.tv_machine.specs.Screen.Bars.{item_under, status_under}
use Rattle.tv_machine.specs.Screen.Bodies.{window_of}
use Rattle.tv_machine.specs.Session.Commands.{close_front, command_by_dialog, do_command, idle_command, last_first, open_dialog, open_first, open_found, opener_of, own_command, with_line_logged}
use Rattle.tv_machine.specs.Session.Desktop.{alt_pressed, desktop_key, down_beside_title, down_in_front, down_on_desktop, down_on_window, grab_window, raise, raise_found, seen_from, window_of_digit, window_under}
use Rattle.tv_machine.specs.Session.Dragging.{corner_at, grabbed, is_grip, let_go, placed, step_dragged}
use Rattle.tv_machine.specs.Session.Menu.{choose, choose_at, close_menu, down_on_item, down_on_title, item_of_letter, items_of_menu, menu_key, open_items, title_at, title_of_letter}
use Rattle.tv_machine.specs.Session.Start.{closed, start, started_at, started_by}
use Rattle.tv_machine.specs.Session.Step.{after_event, dialog_with_hold, is_item_enabled, is_status_row, status_command, status_item_of, step, with_empty_log}
use Rattle.tv_machine.proofs.ListLemmas.{bool_cases, option_cases}
use Rattle.tv_machine.proofs.StepLemmas.{down_by_dialog, down_by_menu, down_by_row, key_by_dialog, key_by_item, key_by_menu, step_by_frame, step_by_hold}
use Rattle.tv_laws.specs.Records.{IsEnd, IsEndless}
use Rattle.tv_laws.specs.Runs.{HasSoundDialogs, IsFitState, state_after}
use Rattle.tv_laws.specs.Runs.IsNext.{by_event}
use Rattle.tv_laws.proofs.DragLemmas.{dropped-cases}
use Rattle.tv_laws.proofs.RecordLaws.SavedLemmas.{saves-what-it-logs}
use Rattle.tv_laws.proofs.RunLemmas.{start-fit, steps-fit}
use Rattle.tv_laws.proofs.WorkLemmas.{get_all, nothing}
use Rattle.tv_reach.specs.Never.{IsNeverOpened, opens_by, starts_with}
use Rattle.tv_reach.proofs.MaskLemmas.{at-any}
use Rattle.tv_reach.proofs.OpenStepLemmas.{IsStatus, found-any, under_any}

-- an element at a place passes what the place was found by
position_passes : {A : Type 0} (p : A → Bool) (xs : List A) (k : ℕ) (x : A) → position p xs ≡ Some k → slice_get xs k ≡ Some x → p x ≡ true
position_passes p xs k x at there = ap p (sym (get_or_from_slice_get xs k x x there)) ∙ (position-Some p xs k x at).1

module _ (d : Desc) (place : ℕ) (dialog : Dialog) (there : slice_get d.dialogs place ≡ Some dialog) (never : IsNeverOpened d dialog) where
  -- the dialog isn't open
  abbrev pub IsElsewhere : State → Type 0
  IsElsewhere s = (o : OpenDialog) → s.dialog ≡ Some o → o.place ≡ place → ⊥

  -- where no dialog is open
  idle : {x : Option OpenDialog} → x ≡ None → (o : OpenDialog) → x ≡ Some o → o.place ≡ place → ⊥
  idle none o some at = nothing o (sym none ∙ some)

  abbrev place_of : OpenDialog → ℕ
  place_of o = o.place

  -- the command of this number doesn't open it
  abbrev Spares : ℕ → Type 0
  Spares number = is_option_number (pos number) (dialog_head dialog).opens ≡ false

  -- ---- commands

  open_elsewhere : (other : ℕ) (s : State) → (other ≡ place → ⊥) → s.dialog ≡ None → IsElsewhere (open_dialog d other s)
  open_elsewhere other s apart none =
      option_cases (slice_get d.dialogs other) (λ x. IsElsewhere (open_found s other x)) (λ is. idle none)
      (λ x is o some at.
      let both : Some other ≡ Some o.place = ap (option_map place_of) some in
      let same : other ≡ o.place = cc in
      apart (same ∙ at))

  own_elsewhere : (number : ℕ) (opener : Option ℕ) (s : State) → (opener ≡ Some place → ⊥) → s.dialog ≡ None
      → IsElsewhere (own_command d number opener s)
  own_elsewhere number None s apart none =
      bool_cases (nat_le 100 number) (λ b. IsElsewhere (if b then with_line_logged (lines.Command number) s else s)) (λ own. idle none)
      (λ low. idle none)
  own_elsewhere number (Some other) s apart none = open_elsewhere other s (λ is. apart (ap (λ (n : ℕ). Some n) is)) none

  spared : (number : ℕ) → Spares number → opener_of d number ≡ Some place → ⊥
  spared number spares at =
      false≢true
      (sym spares ∙ position_passes (λ x. is_option_number (pos number) (dialog_head x).opens) d.dialogs place dialog at there)

  close_elsewhere : (windows : List OpenWindow) (s : State) → s.dialog ≡ None → IsElsewhere (close_front windows s)
  close_elsewhere [] s none = idle none
  close_elsewhere (w ∷ behind) s none = idle none

  first_elsewhere : (menus : List Menu) (s : State) → s.dialog ≡ None → IsElsewhere (open_first menus s)
  first_elsewhere [] s none = idle none
  first_elsewhere (menu ∷ menus) s none = idle none

  idle_elsewhere : (number : ℕ) (s : State) → Spares number → s.dialog ≡ None → IsElsewhere (idle_command d number s)
  idle_elsewhere number s spares none =
      let last : State = own_command d number (opener_of d number) s in
      let next : State = record s { windows = last_first (reverse s.windows) } in
      let quit : State = with_line_logged lines.Quit (record s { is_over = true }) in
      bool_cases (number == 1)
      (λ b. IsElsewhere (if b then quit else if number == 3 then open_first d.menus s else if number == 4 then close_front s.windows s else if number == 7 then next else last))
      (λ is. idle none)
      (λ no_quit. bool_cases (number == 3) (λ b. IsElsewhere (if b then open_first d.menus s else if number == 4 then close_front s.windows s else if number == 7 then next else last))
      (λ is. first_elsewhere d.menus s none)
      (λ no_menu. bool_cases (number == 4) (λ b. IsElsewhere (if b then close_front s.windows s else if number == 7 then next else last)) (λ is. close_elsewhere s.windows s none)
      (λ no_close. bool_cases (number == 7) (λ b. IsElsewhere (if b then next else last)) (λ is. idle none)
      (λ other. own_elsewhere number (opener_of d number) s (spared number spares) none))))

  command_elsewhere : (number : ℕ) (s : State) → Spares number → s.dialog ≡ None → IsElsewhere (do_command d number s)
  command_elsewhere number s spares none = subst (λ x. IsElsewhere (command_by_dialog d number x s)) (sym none) (idle_elsewhere number s spares none)

  -- ---- menus

  items_spare : (at : ℕ) → All (λ item. opens_by dialog item.command ≡ false) (items_of_menu (slice_get d.menus at))
  items_spare at =
      option_cases (slice_get d.menus at) (λ x. All (λ item. opens_by dialog item.command ≡ false) (items_of_menu x)) (λ none. All-nil (λ item. opens_by dialog item.command ≡ false))
      (λ menu is. get_all (λ x. All (λ item. opens_by dialog item.command ≡ false) x.items) d.menus at menu never.menus is)

  choose_elsewhere : (o : OpenMenu) (at : Option ℕ) (s : State) → s.dialog ≡ None → IsElsewhere (choose_at d o at s)
  choose_elsewhere o None s none = idle none
  choose_elsewhere o (Some at) s none =
      option_cases (slice_get (open_items d o) at) (λ x. IsElsewhere (choose d x s)) (λ is. idle none)
      (λ item is.
      command_elsewhere (command_number item.command) (close_menu s)
      (get_all (λ x. opens_by dialog x.command ≡ false) (open_items d o) at item (items_spare o.menu) is) none)

  menu_key_elsewhere : (o : OpenMenu) (k : Key) (s : State) → s.dialog ≡ None → IsElsewhere (menu_key d o k s)
  menu_key_elsewhere o keys.Left s none = idle none
  menu_key_elsewhere o keys.Right s none = idle none
  menu_key_elsewhere o keys.Up s none = idle none
  menu_key_elsewhere o keys.Down s none = idle none
  menu_key_elsewhere o keys.Enter s none = choose_elsewhere o (Some o.item) s none
  menu_key_elsewhere o keys.Esc s none = idle none
  menu_key_elsewhere o (keys.Char ch) s none = choose_elsewhere o (item_of_letter (open_items d o) (upper ch)) s none
  menu_key_elsewhere o (keys.Alt letter) s none = choose_elsewhere o (item_of_letter (open_items d o) letter) s none
  menu_key_elsewhere o _ s none = idle none

  on_item_elsewhere : (o : OpenMenu) (item : Option ℕ) (s : State) → s.dialog ≡ None → IsElsewhere (down_on_item d o item s)
  on_item_elsewhere o None s none = idle none
  on_item_elsewhere o (Some item) s none = choose_elsewhere o (Some item) s none

  on_title_elsewhere : (o : OpenMenu) (p : Point) (title : Option ℕ) (s : State) → s.dialog ≡ None → IsElsewhere (down_on_title d o p title s)
  on_title_elsewhere o p None s none = on_item_elsewhere o (item_under d o.menu p) s none
  on_title_elsewhere o p (Some menu) s none = idle none

  -- ---- the desktop

  raise_elsewhere : (w : Option OpenWindow) (s : State) → s.dialog ≡ None → IsElsewhere (raise_found w s)
  raise_elsewhere None s none = idle none
  raise_elsewhere (Some w) s none = idle none

  alt_elsewhere : (ch : ℕ) (title : Option ℕ) (s : State) → s.dialog ≡ None → IsElsewhere (alt_pressed d ch title s)
  alt_elsewhere ch None s none = raise_elsewhere (window_of_digit d s ch) s none
  alt_elsewhere ch (Some menu) s none = idle none

  desktop_key_elsewhere : (k : Key) (s : State) → s.dialog ≡ None → IsElsewhere (desktop_key d k s)
  desktop_key_elsewhere (keys.Alt ch) s none = alt_elsewhere ch (title_of_letter d ch) s none
  desktop_key_elsewhere _ s none = idle none

  grab_elsewhere : (window : Option Window) (w : OpenWindow) (p : Point) (s : State) → s.dialog ≡ None → IsElsewhere (grab_window window w p s)
  grab_elsewhere None w p s none = idle none
  grab_elsewhere (Some window) w p s none =
      bool_cases (is_grip window.node.w (seen_from w.origin p)) (λ b. IsElsewhere (if b then grabbed w.origin p s else s))
      (λ grip. idle none) (λ beside. idle none)

  in_front_elsewhere : (w : OpenWindow) (p : Point) (s : State) → s.dialog ≡ None → IsElsewhere (down_in_front d w p s)
  in_front_elsewhere w p s none =
      bool_cases (is_close_mark (seen_from w.origin p)) (λ b. IsElsewhere (if b then do_command d 4 s else grab_window (window_of d w.id) w p s))
      (λ mark. subst (λ x. IsElsewhere (command_by_dialog d 4 x s)) (sym none) (close_elsewhere s.windows s none))
      (λ off. grab_elsewhere (window_of d w.id) w p s none)

  on_window_elsewhere : (windows : List OpenWindow) (w : OpenWindow) (p : Point) (s : State) → s.dialog ≡ None
      → IsElsewhere (down_on_window d windows w p s)
  on_window_elsewhere [] w p s none = idle none
  on_window_elsewhere (front ∷ behind) w p s none =
      bool_cases (front.id.0 == w.id.0) (λ b. IsElsewhere (if b then down_in_front d w p s else raise w.id s)) (λ is. in_front_elsewhere w p s none)
      (λ other. idle none)

  on_desktop_elsewhere : (w : Option OpenWindow) (p : Point) (s : State) → s.dialog ≡ None → IsElsewhere (down_on_desktop d w p s)
  on_desktop_elsewhere None p s none = idle none
  on_desktop_elsewhere (Some w) p s none = on_window_elsewhere s.windows w p s none

  beside_elsewhere : (title : Option ℕ) (p : Point) (s : State) → s.dialog ≡ None → IsElsewhere (down_beside_title d title p s)
  beside_elsewhere None p s none =
      bool_cases (is_in (desktop d) p.x p.y) (λ b. IsElsewhere (if b then down_on_desktop d (window_under d s p) p s else s))
      (λ inside. on_desktop_elsewhere (window_under d s p) p s none) (λ outside. idle none)
  beside_elsewhere (Some menu) p s none = idle none

  -- ---- an event while no dialog is open

  module _ (s : State) (none : s.dialog ≡ None) where
    abbrev quiet : State
    quiet = with_empty_log s

    status_spares : (item : StatusItem) → IsStatus d item → Spares (command_number item.command)
    status_spares item is =
        at-any (λ x. opens_by dialog x.command ≡ false) (λ x. x ≡ item) d.status never.status is
        (λ x spares same. subst (λ y. opens_by dialog y.command ≡ false) same spares)

    item_elsewhere : (item : Option StatusItem) → ((x : StatusItem) → item ≡ Some x → IsStatus d x) → IsElsewhere (status_command d item quiet)
    item_elsewhere None is = idle none
    item_elsewhere (Some item) is =
        bool_cases (is_item_enabled d quiet item) (λ b. IsElsewhere (if b then do_command d (command_number item.command) quiet else quiet))
        (λ enabled. command_elsewhere (command_number item.command) quiet (status_spares item (is item refl)) none) (λ disabled. idle none)

    key_elsewhere : (k : Key) → IsElsewhere (key_by_menu d s.menu k quiet)
    key_elsewhere k =
        option_cases s.menu (λ x. IsElsewhere (key_by_menu d x k quiet))
        (λ shut. option_cases (status_item_of d quiet k) (λ x. IsElsewhere (key_by_item d x k quiet))
        (λ no_item. subst (λ x. IsElsewhere (key_by_dialog d x k quiet)) (sym none) (desktop_key_elsewhere k quiet none))
        (λ item found.
        command_elsewhere (command_number item.command) quiet
        (status_spares item
        (found-any (λ other. other ≡ item) (λ x. is_same_key x.key k && is_item_enabled d quiet x) d.status item found refl)) none))
        (λ o some. menu_key_elsewhere o k quiet none)

    row_elsewhere : (p : Point) → IsElsewhere (down_by_row d p quiet)
    row_elsewhere p =
        bool_cases (is_in (rect (pos 0) (pos 0) d.width d.height) p.x p.y)
        (λ b. IsElsewhere (if not b then quiet else if is_status_row d p then status_command d (status_under d p.x) quiet else down_by_dialog d s.dialog p quiet))
        (λ inside. bool_cases (is_status_row d p) (λ b. IsElsewhere (if b then status_command d (status_under d p.x) quiet else down_by_dialog d s.dialog p quiet))
        (λ row. item_elsewhere (status_under d p.x) (under_any d p.x))
        (λ above. subst (λ x. IsElsewhere (down_by_dialog d x p quiet)) (sym none) (beside_elsewhere (title_at d p) p quiet none)))
        (λ outside. idle none)

    down_elsewhere : (p : Point) → IsElsewhere (down_by_menu d s.menu p quiet)
    down_elsewhere p =
        option_cases s.menu (λ x. IsElsewhere (down_by_menu d x p quiet)) (λ shut. row_elsewhere p)
        (λ o some. on_title_elsewhere o p (title_at d p) quiet none)

    event_elsewhere : (e : Event) → IsElsewhere (after_event d e quiet)
    event_elsewhere (events.Key k) = key_elsewhere k
    event_elsewhere (events.Down p) = down_elsewhere p
    event_elsewhere (events.Move p) = idle none
    event_elsewhere (events.Up p) = idle none
    event_elsewhere (events.Command c) = idle none
    event_elsewhere (events.Broadcast c) = idle none

    placed_none : (x : Option OpenDialog) (corner : Point) (t : State) → s.dialog ≡ x → t.dialog ≡ s.dialog → (placed x corner t).dialog ≡ None
    placed_none None corner t is same = same ∙ none
    placed_none (Some o) corner t is same = absurd (nothing o (sym none ∙ is))

    dragged_elsewhere : (frame : HeldFrame) (e : Event) → IsElsewhere (step_dragged d frame e quiet)
    dragged_elsewhere frame (events.Move p) = idle (placed_none s.dialog (corner_at d frame p) quiet refl refl)
    dragged_elsewhere frame (events.Up p) =
        let corner = corner_at d frame p in
        let t = placed s.dialog corner (let_go quiet) in
        let still = placed_none s.dialog corner (let_go quiet) refl refl in
        dropped-cases d IsElsewhere frame corner t (idle still) (λ i. idle still)
    dragged_elsewhere frame (events.Key k) = idle none
    dragged_elsewhere frame (events.Down p) = idle none
    dragged_elsewhere frame (events.Command c) = idle none
    dragged_elsewhere frame (events.Broadcast c) = idle none

    idle_step : (e : Event) → IsElsewhere (step d s e)
    idle_step e =
        bool_cases s.is_over (λ b. IsElsewhere (if b then quiet else step_by_frame d s.frame e quiet)) (λ over. idle none)
        (λ goes. option_cases s.frame (λ x. IsElsewhere (step_by_frame d x e quiet))
        (λ free. subst (λ x. IsElsewhere (step_by_hold d (dialog_with_hold x) e quiet)) (sym none) (event_elsewhere e))
        (λ frame held. dragged_elsewhere frame e))

  -- ---- every run

  module _ (sound : HasSoundDialogs d) where
    -- another dialog that is open stays open, or none is
    other_stays : (s after : State) → IsElsewhere s → (o : OpenDialog) → s.dialog ≡ Some o → IsEndless s after ⊎ IsEnd d s after → IsElsewhere after
    other_stays s after elsewhere o some (inl calm) now is at =
        let both : Some now.place ≡ Some o.place = sym (ap (option_map place_of) is) ∙ calm.stays o some in
        let same : now.place ≡ o.place = cc in
        elsewhere o some (sym same ∙ at)
    other_stays s after elsewhere o some (inr x) now is at = nothing now (sym x.closed ∙ is)

    pub step_elsewhere : (s : State) (e : Event) → IsFitState d s → IsElsewhere s → IsElsewhere (step d s e)
    step_elsewhere s e f elsewhere =
        option_cases s.dialog (λ x. s.dialog ≡ x → IsElsewhere (step d s e)) (λ is none. idle_step s none e)
        (λ o is some. other_stays s (step d s e) elsewhere o some (saves-what-it-logs d sound s (step d s e) f (by_event e refl))) refl

    states_elsewhere : (events : List Event) (s : State) → IsFitState d s → IsElsewhere s → IsElsewhere (states (step d) s events)
    states_elsewhere [] s f elsewhere = elsewhere
    states_elsewhere (e ∷ events) s f elsewhere = states_elsewhere events (step d s e) (steps-fit d sound s e f) (step_elsewhere s e f elsewhere)

    by_elsewhere : (name : Option (List ℕ)) → starts_with name dialog ≡ false → IsElsewhere (started_by d name)
    by_elsewhere None apart = idle refl
    by_elsewhere (Some name) apart =
        option_cases (position (is_named name) d.dialogs)
        (λ x. position (is_named name) d.dialogs ≡ x → IsElsewhere (started_at d x)) (λ is none. idle refl)
        (λ other is found.
        open_elsewhere other (closed d)
        (λ same. false≢true
        (sym apart ∙ position_passes (is_named name) d.dialogs place dialog (found ∙ ap (λ (n : ℕ). Some n) same) there)) refl)
        refl

    pub start-elsewhere : IsElsewhere (start d)
    start-elsewhere = by_elsewhere d.start never.start

    pub never-open : (events : List Event) → IsElsewhere (state_after d events)
    never-open events = states_elsewhere events (start d) (start-fit d sound) start-elsewhere
