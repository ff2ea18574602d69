-- What an event comes to while a dialog is open: its work, a command of the status line, or nothing that changes it.
use Rattle.std.proofs.Common.{◌≡◌, ◌⊎◌, inl, inr, Bool, true, not, ◌&&◌, ℕ, suc, ◌<◌, if◌then◌else◌, List, [], ◌∷◌, find, length, Option, Some, None, is_some, option_map, refl, sym, ap, subst, ◌∙◌, All, arith}
use Rattle.std.specs.Prelude.{nat_lt, int_le, int_lt, pos, slice_get, ℤ, Any, ◌+◌, ◌-◌}
use Rattle.std.proofs.lemmas.Bool.{and_parts}
use Rattle.std.proofs.lemmas.List.Elements.{All-nil, All-push}
use Rattle.tv_cells.specs.Layers.{is_in}
use Rattle.tv_cells.specs.declared.rect.Point.{Point}
use Rattle.tv_event.specs.declared.event.Event.{Event}
use Rattle.tv_event.specs.declared.event.Event.TheVariants as events
use Rattle.tv_event.specs.declared.event.Key.{Key}
use Rattle.tv_model.specs.declared.node.Id.{Id}
use Rattle.tv_model.specs.declared.desc.Desc.{Desc}
use Rattle.tv_model.specs.declared.desc.StatusItem.{StatusItem}
use Rattle.tv_model.specs.declared.log.LogLine.TheVariants as lines
use Rattle.tv_model.specs.Description.Commands.{command_number}
use Rattle.tv_model.specs.Description.Numbers.{natural}
use Rattle.tv_model.specs.Description.Rectangles.{desktop, rect}
use Rattle.tv_model.specs.Faults.Letters.{is_same_key}
use Rattle.tv_machine.specs.State.{HeldFrame, OpenDialog, State}
use Rattle.tv_machine.specs.Dialog.Ending.{command}
use Rattle.tv_machine.specs.Dialog.Step.{dialog_step}
use Rattle.tv_machine.specs.Screen.Bars.{Spot, columns_of, spot_in, status_spot, status_text, status_under}
use Rattle.tv_machine.specs.Session.Commands.{command_by_dialog, do_command, in_dialog, with_line_logged}
use Rattle.tv_machine.specs.Session.Desktop.{seen_from}
use Rattle.tv_machine.specs.Session.Dragging.{corner_at, grabbed, is_grip_of, let_go, placed, step_dragged}
use Rattle.tv_machine.specs.Session.Step.{after_event, dialog_with_hold, down_on_dialog, event_from, is_item_enabled, is_status_row, status_command, status_item_of, step, step_held, to_dialog, with_empty_log}
use Rattle.tv_machine.proofs.ListLemmas.{bool_cases, found-passes, option_cases}
use Rattle.tv_machine.proofs.StepLemmas.{down_by_dialog, down_by_menu, down_by_row, key_by_dialog, key_by_item, key_by_menu, step_by_frame, step_by_hold}
use Rattle.tv_laws.specs.Records.{IsNoEnd}
use Rattle.tv_laws.specs.Runs.{HasSoundDialogs, IsFitState}
use Rattle.tv_laws.specs.Steps.{RespectsHold}
use Rattle.tv_laws.proofs.DragLemmas.{dropped-cases}
use Rattle.tv_laws.proofs.RunLemmas.{given_down, given_key, given_move, given_up, not_some}
use Rattle.tv_laws.proofs.WorkLemmas.{nothing}
use Rattle.tv_reach.specs.Givers.{IsInput}

-- ---- status items

-- a status item of the description
abbrev pub IsStatus : Desc → StatusItem → Type 0
IsStatus d item = Any (λ other. other ≡ item) d.status

pub any-here : {A : Type 0} (P : A → Type 0) (x : A) (xs : List A) → P x → Any P (x ∷ xs)
any-here P x xs is = (0, x, omega arith, refl, is)

pub any-later : {A : Type 0} (P : A → Type 0) (x : A) (xs : List A) → Any P xs → Any P (x ∷ xs)
any-later P x xs any = (suc any.0, any.1, of any.2, any.3, any.4)
  where
    of : any.0 < length xs → suc any.0 < suc (length xs)
    of less = omega (arith, less)

-- what is found is an element
pub found-any : {A : Type 0} (P : A → Type 0) (p : A → Bool) (xs : List A) (x : A) → find p xs ≡ Some x → P x → Any P xs
found-any P p [] x e is = absurd (nothing x e)
found-any P p (y ∷ xs) x e is =
    bool_cases (p y) (λ b. (if b then Some y else find p xs) ≡ Some x → Any P (y ∷ xs))
    (λ on f. let same : y ≡ x = cc in any-here P y xs (subst P (sym same) is)) (λ off f. any-later P y xs (found-any P p xs x f is)) e

abbrev entry_of : Spot StatusItem → StatusItem
entry_of spot = spot.entry

spot_any : (place first : ℕ) (items : List StatusItem) (column : ℕ) (item : StatusItem)
    → option_map entry_of (spot_in status_text place first items column) ≡ Some item → Any (λ other. other ≡ item) items
spot_any place first [] column item e = absurd (nothing item e)
spot_any place first (x ∷ items) column item e =
    let later = spot_in status_text (place + 1) (first + columns_of (status_text x)) items column in
    bool_cases (nat_lt column first)
    (λ b. option_map entry_of (if b then None else if nat_lt column (first + columns_of (status_text x))
    then Some (record { entry = x; place = place; column = column - first }) else later) ≡ Some item → Any (λ other. other ≡ item) (x ∷ items))
    (λ before f. absurd (nothing item f))
    (λ after. bool_cases (nat_lt column (first + columns_of (status_text x)))
    (λ b. option_map entry_of (if b then Some (record { entry = x; place = place; column = column - first }) else later) ≡ Some item
    → Any (λ other. other ≡ item) (x ∷ items))
    (λ here f. let same : x ≡ item = cc in any-here (λ other. other ≡ item) x items same)
    (λ beyond f. any-later (λ other. other ≡ item) x items
    (spot_any (place + 1) (first + columns_of (status_text x)) items column item f)))
    e

pub under_any : (d : Desc) (column : ℤ) (item : StatusItem) → status_under d column ≡ Some item → IsStatus d item
under_any d column item e =
    bool_cases (int_le (pos 0) column && int_lt column d.width)
    (λ b. option_map entry_of (if b then status_spot d (natural column) else None) ≡ Some item → IsStatus d item)
    (λ on f. spot_any 0 0 d.status (natural column) item f) (λ off f. absurd (nothing item f)) e

-- ---- what an event comes to

-- the dialog stays open, with its leaves as they were, and no end is logged
pub record IsIdle (o : OpenDialog) (after : State) : Type 0 where
  pub now : OpenDialog
  pub is : after.dialog ≡ Some now
  pub place : now.place ≡ o.place
  pub leaves : now.leaves ≡ o.leaves
  pub log : All IsNoEnd after.log

-- it works on an event
pub record IsWorked (d : Desc) (s : State) (o : OpenDialog) (after : State) : Type 0 where
  pub event : Event
  pub input : IsInput event
  pub given : RespectsHold o.held event
  pub is : after ≡ in_dialog d (with_empty_log s) o (λ dialog m. dialog_step dialog event m)

-- a status item gives its command, which is enabled
pub record IsOrdered (d : Desc) (s : State) (o : OpenDialog) (after : State) : Type 0 where
  pub item : StatusItem
  pub there : IsStatus d item
  pub enabled : is_item_enabled d (with_empty_log s) item ≡ true
  pub idle : o.held ≡ None
  pub is : after ≡ in_dialog d (with_empty_log s) o (λ dialog m. command dialog (command_number item.command) m)

module _ (d : Desc) (sound : HasSoundDialogs d) (s : State) (f : IsFitState d s) (o : OpenDialog) (some : s.dialog ≡ Some o) where
  -- one of the three
  abbrev pub Comes : State → Type 0
  Comes after = IsIdle o after ⊎ (IsWorked d s o after ⊎ IsOrdered d s o after)

  -- the state with its log taken
  abbrev quiet : State
  quiet = with_empty_log s

  unchanged : Comes quiet
  unchanged = inl (record { now = o; is = some; place = refl; leaves = refl; log = All-nil IsNoEnd })

  grabs : (corner p : Point) → Comes (grabbed corner p quiet)
  grabs corner p = inl (record { now = o; is = some; place = refl; leaves = refl; log = All-nil IsNoEnd })

  works_on : (e : Event) → IsInput (event_from o.origin e) → RespectsHold o.held (event_from o.origin e) → Comes (to_dialog d o e quiet)
  works_on e input given = inr (inl (record { event = event_from o.origin e; input = input; given = given; is = refl }))

  down_at : (p : Point) → Comes (down_on_dialog d o p quiet)
  down_at p =
      bool_cases (is_grip_of (slice_get d.dialogs o.place) (seen_from o.origin p))
      (λ b. Comes (if b then grabbed o.origin p quiet else to_dialog d o (events.Down p) quiet)) (λ grip. grabs o.origin p)
      (λ beside. works_on (events.Down p) tt (given_down o.held _))

  held_comes : (e : Event) → Comes (step_held d o e quiet)
  held_comes (events.Move p) = works_on (events.Move p) tt (given_move o.held _)
  held_comes (events.Up p) = works_on (events.Up p) tt (given_up o.held _)
  held_comes (events.Key k) = unchanged
  held_comes (events.Down p) = unchanged
  held_comes (events.Command c) = unchanged
  held_comes (events.Broadcast c) = unchanged

  -- ---- while a frame is held

  placed_idle : (x : Option OpenDialog) (corner : Point) (frame : Option HeldFrame) → s.dialog ≡ x
      → IsIdle o (placed x corner (record quiet { frame = frame }))
  placed_idle None corner frame none = absurd (nothing o (sym none ∙ some))
  placed_idle (Some x) corner frame is =
      let both : Some x ≡ Some o = sym is ∙ some in
      let same : x ≡ o = cc in
      record {
        now = record x { origin = corner };
        is = refl;
        place = ap (λ y. y.place) same;
        leaves = ap (λ y. y.leaves) same;
        log = All-nil IsNoEnd;
      }

  logged_idle : (i : Id) (corner : Point) (t : State) → IsIdle o t → IsIdle o (with_line_logged (lines.Moved i corner) t)
  logged_idle i corner t c = record {
    now = c.now;
    is = c.is;
    place = c.place;
    leaves = c.leaves;
    log = All-push IsNoEnd t.log (lines.Moved i corner) c.log tt;
  }

  dragged_comes : (frame : HeldFrame) (e : Event) → Comes (step_dragged d frame e quiet)
  dragged_comes frame (events.Move p) = inl (placed_idle s.dialog (corner_at d frame p) s.frame refl)
  dragged_comes frame (events.Up p) =
      let corner = corner_at d frame p in
      let t = placed s.dialog corner (let_go quiet) in
      inl (dropped-cases d (IsIdle o) frame corner t (placed_idle s.dialog corner None refl)
      (λ i. logged_idle i corner t (placed_idle s.dialog corner None refl)))
  dragged_comes frame (events.Key k) = unchanged
  dragged_comes frame (events.Down p) = unchanged
  dragged_comes frame (events.Command c) = unchanged
  dragged_comes frame (events.Broadcast c) = unchanged

  -- ---- while nothing holds the mouse

  module _ (idle : o.held ≡ None) where
    ordered : (item : StatusItem) → IsStatus d item → is_item_enabled d quiet item ≡ true → Comes (do_command d (command_number item.command) quiet)
    ordered item there enabled =
        inr (inr (record {
          item = item;
          there = there;
          enabled = enabled;
          idle = idle;
          is = ap (λ x. command_by_dialog d (command_number item.command) x quiet) some;
        }))

    item_comes : (item : Option StatusItem) → ((x : StatusItem) → item ≡ Some x → IsStatus d x) → Comes (status_command d item quiet)
    item_comes None there = unchanged
    item_comes (Some item) there =
        bool_cases (is_item_enabled d quiet item) (λ b. Comes (if b then do_command d (command_number item.command) quiet else quiet))
        (λ enabled. ordered item (there item refl) enabled) (λ disabled. unchanged)

    key_comes : (k : Key) → Comes (key_by_item d (status_item_of d quiet k) k quiet)
    key_comes k =
        option_cases (status_item_of d quiet k) (λ x. Comes (key_by_item d x k quiet))
        (λ none. subst (λ x. Comes (key_by_dialog d x k quiet)) (sym some) (works_on (events.Key k) tt (given_key o.held k)))
        (λ item found.
        let test : StatusItem → Bool = λ x. is_same_key x.key k && is_item_enabled d quiet x in
        ordered item (found-any (λ other. other ≡ item) test d.status item found refl)
        (and_parts (is_same_key item.key k) (is_item_enabled d quiet item) (found-passes test d.status item found)).1)

    below_comes : (p : Point) → Comes (down_by_dialog d s.dialog p quiet)
    below_comes p =
        subst (λ x. Comes (down_by_dialog d x p quiet)) (sym some)
        (bool_cases (is_in (desktop d) p.x p.y) (λ b. Comes (if b then down_on_dialog d o p quiet else quiet)) (λ inside. down_at p)
        (λ outside. unchanged))

    down_comes : (p : Point) → Comes (down_by_row d p quiet)
    down_comes p =
        bool_cases (is_in (rect (pos 0) (pos 0) d.width d.height) p.x p.y)
        (λ b. Comes (if not b then quiet else if is_status_row d p then status_command d (status_under d p.x) quiet else down_by_dialog d s.dialog p quiet))
        (λ inside. bool_cases (is_status_row d p) (λ b. Comes (if b then status_command d (status_under d p.x) quiet else down_by_dialog d s.dialog p quiet))
        (λ row. item_comes (status_under d p.x) (under_any d p.x)) (λ above. below_comes p))
        (λ outside. unchanged)

    -- no menu is open over a dialog
    loose_comes : (e : Event) → Comes (after_event d e quiet)
    loose_comes (events.Key k) = subst (λ x. Comes (key_by_menu d x k quiet)) (sym (f.«open» o some).menu) (key_comes k)
    loose_comes (events.Down p) = subst (λ x. Comes (down_by_menu d x p quiet)) (sym (f.«open» o some).menu) (down_comes p)
    loose_comes (events.Move p) = unchanged
    loose_comes (events.Up p) = unchanged
    loose_comes (events.Command c) = unchanged
    loose_comes (events.Broadcast c) = unchanged

  free_comes : (e : Event) → Comes (step_by_hold d (dialog_with_hold s.dialog) e quiet)
  free_comes e =
      subst (λ x. Comes (step_by_hold d (dialog_with_hold x) e quiet)) (sym some)
      (bool_cases (is_some o.held) (λ b. Comes (step_by_hold d (if b then Some o else None) e quiet)) (λ holds. held_comes e)
      (λ loose. loose_comes (not_some o.held loose) e))

  pub step-comes : (e : Event) → Comes (step d s e)
  step-comes e =
      bool_cases s.is_over (λ b. Comes (if b then quiet else step_by_frame d s.frame e quiet)) (λ over. unchanged)
      (λ goes. option_cases s.frame (λ x. Comes (step_by_frame d x e quiet)) (λ free. free_comes e) (λ frame held. dragged_comes frame e))
