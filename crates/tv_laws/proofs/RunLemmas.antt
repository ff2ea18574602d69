-- What comes next of a fit state is fit, and a fit state is safe; so each state of a run is.
use Rattle.std.proofs.Common.{◌≡◌, ◌⊎◌, inl, inr, Bool, true, false, not, ◌&&◌, ◌<◌, ℕ, zero, suc, if◌then◌else◌, List, [], ◌∷◌, map, length, position, replicate, Option, Some, None, is_none, is_some, option_map, refl, sym, ap, subst, ◌∙◌, arith}
use Rattle.std.specs.Prelude.{pos, slice_get}
use Rattle.std.proofs.lemmas.Bool.{true≢false}
use Rattle.std.proofs.lemmas.List.Elements.{All-nil}
use Rattle.tv_cells.specs.Layers.{is_in}
use Rattle.tv_cells.specs.declared.rect.Point.{Point}
use Rattle.tv_event.specs.declared.event.Event.{Event}
use Rattle.tv_event.specs.declared.event.Event.TheVariants as events
use Rattle.tv_event.specs.declared.event.Key.{Key}
use Rattle.tv_model.specs.declared.desc.Desc.{Desc}
use Rattle.tv_model.specs.declared.desc.StatusItem.{StatusItem}
use Rattle.tv_model.specs.Description.Commands.{command_number}
use Rattle.tv_model.specs.Description.Heads.{is_named}
use Rattle.tv_model.specs.Description.Rectangles.{corner_of, desktop, rect}
use Rattle.tv_model.specs.Log.Record.{Entries}
use Rattle.tv_machine.specs.State.{Held, OpenDialog, OpenMenu, State}
use Rattle.tv_machine.specs.Dialog.Step.{dialog_step}
use Rattle.tv_machine.specs.Output.{states}
use Rattle.tv_machine.specs.Safe.{HasDeclaredEnd, HasTopCell, IsAlwaysSafe, IsFitOverwriting, IsSafeSaved, StandOnDesktop, dragged_width}
use Rattle.tv_machine.specs.Screen.Bars.{status_under}
use Rattle.tv_machine.specs.Session.Commands.{do_command, modal_of}
use Rattle.tv_machine.specs.Session.Desktop.{seen_from}
use Rattle.tv_machine.specs.Session.Dragging.{grabbed, is_grip_of}
use Rattle.tv_machine.specs.Session.Start.{closed, start, started_at, started_by}
use Rattle.tv_machine.specs.Session.Enabled.{is_enabled_now}
use Rattle.tv_machine.specs.Session.Menu.{close_menu}
use Rattle.tv_machine.specs.Session.Step.{after_event, dialog_with_hold, down_on_dialog, event_from, give_command, is_item_enabled, is_status_row, status_command, status_item_of, step, step_held, takes_command, to_dialog, with_empty_log}
use Rattle.tv_laws.specs.Letters.{LettersAlwaysHaveOneMarker}
use Rattle.tv_laws.specs.Runs.{FitIsSafe, HasSoundDialogs, IsFitState, IsKept, ReachesFit, RecordsFit, RunsFit, StartsFit, state_after}
use Rattle.tv_laws.specs.Runs.IsNext.{by_command, by_event}
use Rattle.tv_laws.specs.Steps.{RespectsHold}
use Rattle.tv_laws.proofs.CommandLemmas.{IsReady, command-fit, desktop_down-fit, desktop_key-fit, idle-fit, menu_down-fit, menu_key-fit, ready-idle}
use Rattle.tv_machine.proofs.ListLemmas.{bool_cases, option_cases}
use Rattle.tv_machine.proofs.StepLemmas.{down_by_dialog, down_by_menu, down_by_row, key_by_dialog, key_by_item, key_by_menu, step_by_frame, step_by_hold}
use Rattle.tv_laws.proofs.DragLemmas.{dragged-fit, grabbed-fit}
use Rattle.tv_machine.specs.Dialog.Shortcuts.{HaveOneMarker}
use Rattle.tv_laws.proofs.MarkerLemmas.{one_marker}
use Rattle.tv_laws.proofs.StepLemmas.{stays-fit}
use Rattle.tv_laws.proofs.WorkLemmas.{dialog-opens, dialog-works, filter_none, get_all, get_set, length_set, nothing, relogged-fit, sound-at}

-- ---- events that may come at any time

pub given_key : (held : Option Held) (k : Key) → RespectsHold held (events.Key k)
given_key None k = tt
given_key (Some held) k = tt

pub given_down : (held : Option Held) (p : Point) → RespectsHold held (events.Down p)
given_down None p = tt
given_down (Some held) p = tt

pub given_move : (held : Option Held) (p : Point) → RespectsHold held (events.Move p)
given_move None p = tt
given_move (Some held) p = tt

pub given_up : (held : Option Held) (p : Point) → RespectsHold held (events.Up p)
given_up None p = tt
given_up (Some held) p = tt

not_true : (b : Bool) → not b ≡ true → b ≡ false
not_true true e = absurd (true≢false (sym e))
not_true false e = refl

none_is : {A : Type 0} (o : Option A) → is_none o ≡ true → o ≡ None
none_is None e = refl
none_is (Some x) e = absurd (true≢false (sym e))

and_true : (a b : Bool) → (a && b) ≡ true → (a ≡ true) × (b ≡ true)
and_true true b e = (refl, e)
and_true false b e = absurd (true≢false (sym e))

pub not_some : {A : Type 0} (o : Option A) → is_some o ≡ false → o ≡ None
not_some None e = refl
not_some (Some x) e = absurd (true≢false e)

-- ---- records that the program hands in

pub records-fit : (d : Desc) → RecordsFit d
records-fit d s place entries f safe = record {
  kept = record {
    saved = λ j xs e. at j xs (get_set s.saved place (Some entries) j (Some xs) e);
    records = length_set s.saved place (Some entries) ∙ f.kept.records;
    places = f.kept.places;
    ordered = f.kept.ordered;
    ends = f.kept.ends;
  };
  «open» = λ o e. let x = f.«open» o e in record { dialog = x.dialog; there = x.there; fit = x.fit; menu = x.menu; over = x.over; top = x.top };
  frame = λ held e. let x = f.frame held e in record { width = x.width; there = x.there; column = x.column; leaf = x.leaf; menu = x.menu; over = x.over };
}
  where
    at : (j : ℕ) (xs : Entries) → ((j ≡ place) × (Some xs ≡ Some entries)) ⊎ (slice_get s.saved j ≡ Some (Some xs)) → IsSafeSaved d j xs
    at j xs (inl (is, both)) =
        let same : entries ≡ xs = cc in
        subst (λ (n : ℕ). IsSafeSaved d n xs) (sym is) (subst (IsSafeSaved d place) same safe)
    at j xs (inr old) = f.kept.saved j xs old

module _ (d : Desc) (sound : HasSoundDialogs d) where
  -- ---- the open dialog

  to_dialog_fit : (s : State) (o : OpenDialog) (e : Event) → s.dialog ≡ Some o → IsFitState d s
      → s.frame ≡ None → RespectsHold o.held (event_from o.origin e) → IsFitState d (to_dialog d o e s)
  to_dialog_fit s o e some f free given =
      dialog-works d sound s o (λ dialog m. dialog_step dialog (event_from o.origin e) m) some f free
      (λ dialog is going. stays-fit dialog is (modal_of s o) (event_from o.origin e) going given)

  -- no menu is open over a dialog
  pub menu_idle : (s : State) (o : OpenMenu) → s.menu ≡ Some o → IsFitState d s → s.dialog ≡ None
  menu_idle s o some f =
      option_cases s.dialog (λ x. s.dialog ≡ x → x ≡ None) (λ none e. refl) (λ dialog is e. absurd (nothing o (sym (f.«open» dialog e).menu ∙ some))) refl

  -- ---- keys

  key_below_fit : (k : Key) (s : State) → IsReady d sound s → IsFitState d (key_by_dialog d s.dialog k s)
  key_below_fit k s r =
      option_cases s.dialog (λ o. IsFitState d (key_by_dialog d o k s)) (λ none. desktop_key-fit d sound k s (ready-idle d sound s r none))
      (λ o some. to_dialog_fit s o (events.Key k) some r.fit r.free (given_key o.held k))

  key_status_fit : (item : Option StatusItem) (k : Key) (s : State) → IsReady d sound s → s.menu ≡ None
      → IsFitState d (key_by_item d item k s)
  key_status_fit None k s r menu = key_below_fit k s r
  key_status_fit (Some item) k s r menu = command-fit d sound (command_number item.command) s r menu

  key_fit : (k : Key) (s : State) → IsReady d sound s → IsFitState d (key_by_menu d s.menu k s)
  key_fit k s r =
      option_cases s.menu (λ o. IsFitState d (key_by_menu d o k s)) (λ none. key_status_fit (status_item_of d s k) k s r none)
      (λ o some. menu_key-fit d sound o k s (ready-idle d sound s r (menu_idle s o some r.fit)))

  -- ---- mouse downs

  status_fit : (item : Option StatusItem) (s : State) → IsReady d sound s → s.menu ≡ None → IsFitState d (status_command d item s)
  status_fit None s r menu = r.fit
  status_fit (Some item) s r menu =
      bool_cases (is_item_enabled d s item) (λ b. IsFitState d (if b then do_command d (command_number item.command) s else s))
      (λ enabled. command-fit d sound (command_number item.command) s r menu) (λ disabled. r.fit)

  on_dialog_fit : (o : OpenDialog) (p : Point) (s : State) → s.dialog ≡ Some o → IsReady d sound s → s.menu ≡ None → IsFitState d (down_on_dialog d o p s)
  on_dialog_fit o p s some r menu =
      let x = r.fit.«open» o some in
      let there : dragged_width d s.dialog s.windows ≡ Some x.dialog.node.w =
      ap (λ y. dragged_width d y s.windows) some ∙ ap (option_map (λ y. y.node.w)) x.there in
      let loose : dialog_with_hold s.dialog ≡ None = ap dialog_with_hold some ∙ ap (λ h. if is_some h then Some o else None) (r.idle o some) in
      bool_cases (is_grip_of (slice_get d.dialogs o.place) (seen_from o.origin p))
      (λ b. IsFitState d (if b then grabbed o.origin p s else to_dialog d o (events.Down p) s))
      (λ grip. grabbed-fit d sound o.origin p s x.dialog.node.w r.fit there (sym (ap (λ y. is_grip_of y (seen_from o.origin p)) x.there) ∙ grip) loose menu r.over)
      (λ beside. to_dialog_fit s o (events.Down p) some r.fit r.free (given_down o.held _))

  down_below_fit : (p : Point) (s : State) → IsReady d sound s → s.menu ≡ None → IsFitState d (down_by_dialog d s.dialog p s)
  down_below_fit p s r menu =
      option_cases s.dialog (λ o. IsFitState d (down_by_dialog d o p s)) (λ none. desktop_down-fit d sound p s (ready-idle d sound s r none) menu)
      (λ o some. bool_cases (is_in (desktop d) p.x p.y) (λ b. IsFitState d (if b then down_on_dialog d o p s else s))
      (λ inside. on_dialog_fit o p s some r menu) (λ outside. r.fit))

  down_status_fit : (p : Point) (s : State) → IsReady d sound s → s.menu ≡ None → IsFitState d (down_by_row d p s)
  down_status_fit p s r menu =
      bool_cases (is_in (rect (pos 0) (pos 0) d.width d.height) p.x p.y)
      (λ b. IsFitState d (if not b then s else if is_status_row d p then status_command d (status_under d p.x) s else down_by_dialog d s.dialog p s))
      (λ inside. bool_cases (is_status_row d p) (λ b. IsFitState d (if b then status_command d (status_under d p.x) s else down_by_dialog d s.dialog p s))
      (λ row. status_fit (status_under d p.x) s r menu) (λ above. down_below_fit p s r menu))
      (λ outside. r.fit)

  down_fit : (p : Point) (s : State) → IsReady d sound s → IsFitState d (down_by_menu d s.menu p s)
  down_fit p s r =
      option_cases s.menu (λ o. IsFitState d (down_by_menu d o p s)) (λ none. down_status_fit p s r none)
      (λ o some. menu_down-fit d sound o p s (ready-idle d sound s r (menu_idle s o some r.fit)))

  -- ---- events

  below_fit : (e : Event) (s : State) → IsReady d sound s → IsFitState d (after_event d e s)
  below_fit (events.Key k) s r = key_fit k s r
  below_fit (events.Down p) s r = down_fit p s r
  below_fit (events.Move p) s r = r.fit
  below_fit (events.Up p) s r = r.fit
  below_fit (events.Command c) s r = r.fit
  below_fit (events.Broadcast c) s r = r.fit

  held_fit : (o : OpenDialog) (e : Event) (s : State) → s.dialog ≡ Some o → IsFitState d s → s.frame ≡ None
      → IsFitState d (step_held d o e s)
  held_fit o (events.Move p) s some f free = to_dialog_fit s o (events.Move p) some f free (given_move o.held _)
  held_fit o (events.Up p) s some f free = to_dialog_fit s o (events.Up p) some f free (given_up o.held _)
  held_fit o (events.Key k) s some f free = f
  held_fit o (events.Down p) s some f free = f
  held_fit o (events.Command c) s some f free = f
  held_fit o (events.Broadcast c) s some f free = f

  -- the log is taken
  emptied_fit : (s : State) → IsFitState d s → IsFitState d (with_empty_log s)
  emptied_fit s f = relogged-fit d sound s [] (All-nil (HasDeclaredEnd d)) f

  step_at_fit : (e : Event) (s : State) → IsFitState d s → s.is_over ≡ false → s.frame ≡ None
      → IsFitState d (step_by_hold d (dialog_with_hold s.dialog) e s)
  step_at_fit e s f over free =
      option_cases s.dialog (λ o. IsFitState d (step_by_hold d (dialog_with_hold o) e s))
      (λ none. below_fit e s (record { fit = f; over = over; free = free; idle = λ o is. absurd (nothing o (sym none ∙ is)) }))
      (λ o some. bool_cases (is_some o.held) (λ b. IsFitState d (step_by_hold d (if b then Some o else None) e s)) (λ holds. held_fit o e s some f free)
      (λ loose. below_fit e s (record {
        fit = f;
        over = over;
        free = free;
        idle = λ x is. let both : Some o ≡ Some x = sym some ∙ is in let same : o ≡ x = cc in subst (λ y. y.held ≡ None) same (not_some o.held loose);
      })))

  pub steps-fit : (s : State) (e : Event) → IsFitState d s → IsFitState d (step d s e)
  steps-fit s e f =
      bool_cases s.is_over (λ b. IsFitState d (if b then with_empty_log s else step_by_frame d s.frame e (with_empty_log s))) (λ over. emptied_fit s f)
      (λ goes. option_cases s.frame (λ frame. IsFitState d (step_by_frame d frame e (with_empty_log s))) (λ free. step_at_fit e (with_empty_log s) (emptied_fit s f) goes free)
      (λ frame held. dragged-fit d sound frame e (with_empty_log s) held (emptied_fit s f)))

  -- ---- commands that the program gives

  pub shut-fit : (s : State) → IsFitState d s → IsFitState d (close_menu s)
  shut-fit s f = record {
    kept = record { saved = f.kept.saved; records = f.kept.records; places = f.kept.places; ordered = f.kept.ordered; ends = f.kept.ends };
    «open» = λ o e. let x = f.«open» o e in record { dialog = x.dialog; there = x.there; fit = x.fit; menu = refl; over = x.over; top = x.top };
    frame = λ held e. let x = f.frame held e in record { width = x.width; there = x.there; column = x.column; leaf = x.leaf; menu = refl; over = x.over };
  }

  loose : (s : State) → is_none (dialog_with_hold s.dialog) ≡ true → (o : OpenDialog) → s.dialog ≡ Some o → o.held ≡ None
  loose s none o some =
      not_some o.held
      (bool_cases (is_some o.held) (λ b. is_none (if b then Some o else None) ≡ true → b ≡ false) (λ holds e. absurd (true≢false (sym e))) (λ free e. refl)
      (sym (ap (λ x. is_none (dialog_with_hold x)) some) ∙ none))

  pub takes-ready : (number : ℕ) (s : State) → IsFitState d s → takes_command d s number ≡ true → IsReady d sound (close_menu (with_empty_log s))
  takes-ready number s f takes =
      let first = and_true (not s.is_over && is_none s.frame && is_none (dialog_with_hold s.dialog)) (is_enabled_now d s number) takes in
      let second = and_true (not s.is_over && is_none s.frame) (is_none (dialog_with_hold s.dialog)) first.0 in
      let third = and_true (not s.is_over) (is_none s.frame) second.0 in
      record { fit = shut-fit (with_empty_log s) (emptied_fit s f); over = not_true s.is_over third.0; free = none_is s.frame third.1; idle = loose s second.1 }

  -- they keep it as events do
  pub commands-fit : (s : State) (number : ℕ) → IsFitState d s → IsFitState d (give_command d s number)
  commands-fit s number f =
      bool_cases (takes_command d s number) (λ b. IsFitState d (if b then do_command d number (close_menu (with_empty_log s)) else with_empty_log s))
      (λ takes. command-fit d sound number (close_menu (with_empty_log s)) (takes-ready number s f takes) refl) (λ refused. emptied_fit s f)

  pub runs-fit : RunsFit d
  runs-fit s after f (by_event e is) = subst (IsFitState d) (sym is) (steps-fit s e f)
  runs-fit s after f (by_command number is) = subst (IsFitState d) (sym is) (commands-fit s number f)

  -- ---- the start

  copies : {A : Type 0} (n : ℕ) (v x : A) (j : ℕ) → slice_get (replicate n v) j ≡ Some x → (x ≡ v) × (j < n)
  copies zero v x j e = absurd cc
  copies (suc n) v x zero e = (cc, omega arith)
  copies (suc n) v x (suc j) e = let r = copies n v x j e in (r.0, omega (arith, r.1))

  pub copies_length : {A : Type 0} (n : ℕ) (v : A) → length (replicate n v) ≡ n
  copies_length zero v = refl
  copies_length (suc n) v = ap (λ (k : ℕ). suc k) (copies_length n v)

  there_is : {A : Type 0} (xs : List A) (j : ℕ) → j < length xs → (x : A) × (slice_get xs j ≡ Some x)
  there_is [] j less = absurd (omega arith)
  there_is (x ∷ xs) zero less = (x, refl)
  there_is (x ∷ xs) (suc j) less = there_is xs j (omega arith)

  pub closed_kept : IsKept d (closed d)
  closed_kept = record {
    saved = λ j entries e. let r = copies (length d.dialogs) None (Some entries) j e in absurd (nothing entries (sym r.0));
    records = copies_length (length d.dialogs) None;
    places = copies_length (length d.dialogs) [];
    ordered = λ j ids e.
        let r = copies (length d.dialogs) [] ids j e in
        let x = there_is d.dialogs j r.1 in
        subst (IsFitOverwriting d j) (sym r.0) (record { dialog = x.0; there = x.1; ordered = sym (filter_none (map (λ view. view.id) x.0.views)) });
    ends = All-nil (HasDeclaredEnd d);
  }

  at_fit : (place : Option ℕ) → IsFitState d (started_at d place)
  at_fit None = idle-fit d sound (closed d) closed_kept refl refl
  at_fit (Some place) = dialog-opens d sound place (closed d) (idle-fit d sound (closed d) closed_kept refl refl) refl refl refl

  by_fit : (name : Option (List ℕ)) → IsFitState d (started_by d name)
  by_fit None = at_fit None
  by_fit (Some name) = at_fit (position (is_named name) d.dialogs)

  pub start-fit : StartsFit d
  start-fit = by_fit d.start

  -- ---- every run

  pub fit-safe : StandOnDesktop d → FitIsSafe d
  fit-safe stand s f = record {
    dialog = λ o e. let x = f.«open» o e in record {
      dialog = x.dialog;
      there = x.there;
      leaves = x.fit.standing.leaves;
      focus = x.fit.focus;
      held = λ held is. let h = x.fit.held held is in record { leaf = h.leaf; there = h.there; visible = h.visible; enabled = h.enabled };
      contents = λ k y h. (x.fit.standing.contents k y h).safe;
      menu = x.menu;
      over = x.over;
      top = x.top (get_all (λ dialog. HasTopCell d (corner_of dialog.node) dialog.node.w) d.dialogs o.place x.dialog stand x.there);
    };
    frame = f.frame;
    saved = f.kept.saved;
    ends = f.kept.ends;
  }

  states-fit : (es : List Event) (s : State) → IsFitState d s → IsFitState d (states (step d) s es)
  states-fit [] s f = f
  states-fit (e ∷ es) s f = states-fit es (step d s e) (steps-fit s e f)

  pub reached-fit : ReachesFit d
  reached-fit es = states-fit es (start d) start-fit

  pub always-safe : StandOnDesktop d → IsAlwaysSafe d
  always-safe stand es = fit-safe stand (state_after d es) (reached-fit es)

  pub always-marks-once : LettersAlwaysHaveOneMarker d
  always-marks-once s o dialog f some there =
      let x = f.«open» o some in
      let both : Some x.dialog ≡ Some dialog = sym x.there ∙ there in
      let same : x.dialog ≡ dialog = cc in
      subst (λ own. HaveOneMarker own o.leaves) same (one_marker x.dialog (modal_of s o) (sound-at d sound o.place x.dialog x.there) x.fit.standing)
