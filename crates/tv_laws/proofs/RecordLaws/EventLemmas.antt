-- What comes next of a fit state logs no end and saves nothing, or ends the open dialog and saves what it logs.
use Rattle.std.proofs.Common.{◌≡◌, ◌⊎◌, inl, inr, false, not, ◌==◌, ◌<◌, ℕ, if◌then◌else◌, ◌++◌, length, map, is_some, Option, Some, None, option_map, unwrap_or, refl, sym, ap, subst, ◌∙◌}
use Rattle.std.specs.Prelude.{pos, slice_get, slice_set}
use Rattle.std.proofs.lemmas.List.Elements.{All-nil, All-push}
use Rattle.tv_cells.specs.Layers.{is_in}
use Rattle.tv_cells.specs.declared.rect.Point.{Point}
use Rattle.tv_event.specs.declared.event.Event.{Event}
use Rattle.tv_event.specs.declared.event.Event.TheVariants as events
use Rattle.tv_event.specs.declared.event.Key.{Key}
use Rattle.tv_model.specs.declared.node.Id.{Id}
use Rattle.tv_model.specs.declared.desc.Desc.{Desc}
use Rattle.tv_model.specs.declared.desc.Dialog.{Dialog}
use Rattle.tv_model.specs.declared.desc.StatusItem.{StatusItem}
use Rattle.tv_model.specs.declared.log.LogLine.TheVariants as lines
use Rattle.tv_model.specs.Description.Commands.{command_number}
use Rattle.tv_model.specs.Description.Rectangles.{desktop, rect}
use Rattle.tv_machine.specs.State.{HeldFrame, OpenDialog, OpenMenu, State}
use Rattle.tv_machine.specs.Dialog.Ending.{command, ended, fields_of}
use Rattle.tv_machine.specs.Dialog.Modal.{Modal}
use Rattle.tv_machine.specs.Dialog.Step.{dialog_step}
use Rattle.tv_machine.specs.Safe.{IsSafeRecord}
use Rattle.tv_machine.specs.Screen.Bars.{status_under}
use Rattle.tv_machine.specs.Session.Commands.{after_work, command_by_dialog, do_command, in_dialog, modal_of, saved_by, with_line_logged, works}
use Rattle.tv_machine.specs.Session.Desktop.{seen_from}
use Rattle.tv_machine.specs.Session.Dragging.{corner_at, grabbed, is_grip_of, let_go, placed, step_dragged}
use Rattle.tv_machine.specs.Session.Menu.{close_menu}
use Rattle.tv_machine.specs.Session.Step.{after_event, dialog_with_hold, down_on_dialog, event_from, give_command, is_item_enabled, is_status_row, status_command, status_item_of, step, step_held, takes_command, to_dialog, with_empty_log}
use Rattle.tv_laws.specs.Ends.{IsDone, NamesEndOf, IsOpen}
use Rattle.tv_laws.specs.Records.{IsEnd, IsEndless, IsNoEnd, ShowsSaved, end_lines}
use Rattle.tv_laws.specs.Runs.{HasSoundDialogs, IsFitState, IsNext}
use Rattle.tv_laws.specs.Runs.IsNext.{by_command, by_event}
use Rattle.tv_laws.specs.Sound.{IsSoundDialog}
use Rattle.tv_laws.specs.Steps.{RespectsHold}
use Rattle.tv_laws.proofs.DragLemmas.{dropped-cases}
use Rattle.tv_laws.proofs.EndLemmas.{command-done}
use Rattle.tv_laws.proofs.RecordLaws.IdleLemmas.{IsBeside, IsStill, command-beside, desktop_down-beside, desktop_key-beside, menu_down-beside, menu_key-beside}
use Rattle.tv_machine.proofs.ListLemmas.{bool_cases, option_cases}
use Rattle.tv_machine.proofs.StepLemmas.{down_by_dialog, down_by_menu, down_by_row, key_by_dialog, key_by_item, key_by_menu, step_by_frame, step_by_hold}
use Rattle.tv_laws.proofs.RecordLaws.OnceLemmas.{EndsLast, HasEnded, last-command, last-step}
use Rattle.tv_laws.proofs.RunLemmas.{given_down, given_key, given_move, given_up, menu_idle, not_some, takes-ready}
use Rattle.tv_laws.proofs.RecordLaws.ShowLemmas.{standing-ids}
use Rattle.tv_laws.proofs.StepLemmas.{stays-fit}
use Rattle.tv_laws.proofs.WorkLemmas.{get_less, get_set_same, nothing, sound-at}

-- nothing ended, and a dialog that is open now and wasn't shows what was saved of it
pub record IsCalm (d : Desc) (s after : State) : Type 0 where
  pub endless : IsEndless s after
  pub shows : (o : OpenDialog) → s.dialog ≡ None → after.dialog ≡ Some o → ShowsSaved d s o

module _ (d : Desc) (sound : HasSoundDialogs d) (s : State) (f : IsFitState d s) where
  -- what came of it
  abbrev pub IsTold : State → Type 0
  IsTold after = IsCalm d s after ⊎ IsEnd d s after

  -- the state with its log taken
  abbrev quiet : State
  quiet = with_empty_log s

  abbrev place_of : OpenDialog → ℕ
  place_of o = o.place

  unchanged : IsTold quiet
  unchanged = inl (record {
    endless = record { log = All-nil IsNoEnd; saved = refl; stays = λ o some. ap (option_map place_of) some };
    shows = λ o was e. absurd (nothing o (sym was ∙ e));
  })

  grabbed_told : (corner p : Point) → IsTold (grabbed corner p quiet)
  grabbed_told corner p = inl (record {
    endless = record { log = All-nil IsNoEnd; saved = refl; stays = λ o some. ap (option_map place_of) some };
    shows = λ o was e. absurd (nothing o (sym was ∙ e));
  })

  -- while no dialog is open
  idle_told : (after : State) → s.dialog ≡ None → IsBeside d s after → IsTold after
  idle_told after none b = inl (record {
    endless = record { log = b.log; saved = b.saved; stays = λ o some. absurd (nothing o (sym none ∙ some)) };
    shows = b.shows;
  })

  still : s.dialog ≡ None → IsStill d sound s f.kept quiet
  still none = (All-nil IsNoEnd, refl, refl, none)

  -- ---- the work of the open dialog

  module _ (o : OpenDialog) (some : s.dialog ≡ Some o) where
    end_told : (dialog : Dialog) → slice_get d.dialogs o.place ≡ Some dialog → (m : Modal) → IsDone dialog m → (h : HasEnded dialog o.leaves m)
        → IsEnd d s (after_work quiet o (ended dialog h.number h.before) (Some h.number))
    end_told dialog there m done h =
        let entries = fields_of o.leaves in
        let less : o.place < length s.saved = subst (λ (n : ℕ). o.place < n) (sym f.kept.records) (get_less d.dialogs o.place dialog there) in
        let of = done.ends h.number (ap (λ x. x.ended) h.is) in
        let as_stood : fields_of m.leaves ≡ entries = ap (λ x. fields_of x.leaves) h.is ∙ ap fields_of h.same in
        let saved_as : (h.number == 11) ≡ false → saved_by o.place h.number h.before s.saved ≡ slice_set s.saved o.place (Some entries) = λ e.
        ap (λ b. if b then s.saved else slice_set s.saved o.place (Some (fields_of h.before.leaves))) e
        ∙ ap (λ leaves. slice_set s.saved o.place (Some (fields_of leaves))) h.same in
        record {
          «open» = o;
          was = some;
          closed = refl;
          dialog = dialog;
          there = there;
          number = h.number;
          declared = of.declared;
          fields = ap (map (λ entry. entry.id)) (sym as_stood) ∙ standing-ids dialog (sound-at d sound o.place dialog there) m done.fit.standing;
          logged = record {
            before = h.before.log;
            endless = h.quiet.0;
            written = ap (λ leaves. h.before.log ++ end_lines dialog h.number (fields_of leaves)) h.same;
          };
          cancelled = λ e. ap (λ b. if b then s.saved else slice_set s.saved o.place (Some (fields_of h.before.leaves))) e;
          saved = λ e. record {
            safe = subst (IsSafeRecord dialog) as_stood (of.saved e);
            set = saved_as e;
            there = ap (λ xs. unwrap_or (slice_get xs o.place) None) (saved_as e) ∙ ap (λ x. unwrap_or x None) (get_set_same s.saved o.place (Some entries) less);
          };
        }

    work_told : (dialog : Dialog) → slice_get d.dialogs o.place ≡ Some dialog → (m : Modal) → IsDone dialog m → EndsLast dialog o.leaves m
        → IsTold (after_work quiet o m m.ended)
    work_told dialog there m done (inl q) =
        subst (λ over. IsTold (after_work quiet o m over)) (sym q.1)
        (inl (record {
          endless = record { log = q.0; saved = refl; stays = λ x is. let both : Some o ≡ Some x = sym some ∙ is in ap (option_map place_of) both };
          shows = λ x was e. absurd (nothing o (sym was ∙ some));
        }))
    work_told dialog there m done (inr h) = subst (λ n. IsTold (after_work quiet o n n.ended)) (sym h.is) (inr (end_told dialog there m done h))

    dialog_told : (work : Dialog → Modal → Modal)
        → ((dialog : Dialog) → IsSoundDialog dialog → IsOpen dialog (modal_of s o) → IsDone dialog (work dialog (modal_of s o)) × EndsLast dialog o.leaves (work dialog (modal_of s o)))
        → IsTold (in_dialog d quiet o work)
    dialog_told work keeps =
        let x = f.«open» o some in
        let r = keeps x.dialog (sound-at d sound o.place x.dialog x.there) (record { fit = x.fit; log = All-nil (NamesEndOf x.dialog); going = refl }) in
        subst (λ found. IsTold (works quiet o work found)) (sym x.there) (work_told x.dialog x.there (work x.dialog (modal_of s o)) r.0 r.1)

    to_dialog_told : (e : Event) → RespectsHold o.held (event_from o.origin e) → IsTold (to_dialog d o e quiet)
    to_dialog_told e given =
        let seen = event_from o.origin e in
        dialog_told (λ dialog m. dialog_step dialog seen m)
        (λ dialog is going. (stays-fit dialog is (modal_of s o) seen going given, last-step dialog seen (modal_of s o) (All-nil IsNoEnd, refl)))

    down_told_at : (p : Point) → IsTold (down_on_dialog d o p quiet)
    down_told_at p =
        bool_cases (is_grip_of (slice_get d.dialogs o.place) (seen_from o.origin p))
        (λ b. IsTold (if b then grabbed o.origin p quiet else to_dialog d o (events.Down p) quiet)) (λ grip. grabbed_told o.origin p)
        (λ beside. to_dialog_told (events.Down p) (given_down o.held _))

    held_told : (e : Event) → IsTold (step_held d o e quiet)
    held_told (events.Move p) = to_dialog_told (events.Move p) (given_move o.held _)
    held_told (events.Up p) = to_dialog_told (events.Up p) (given_up o.held _)
    held_told (events.Key k) = unchanged
    held_told (events.Down p) = unchanged
    held_told (events.Command c) = unchanged
    held_told (events.Broadcast c) = unchanged

  -- ---- while a frame is held

  -- only where the frame stands changes
  placed_calm : (o : Option OpenDialog) (corner : Point) (frame : Option HeldFrame) → s.dialog ≡ o
      → IsCalm d s (placed o corner (record quiet { frame = frame }))
  placed_calm None corner frame none = record {
    endless = record { log = All-nil IsNoEnd; saved = refl; stays = λ o some. ap (option_map place_of) some };
    shows = λ o was e. absurd (nothing o (sym was ∙ e));
  }
  placed_calm (Some o) corner frame some = record {
    endless = record { log = All-nil IsNoEnd; saved = refl; stays = λ x is. ap (option_map place_of) (sym some ∙ is) };
    shows = λ x was e. absurd (nothing o (sym was ∙ some));
  }

  logged_calm : (i : Id) (corner : Point) (t : State) → IsCalm d s t → IsCalm d s (with_line_logged (lines.Moved i corner) t)
  logged_calm i corner t c = record {
    endless = record { log = All-push IsNoEnd t.log (lines.Moved i corner) c.endless.log tt; saved = c.endless.saved; stays = c.endless.stays };
    shows = c.shows;
  }

  dragged_told : (frame : HeldFrame) (e : Event) → IsTold (step_dragged d frame e quiet)
  dragged_told frame (events.Move p) = inl (placed_calm s.dialog (corner_at d frame p) s.frame refl)
  dragged_told frame (events.Up p) =
      let corner = corner_at d frame p in
      let t = placed s.dialog corner (let_go quiet) in
      inl (dropped-cases d (IsCalm d s) frame corner t (placed_calm s.dialog corner None refl) (λ i. logged_calm i corner t (placed_calm s.dialog corner None refl)))
  dragged_told frame (events.Key k) = unchanged
  dragged_told frame (events.Down p) = unchanged
  dragged_told frame (events.Command c) = unchanged
  dragged_told frame (events.Broadcast c) = unchanged

  -- ---- while nothing holds the mouse

  module _ (idle : (o : OpenDialog) → s.dialog ≡ Some o → o.held ≡ None) where
    command_told : (number : ℕ) → IsTold (do_command d number quiet)
    command_told number =
        option_cases s.dialog (λ x. s.dialog ≡ x → IsTold (command_by_dialog d number x quiet))
        (λ is none. subst (λ x. IsTold (command_by_dialog d number x quiet)) none (idle_told _ none (command-beside d sound s f.kept number quiet (still none))))
        (λ o is some. dialog_told o some (λ dialog m. command dialog number m)
        (λ dialog is going. (
          command-done dialog is number (modal_of s o) (record { fit = going.fit; log = going.log; going = going.going; idle = idle o some }),
          last-command dialog number (modal_of s o) (All-nil IsNoEnd, refl),
        ))) refl

    item_told : (item : Option StatusItem) → IsTold (status_command d item quiet)
    item_told None = unchanged
    item_told (Some item) =
        bool_cases (is_item_enabled d quiet item) (λ b. IsTold (if b then do_command d (command_number item.command) quiet else quiet))
        (λ enabled. command_told (command_number item.command)) (λ disabled. unchanged)

    -- ---- keys

    key_below_told : (k : Key) → IsTold (key_by_dialog d s.dialog k quiet)
    key_below_told k =
        option_cases s.dialog (λ x. IsTold (key_by_dialog d x k quiet)) (λ none. idle_told _ none (desktop_key-beside d sound s f.kept k quiet (still none)))
        (λ o some. to_dialog_told o some (events.Key k) (given_key o.held k))

    key_status_told : (item : Option StatusItem) (k : Key) → IsTold (key_by_item d item k quiet)
    key_status_told None k = key_below_told k
    key_status_told (Some item) k = command_told (command_number item.command)

    key_told : (k : Key) → IsTold (key_by_menu d s.menu k quiet)
    key_told k =
        option_cases s.menu (λ o. IsTold (key_by_menu d o k quiet)) (λ none. key_status_told (status_item_of d quiet k) k)
        (λ o some. let none = menu_idle d sound s o some f in idle_told _ none (menu_key-beside d sound s f.kept o k quiet (still none)))

    -- ---- mouse downs

    down_below_told : (p : Point) → IsTold (down_by_dialog d s.dialog p quiet)
    down_below_told p =
        option_cases s.dialog (λ x. IsTold (down_by_dialog d x p quiet)) (λ none. idle_told _ none (desktop_down-beside d sound s f.kept p quiet (still none)))
        (λ o some. bool_cases (is_in (desktop d) p.x p.y) (λ b. IsTold (if b then down_on_dialog d o p quiet else quiet))
        (λ inside. down_told_at o some p) (λ outside. unchanged))

    down_status_told : (p : Point) → IsTold (down_by_row d p quiet)
    down_status_told p =
        bool_cases (is_in (rect (pos 0) (pos 0) d.width d.height) p.x p.y)
        (λ b. IsTold (if not b then quiet else if is_status_row d p then status_command d (status_under d p.x) quiet else down_by_dialog d s.dialog p quiet))
        (λ inside. bool_cases (is_status_row d p) (λ b. IsTold (if b then status_command d (status_under d p.x) quiet else down_by_dialog d s.dialog p quiet))
        (λ row. item_told (status_under d p.x)) (λ above. down_below_told p))
        (λ outside. unchanged)

    down_told : (p : Point) → IsTold (down_by_menu d s.menu p quiet)
    down_told p =
        option_cases s.menu (λ o. IsTold (down_by_menu d o p quiet)) (λ none. down_status_told p)
        (λ o some. let none = menu_idle d sound s o some f in idle_told _ none (menu_down-beside d sound s f.kept o p quiet (still none)))

    below_told : (e : Event) → IsTold (after_event d e quiet)
    below_told (events.Key k) = key_told k
    below_told (events.Down p) = down_told p
    below_told (events.Move p) = unchanged
    below_told (events.Up p) = unchanged
    below_told (events.Command c) = unchanged
    below_told (events.Broadcast c) = unchanged

  -- ---- events

  at_told : (e : Event) → IsTold (step_by_hold d (dialog_with_hold s.dialog) e quiet)
  at_told e =
      option_cases s.dialog (λ x. IsTold (step_by_hold d (dialog_with_hold x) e quiet)) (λ none. below_told (λ o is. absurd (nothing o (sym none ∙ is))) e)
      (λ o some. bool_cases (is_some o.held) (λ b. IsTold (step_by_hold d (if b then Some o else None) e quiet)) (λ holds. held_told o some e)
      (λ loose. below_told
      (λ x is. let both : Some o ≡ Some x = sym some ∙ is in let same : o ≡ x = cc in subst (λ y. y.held ≡ None) same (not_some o.held loose)) e))

  event_told : (e : Event) → IsTold (step d s e)
  event_told e =
      bool_cases s.is_over (λ b. IsTold (if b then quiet else step_by_frame d s.frame e quiet)) (λ over. unchanged)
      (λ goes. option_cases s.frame (λ frame. IsTold (step_by_frame d frame e quiet)) (λ free. at_told e) (λ frame held. dragged_told frame e))

  -- ---- commands that the program gives

  given_at : (number : ℕ) → ((o : OpenDialog) → s.dialog ≡ Some o → o.held ≡ None) → IsTold (do_command d number (close_menu quiet))
  given_at number idle =
      option_cases s.dialog (λ x. s.dialog ≡ x → IsTold (do_command d number (close_menu quiet)))
      (λ is none. idle_told _ none (command-beside d sound s f.kept number (close_menu quiet) (All-nil IsNoEnd, refl, refl, none)))
      (λ o is some. subst (λ t. IsTold (do_command d number t)) (ap (λ (menu : Option OpenMenu). record quiet { menu = menu }) (f.«open» o some).menu) (command_told idle number)) refl

  given_told : (number : ℕ) → IsTold (give_command d s number)
  given_told number =
      bool_cases (takes_command d s number) (λ b. IsTold (if b then do_command d number (close_menu quiet) else quiet))
      (λ takes. given_at number (takes-ready d sound number s f takes).idle) (λ refused. unchanged)

  pub next-told : (after : State) → IsNext d s after → IsTold after
  next-told after (by_event e is) = subst IsTold (sym is) (event_told e)
  next-told after (by_command number is) = subst IsTold (sym is) (given_told number)
