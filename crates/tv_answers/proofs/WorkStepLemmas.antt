-- What an event of a run comes to while a dialog is open: the dialog works by the event, or by a command that its rules
-- enable, or its leaves stand as before.
use Rattle.std.proofs.Common.{[], ◌≡◌, ◌&&◌, true, not, ℕ, if◌then◌else◌, Option, Some, None, is_some, refl, sym, ap, subst, ◌∙◌, All}
use Rattle.std.specs.Prelude.{pos, slice_get}
use Rattle.std.proofs.lemmas.Bool.{and_parts}
use Rattle.std.proofs.lemmas.List.Elements.{All-nil, All-push}
use Rattle.tv_cells.specs.Layers.{is_in}
use Rattle.tv_cells.specs.declared.rect.Point.{Point}
use Rattle.tv_event.specs.declared.event.Event.{Event}
use Rattle.tv_event.specs.declared.event.Event.TheVariants as events
use Rattle.tv_event.specs.declared.event.Key.{Key}
use Rattle.tv_model.specs.declared.desc.Desc.{Desc}
use Rattle.tv_model.specs.declared.desc.Dialog.{Dialog}
use Rattle.tv_model.specs.declared.desc.StatusItem.{StatusItem}
use Rattle.tv_model.specs.declared.log.LogLine.TheVariants as lines
use Rattle.tv_model.specs.Description.Commands.{command_number}
use Rattle.tv_model.specs.Description.Rectangles.{desktop, rect}
use Rattle.tv_model.specs.Faults.Letters.{is_same_key}
use Rattle.tv_machine.specs.State.{HeldFrame, OpenDialog, State}
use Rattle.tv_machine.specs.Dialog.Ending.{command}
use Rattle.tv_machine.specs.Dialog.Modal.{Modal}
use Rattle.tv_machine.specs.Dialog.Step.{dialog_step}
use Rattle.tv_machine.specs.Screen.Bars.{status_under}
use Rattle.tv_machine.specs.Session.Commands.{after_work, command_by_dialog, do_command, in_dialog, modal_of, with_line_logged, works}
use Rattle.tv_machine.specs.Session.Desktop.{seen_from}
use Rattle.tv_machine.specs.Session.Dragging.{corner_at, grabbed, is_grip_of, let_go, placed, step_dragged}
use Rattle.tv_machine.specs.Session.Enabled.{enabled_in}
use Rattle.tv_machine.specs.Session.Step.{after_event, dialog_with_hold, down_on_dialog, event_from, is_item_enabled, is_status_row, status_command, status_item_of, step, step_held, to_dialog, with_empty_log}
use Rattle.tv_machine.proofs.ListLemmas.{bool_cases, found-passes, option_cases}
use Rattle.tv_machine.proofs.StepLemmas.{down_by_dialog, down_by_menu, down_by_row, key_by_dialog, key_by_item, key_by_menu, step_by_frame, step_by_hold}
use Rattle.tv_laws.specs.Records.{IsNoEnd}
use Rattle.tv_laws.specs.Runs.{IsFitState}
use Rattle.tv_laws.proofs.DragLemmas.{dropped-cases}
use Rattle.tv_answers.proofs.AllowedLemmas.{IsByUser}

-- the leaves of a dialog stand as before, and no end is logged
abbrev pub StandsOpen : OpenDialog → State → Type 0
StandsOpen o t = All IsNoEnd t.log × ((x : OpenDialog) → t.dialog ≡ Some x → x.leaves ≡ o.leaves)

module _ (d : Desc) (s : State) (f : IsFitState d s) (o : OpenDialog) (some : s.dialog ≡ Some o) (dialog : Dialog) (there : slice_get d.dialogs o.place ≡ Some dialog) where
  abbrev pub quiet : State
  quiet = with_empty_log s

  module _ (e : Event) (Worked : Modal → Type 0) (Comes : State → Type 0) (works_so : (m : Modal) → Worked m → Comes (after_work quiet o m m.ended)) (stands_so : (t : State) → StandsOpen o t → Comes t)
      (steps : (corner : Point) → IsByUser e → Worked (dialog_step dialog (event_from corner e) (modal_of s o)))
      (commands : (number : ℕ) → enabled_in d s.dialog number ≡ true → Worked (command dialog number (modal_of s o))) where
    same_leaves : (x : OpenDialog) → s.dialog ≡ Some x → x.leaves ≡ o.leaves
    same_leaves x is = (let both : Some x ≡ Some o = sym is ∙ some in let same : x ≡ o = cc in ap (λ (y : OpenDialog). y.leaves) same)

    still : Comes quiet
    still = stands_so quiet (All-nil IsNoEnd, same_leaves)

    -- ---- the work of the open dialog

    dialog_comes : (work : Dialog → Modal → Modal) → Worked (work dialog (modal_of s o)) → Comes (in_dialog d quiet o work)
    dialog_comes work worked = subst (λ found. Comes (works quiet o work found)) (sym there) (works_so (work dialog (modal_of s o)) worked)

    to_dialog_comes : IsByUser e → Comes (to_dialog d o e quiet)
    to_dialog_comes by = dialog_comes (λ own m. dialog_step own (event_from o.origin e) m) (steps o.origin by)

    grabbed_or : (p : Point) → e ≡ events.Down p → IsByUser e → Comes (down_on_dialog d o p quiet)
    grabbed_or p is by =
        bool_cases (is_grip_of (slice_get d.dialogs o.place) (seen_from o.origin p))
        (λ b. Comes (if b then grabbed o.origin p quiet else to_dialog d o (events.Down p) quiet)) (λ grip. stands_so (grabbed o.origin p quiet) (All-nil IsNoEnd, same_leaves))
        (λ beside. subst (λ (x : Event). Comes (to_dialog d o x quiet)) is (to_dialog_comes by))

    held_by : (x : Event) → e ≡ x → IsByUser x → Comes (step_held d o x quiet)
    held_by (events.Move p) is by = subst (λ (x : Event). Comes (to_dialog d o x quiet)) is (to_dialog_comes (subst IsByUser (sym is) by))
    held_by (events.Up p) is by = subst (λ (x : Event). Comes (to_dialog d o x quiet)) is (to_dialog_comes (subst IsByUser (sym is) by))
    held_by (events.Key k) is by = still
    held_by (events.Down p) is by = still
    held_by (events.Command c) is by = still
    held_by (events.Broadcast c) is by = still

    -- ---- while a frame is held

    placed_stands : (x : Option OpenDialog) (corner : Point) (t : State) → x ≡ Some o → t.log ≡ [] → StandsOpen o (placed x corner t)
    placed_stands None corner t is empty = absurd cc
    placed_stands (Some own) corner t is empty = (
      subst (All IsNoEnd) (sym empty) (All-nil IsNoEnd),
      λ y same. (let first : own ≡ o = cc in let second : record own { origin = corner } ≡ y = cc in sym (ap (λ (z : OpenDialog). z.leaves) second) ∙ ap (λ (z : OpenDialog). z.leaves) first),
    )

    dragged_comes : (frame : HeldFrame) (x : Event) → Comes (step_dragged d frame x quiet)
    dragged_comes frame (events.Move p) = stands_so (placed s.dialog (corner_at d frame p) quiet) (placed_stands s.dialog (corner_at d frame p) quiet some refl)
    dragged_comes frame (events.Up p) =
        let corner = corner_at d frame p in
        let t = placed s.dialog corner (let_go quiet) in
        let calm = placed_stands s.dialog corner (let_go quiet) some refl in
        dropped-cases d Comes frame corner t (stands_so t calm) (λ i. stands_so (with_line_logged (lines.Moved i corner) t) (All-push IsNoEnd t.log (lines.Moved i corner) calm.0 tt, calm.1))
    dragged_comes frame (events.Key k) = still
    dragged_comes frame (events.Down p) = still
    dragged_comes frame (events.Command c) = still
    dragged_comes frame (events.Broadcast c) = still

    -- ---- commands of status items

    command_comes : (number : ℕ) → enabled_in d s.dialog number ≡ true → Comes (do_command d number quiet)
    command_comes number is =
        subst (λ x. Comes (command_by_dialog d number x quiet)) (sym some) (dialog_comes (λ own m. command own number m) (commands number is))

    item_comes : (item : Option StatusItem) → Comes (status_command d item quiet)
    item_comes None = still
    item_comes (Some item) =
        bool_cases (is_item_enabled d quiet item) (λ b. Comes (if b then do_command d (command_number item.command) quiet else quiet))
        (λ enabled. command_comes (command_number item.command) enabled) (λ disabled. still)

    -- ---- keys

    key_below_comes : (k : Key) → e ≡ events.Key k → Comes (key_by_dialog d s.dialog k quiet)
    key_below_comes k is =
        subst (λ x. Comes (key_by_dialog d x k quiet)) (sym some)
        (subst (λ (x : Event). Comes (to_dialog d o x quiet)) is (to_dialog_comes (subst IsByUser (sym is) tt)))

    key_item_comes : (k : Key) → e ≡ events.Key k → Comes (key_by_item d (status_item_of d quiet k) k quiet)
    key_item_comes k is =
        option_cases (status_item_of d quiet k) (λ item. Comes (key_by_item d item k quiet)) (λ none. key_below_comes k is)
        (λ item found.
        command_comes (command_number item.command)
        (and_parts (is_same_key item.key k) (is_item_enabled d quiet item) (found-passes (λ own. is_same_key own.key k && is_item_enabled d quiet own) d.status item found)).1)

    key_comes : (k : Key) → e ≡ events.Key k → Comes (key_by_menu d s.menu k quiet)
    key_comes k is = subst (λ menu. Comes (key_by_menu d menu k quiet)) (sym (f.«open» o some).menu) (key_item_comes k is)

    -- ---- mouse downs

    down_below_comes : (p : Point) → e ≡ events.Down p → Comes (down_by_dialog d s.dialog p quiet)
    down_below_comes p is =
        subst (λ x. Comes (down_by_dialog d x p quiet)) (sym some)
        (bool_cases (is_in (desktop d) p.x p.y) (λ b. Comes (if b then down_on_dialog d o p quiet else quiet)) (λ inside. grabbed_or p is (subst IsByUser (sym is) tt)) (λ outside. still))

    down_row_comes : (p : Point) → e ≡ events.Down p → Comes (down_by_row d p quiet)
    down_row_comes p is =
        bool_cases (is_in (rect (pos 0) (pos 0) d.width d.height) p.x p.y)
        (λ b. Comes (if not b then quiet else if is_status_row d p then status_command d (status_under d p.x) quiet else down_by_dialog d s.dialog p quiet))
        (λ inside. bool_cases (is_status_row d p) (λ b. Comes (if b then status_command d (status_under d p.x) quiet else down_by_dialog d s.dialog p quiet))
        (λ row. item_comes (status_under d p.x)) (λ above. down_below_comes p is))
        (λ outside. still)

    down_comes : (p : Point) → e ≡ events.Down p → Comes (down_by_menu d s.menu p quiet)
    down_comes p is = subst (λ menu. Comes (down_by_menu d menu p quiet)) (sym (f.«open» o some).menu) (down_row_comes p is)

    below_comes : (x : Event) → e ≡ x → Comes (after_event d x quiet)
    below_comes (events.Key k) is = key_comes k is
    below_comes (events.Down p) is = down_comes p is
    below_comes (events.Move p) is = still
    below_comes (events.Up p) is = still
    below_comes (events.Command c) is = still
    below_comes (events.Broadcast c) is = still

    held_comes : (x : Event) → e ≡ x → Comes (step_held d o x quiet)
    held_comes (events.Key k) is = held_by (events.Key k) is tt
    held_comes (events.Down p) is = held_by (events.Down p) is tt
    held_comes (events.Move p) is = held_by (events.Move p) is tt
    held_comes (events.Up p) is = held_by (events.Up p) is tt
    held_comes (events.Command c) is = still
    held_comes (events.Broadcast c) is = still

    -- ---- events

    at_comes : Comes (step_by_hold d (dialog_with_hold s.dialog) e quiet)
    at_comes =
        subst (λ x. Comes (step_by_hold d (dialog_with_hold x) e quiet)) (sym some)
        (bool_cases (is_some o.held) (λ b. Comes (step_by_hold d (if b then Some o else None) e quiet)) (λ holds. held_comes e refl) (λ loose. below_comes e refl))

    pub event_comes : Comes (step d s e)
    event_comes =
        bool_cases s.is_over (λ b. Comes (if b then quiet else step_by_frame d s.frame e quiet)) (λ over. still)
        (λ goes. option_cases s.frame (λ frame. Comes (step_by_frame d frame e quiet)) (λ free. at_comes) (λ frame held. dragged_comes frame e))
