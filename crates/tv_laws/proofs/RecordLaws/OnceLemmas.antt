-- An event of an open dialog logs no end, or it ends the dialog and logs that last.
use Rattle.std.proofs.Common.{List, ◌≡◌, ◌⊎◌, inl, inr, Bool, ◌||◌, ◌==◌, ℕ, if◌then◌else◌, Option, Some, None, refl, All}
use Rattle.std.specs.Prelude.{nat_le}
use Rattle.std.proofs.lemmas.List.Elements.{All-push}
use Rattle.tv_cells.specs.declared.rect.Point.{Point}
use Rattle.tv_event.specs.declared.event.Event.{Event}
use Rattle.tv_event.specs.declared.event.Event.TheVariants as events
use Rattle.tv_event.specs.declared.event.Key.{Key}
use Rattle.tv_event.specs.declared.event.Key.TheVariants as keys
use Rattle.tv_model.specs.declared.node.Id.{Id}
use Rattle.tv_model.specs.declared.node.Node.{Node}
use Rattle.tv_model.specs.Kinds.{behaviour}
use Rattle.tv_model.specs.declared.command.CommandSpec.{CommandSpec}
use Rattle.tv_model.specs.declared.desc.Dialog.{Dialog}
use Rattle.tv_model.specs.declared.log.LogLine.{LogLine}
use Rattle.tv_model.specs.declared.log.LogLine.TheVariants as lines
use Rattle.tv_model.specs.Controls.Shortcut.{item_marking, ClusterKind, Shortcut, NoMark, LinkMark, PressMark, ItemMarks}
use Rattle.tv_model.specs.Kinds.InputLine.{Edit, entered, left}
use Rattle.tv_model.specs.Description.Commands.{command_number, command_of, is_declared}
use Rattle.tv_model.specs.Description.Heads.{dialog_head}
use Rattle.tv_model.specs.Description.Marks.{upper}
use Rattle.tv_model.specs.Description.Names.{meant}
use Rattle.tv_machine.specs.State.{Held, LeafState}
use Rattle.tv_machine.specs.Leaves.{PlacedNode}
use Rattle.tv_model.specs.Controls.Behaviour.{Answer, Becomes, Passed, Presses, Down, Ignores, FocusesLink, Grips, Holds}
use Rattle.tv_machine.specs.Controls.Tables.{key_answer, move_content, up_answer}
use Rattle.tv_machine.specs.Dialog.Ending.{command, end_by, ended, first_invalid, press, pressed_by, shown_invalid}
use Rattle.tv_machine.specs.Dialog.Focus.{Moved, NotFree, Refused, Request, Same, after_request, focus_moved, is_free_at, is_granted, next_free, previous_free, refocused, request, request_then, requested, stops_of}
use Rattle.tv_machine.specs.Dialog.Keys.{alt_keyed, answered, enter_target, focus_keyed, key, keyed, passed_on, press_enabled}
use Rattle.tv_machine.specs.Dialog.Modal.{Modal, content_at, leaf_at, content_put, with_line}
use Rattle.tv_machine.specs.Dialog.Mouse.{button_down, down, down_at, down_by, first_before, focus_and_hold, held_moved, held_up, hold, is_close_mark, is_inside, released, row_on, topmost_leaf}
use Rattle.tv_machine.specs.Dialog.Rules.{is_enabled, is_visible}
use Rattle.tv_machine.specs.Dialog.Shortcuts.{act_on, call_item, called, called_by, marking_leaf, press_item, request_link}
use Rattle.tv_machine.specs.Dialog.Step.{dialog_step, free_step, held_step, step_by}
use Rattle.tv_laws.specs.Records.{IsNoEnd}
use Rattle.tv_machine.proofs.RefocusLemmas.{refocused-keeps}
use Rattle.tv_machine.proofs.ListLemmas.{bool_cases}

-- no end was logged, and the dialog hasn't ended
abbrev pub IsQuiet : Modal → Type 0
IsQuiet m = All IsNoEnd m.log × (m.ended ≡ None)

-- it has ended, with its leaves as they stood, and nothing came after the end
pub record HasEnded (d : Dialog) (leaves : List LeafState) (m : Modal) : Type 0 where
  pub number : ℕ
  pub before : Modal
  pub same : before.leaves ≡ leaves
  pub quiet : IsQuiet before
  pub is : m ≡ ended d number before

-- one or the other
abbrev pub EndsLast : Dialog → List LeafState → Modal → Type 0
EndsLast d leaves m = IsQuiet m ⊎ HasEnded d leaves m

module _ (d : Dialog) where
  quiet_line : (line : LogLine) (m : Modal) → IsNoEnd line → IsQuiet m → IsQuiet (with_line line m)
  quiet_line line m is q = (All-push IsNoEnd m.log line q.0 is, q.1)

  -- ---- the focus

  quiet_refocused : (edit : Edit → Edit) (o : Option PlacedNode) (m : Modal) → IsQuiet m → IsQuiet (refocused d edit o m)
  quiet_refocused edit o m q = refocused-keeps IsQuiet d (λ i c n p. p) edit o m q

  pub quiet-focus : (i : Id) (m : Modal) → IsQuiet m → IsQuiet (focus_moved d i m)
  quiet-focus i m q =
      let n = refocused d left (leaf_at d m.focus) m in
      let r = quiet_refocused entered (leaf_at d i) n (quiet_refocused left (leaf_at d m.focus) m q) in
      (All-push IsNoEnd (refocused d entered (leaf_at d i) n).log (lines.Focus i) r.0 tt, r.1)

  quiet_after : (to : Id) (r : Request) (m : Modal) → IsQuiet m → IsQuiet (after_request d to r m)
  quiet_after to Same m q = q
  quiet_after to NotFree m q = q
  quiet_after to Refused m q = quiet_line (lines.Invalid m.focus) m tt q
  quiet_after to Moved m q = quiet-focus to m q

  quiet_request : (to : Id) (m : Modal) → IsQuiet m → IsQuiet (request d to m)
  quiet_request to m q = quiet_after to (requested d m to) m q

  quiet_then : (to : Id) (follow : Modal → Modal) → ((n : Modal) → IsQuiet n → IsQuiet (follow n)) → (m : Modal) → IsQuiet m
      → IsQuiet (request_then d to follow m)
  quiet_then to follow keeps m q =
      bool_cases (is_granted (requested d m to)) (λ b. IsQuiet (if b then follow (request d to m) else request d to m))
      (λ is. keeps (request d to m) (quiet_request to m q)) (λ is. quiet_request to m q)

  -- ---- commands

  quiet_shown : (i : Id) (m : Modal) → IsQuiet m → IsQuiet (shown_invalid d i m)
  quiet_shown i m q =
      bool_cases (i.0 == m.focus.0) (λ b. IsQuiet (if b then m else if is_free_at d m.leaves i then focus_moved d i m else m)) (λ here. q)
      (λ there. bool_cases (is_free_at d m.leaves i) (λ b. IsQuiet (if b then focus_moved d i m else m)) (λ is. quiet-focus i m q) (λ is. q))

  ends : (number : ℕ) (m : Modal) → IsQuiet m → EndsLast d m.leaves (ended d number m)
  ends number m q = inr (record { number = number; before = m; same = refl; quiet = q; is = refl })

  last_end_by : (number : ℕ) (invalid : Option Id) (m : Modal) → IsQuiet m → EndsLast d m.leaves (end_by d number invalid m)
  last_end_by number None m q = ends number m q
  last_end_by number (Some i) m q = inl (quiet_shown i (with_line (lines.Invalid i) m) (quiet_line (lines.Invalid i) m tt q))

  pub last-command : (number : ℕ) (m : Modal) → IsQuiet m → EndsLast d m.leaves (command d number m)
  last-command number m q =
      bool_cases ((number == 4) || (number == 11))
      (λ b. EndsLast d m.leaves (if b then ended d 11 m else if is_declared (dialog_head d).ends number then end_by d number (first_invalid d m) m
      else if nat_le 100 number then with_line (lines.Command number) m else m))
      (λ is. ends 11 m q)
      (λ other. bool_cases (is_declared (dialog_head d).ends number)
      (λ b. EndsLast d m.leaves (if b then end_by d number (first_invalid d m) m else if nat_le 100 number then with_line (lines.Command number) m else m))
      (λ is. last_end_by number (first_invalid d m) m q)
      (λ none. bool_cases (nat_le 100 number) (λ b. EndsLast d m.leaves (if b then with_line (lines.Command number) m else m))
      (λ own. inl (quiet_line (lines.Command number) m tt q)) (λ low. inl q)))

  last_given : (i : Id) (given : Option CommandSpec) (m : Modal) → IsQuiet m → EndsLast d m.leaves (pressed_by d i given m)
  last_given i None m q = inl q
  last_given i (Some given) m q = last-command (command_number given) (with_line (lines.Press i) m) (quiet_line (lines.Press i) m tt q)

  last_press : (leaf : PlacedNode) (m : Modal) → IsQuiet m → EndsLast d m.leaves (press d leaf m)
  last_press leaf m q = last_given leaf.node.id (command_of leaf.node.kind) m q

  last_enabled : (leaf : PlacedNode) (m : Modal) → IsQuiet m → EndsLast d m.leaves (if is_enabled d m.leaves leaf.node then press d leaf m else m)
  last_enabled leaf m q =
      bool_cases (is_enabled d m.leaves leaf.node) (λ b. EndsLast d m.leaves (if b then press d leaf m else m)) (λ enabled. last_press leaf m q) (λ disabled. inl q)

  -- ---- letters

  quiet_link : (link : Option Node) (m : Modal) → IsQuiet m → IsQuiet (request_link d link m)
  quiet_link None m q = q
  quiet_link (Some node) m q = quiet_request node.id m q

  quiet_item : (kind : ClusterKind) (i : Id) (item : Option ℕ) (m : Modal) → IsQuiet m → IsQuiet (press_item d kind i item m)
  quiet_item kind i None m q = q
  quiet_item kind i (Some item) m q = q

  quiet_call : (kind : ClusterKind) (i : Id) (item : Option ℕ) (m : Modal) → IsQuiet m → IsQuiet (call_item d kind i item m)
  quiet_call kind i item m q = quiet_then i (press_item d kind i item) (quiet_item kind i item) m q

  last_called : (letter : ℕ) (leaf : PlacedNode) (shortcut : Shortcut) (m : Modal) → IsQuiet m → EndsLast d m.leaves (called_by d letter leaf shortcut m)
  last_called letter leaf NoMark m q = inl q
  last_called letter leaf (LinkMark text name) m q = inl (quiet_link (meant d.views name) m q)
  last_called letter leaf (PressMark text name) m q = last_enabled leaf m q
  last_called letter leaf (ItemMarks kind name items) m q = inl (quiet_call kind leaf.node.id (item_marking items letter) m q)

  last_act : (letter : ℕ) (marker : Option PlacedNode) (m : Modal) → IsQuiet m → EndsLast d m.leaves (act_on d letter marker m)
  last_act letter None m q = inl q
  last_act letter (Some leaf) m q =
      bool_cases (is_visible d m.leaves leaf) (λ b. EndsLast d m.leaves (if b then called d letter leaf leaf.node.kind m else m))
      (λ shown. last_called letter leaf (behaviour leaf.node.kind).shortcut m q) (λ hidden. inl q)

  -- ---- keys

  last_passed : (k : Key) (m : Modal) → IsQuiet m → EndsLast d m.leaves (passed_on d k m)
  last_passed (keys.Char ch) m q = last_act (upper ch) (marking_leaf d m.leaves (upper ch)) m q
  last_passed _ m q = inl q

  last_answered : (k : Key) (leaf : PlacedNode) (a : Answer) (m : Modal) → IsQuiet m → EndsLast d m.leaves (answered d k leaf a m)
  last_answered k leaf Passed m q = last_passed k m q
  last_answered k leaf (Becomes c) m q = inl q
  last_answered k leaf Presses m q = last_press leaf m q

  last_keyed : (k : Key) (leaf : Option PlacedNode) (m : Modal) → IsQuiet m → EndsLast d m.leaves (keyed d k leaf m)
  last_keyed k None m q = last_passed k m q
  last_keyed k (Some leaf) m q = last_answered k leaf (key_answer leaf.node.kind k (content_at m leaf.node.id)) m q

  last_focus : (k : Key) (m : Modal) → IsQuiet m → EndsLast d m.leaves (focus_keyed d k m)
  last_focus k m q = last_keyed k (leaf_at d m.focus) m q

  last_enter : (target : Option PlacedNode) (m : Modal) → IsQuiet m → EndsLast d m.leaves (press_enabled d target m)
  last_enter None m q = inl q
  last_enter (Some leaf) m q = last_enabled leaf m q

  last_alt : (letter : ℕ) (marker : Option PlacedNode) (m : Modal) → IsQuiet m → EndsLast d m.leaves (alt_keyed d letter marker m)
  last_alt letter None m q = last_focus (keys.Alt letter) m q
  last_alt letter (Some leaf) m q = last_act letter (Some leaf) m q

  last_key : (k : Key) (m : Modal) → IsQuiet m → EndsLast d m.leaves (key d k m)
  last_key keys.Tab m q = inl (quiet_request (next_free (stops_of d m.leaves) m.focus) m q)
  last_key keys.ShiftTab m q = inl (quiet_request (previous_free (stops_of d m.leaves) m.focus) m q)
  last_key keys.Esc m q = last-command 11 m q
  last_key keys.Enter m q = last_enter (enter_target d m) m q
  last_key (keys.Alt letter) m q = last_alt letter (marking_leaf d m.leaves letter) m q
  last_key k m q = last_focus k m q

  -- ---- the mouse

  quiet_hold : (leaf : PlacedNode) (p : Point) (m : Modal) → IsQuiet m → IsQuiet (focus_and_hold d leaf p m)
  quiet_hold leaf p m q = quiet_then leaf.node.id (hold d leaf (first_before m leaf) p) (λ n r. r) m q

  quiet_button : (leaf : PlacedNode) (grabs : Bool) (p : Point) (m : Modal) → IsQuiet m → IsQuiet (button_down d leaf grabs p m)
  quiet_button leaf grabs p m q =
      bool_cases (is_enabled d m.leaves leaf.node) (λ b. IsQuiet (if b then (if grabs then focus_and_hold d leaf p m else hold d leaf 0 p m) else m))
      (λ enabled. bool_cases grabs (λ b. IsQuiet (if b then focus_and_hold d leaf p m else hold d leaf 0 p m)) (λ grab. quiet_hold leaf p m q) (λ stay. q)) (λ disabled. q)

  quiet_down : (leaf : PlacedNode) (asks : Down) (p : Point) (m : Modal) → IsQuiet m → IsQuiet (down_by d leaf asks p m)
  quiet_down leaf Ignores p m q = q
  quiet_down leaf (FocusesLink name) p m q = quiet_link (meant d.views name) m q
  quiet_down leaf (Grips grabs) p m q = quiet_button leaf grabs p m q
  quiet_down leaf Holds p m q = quiet_hold leaf p m q

  quiet_at : (leaf : Option PlacedNode) (p : Point) (m : Modal) → IsQuiet m → IsQuiet (down_at d leaf p m)
  quiet_at None p m q = q
  quiet_at (Some leaf) p m q = quiet_down leaf (behaviour leaf.node.kind).down p m q

  last_down : (p : Point) (m : Modal) → IsQuiet m → EndsLast d m.leaves (down d p m)
  last_down p m q =
      bool_cases (is_close_mark p) (λ b. EndsLast d m.leaves (if b then command d 4 m else down_at d (topmost_leaf d m p) p m)) (λ mark. last-command 4 m q)
      (λ inside. inl (quiet_at (topmost_leaf d m p) p m q))

  quiet_move : (leaf : Option PlacedNode) (p : Point) (m : Modal) → IsQuiet m → IsQuiet (held_moved d leaf p m)
  quiet_move None p m q = q
  quiet_move (Some leaf) p m q =
      bool_cases (is_inside leaf p)
      (λ b. IsQuiet (if b then content_put d leaf.node.id (move_content leaf.node.kind (row_on leaf p) (content_at m leaf.node.id)) m else m)) (λ inside. q) (λ outside. q)

  last_released : (leaf : PlacedNode) (a : Answer) (m : Modal) → IsQuiet m → EndsLast d m.leaves (released d leaf a m)
  last_released leaf Passed m q = inl q
  last_released leaf (Becomes c) m q = inl q
  last_released leaf Presses m q = last_press leaf m q

  last_up : (leaf : Option PlacedNode) (item : ℕ) (p : Point) (m : Modal) → IsQuiet m → EndsLast d m.leaves (held_up d leaf item p m)
  last_up None item p m q = inl q
  last_up (Some leaf) item p m q =
      let n : Modal = record m { held = None } in
      let a = up_answer leaf.node.kind item (row_on leaf p) (content_at m leaf.node.id) in
      bool_cases (is_inside leaf p) (λ b. EndsLast d m.leaves (if b then released d leaf a n else n)) (λ inside. last_released leaf a n q) (λ outside. inl q)

  -- ---- events

  last_held : (held : Held) (e : Event) (m : Modal) → IsQuiet m → EndsLast d m.leaves (held_step d held e m)
  last_held held (events.Key k) m q = inl q
  last_held held (events.Down p) m q = inl q
  last_held held (events.Move p) m q = inl (quiet_move (leaf_at d held.id) p m q)
  last_held held (events.Up p) m q = last_up (leaf_at d held.id) held.item p m q
  last_held held (events.Command c) m q = last-command c.0 m q
  last_held held (events.Broadcast c) m q = inl q

  last_free : (e : Event) (m : Modal) → IsQuiet m → EndsLast d m.leaves (free_step d e m)
  last_free (events.Key k) m q = last_key k m q
  last_free (events.Down p) m q = last_down p m q
  last_free (events.Move p) m q = inl q
  last_free (events.Up p) m q = inl q
  last_free (events.Command c) m q = last-command c.0 m q
  last_free (events.Broadcast c) m q = inl q

  last_by : (held : Option Held) (e : Event) (m : Modal) → IsQuiet m → EndsLast d m.leaves (step_by d held e m)
  last_by None e m q = last_free e m q
  last_by (Some held) e m q = last_held held e m q

  -- an event of the dialog
  pub last-step : (e : Event) (m : Modal) → IsQuiet m → EndsLast d m.leaves (dialog_step d e m)
  last-step e m q = last_by m.held e m q
