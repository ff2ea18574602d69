-- An open dialog ends by `cancel`, or by a command that its rules enable as its leaves stood before the event.
use Rattle.std.proofs.Common.{◌≡◌, Bool, true, false, ◌&&◌, ◌||◌, ◌==◌, ℕ, if◌then◌else◌, List, ◌∷◌, map, Option, Some, None, refl, sym, ap, subst, ◌∙◌, All}
use Rattle.std.specs.Prelude.{nat_le}
use Rattle.std.proofs.lemmas.Bool.{and_parts, false≢true, true≢false}
use Rattle.std.proofs.lemmas.List.Elements.{All-append, All-cons, All-map, All-push}
use Rattle.tv_cells.specs.declared.rect.Point.{Point}
use Rattle.tv_event.specs.declared.event.Event.{Event}
use Rattle.tv_event.specs.declared.event.Event.TheVariants as events
use Rattle.tv_event.specs.declared.event.Key.{Key}
use Rattle.tv_event.specs.declared.event.Key.TheVariants as keys
use Rattle.tv_model.specs.declared.desc.Dialog.{Dialog}
use Rattle.tv_model.specs.declared.log.LogLine.{LogLine}
use Rattle.tv_model.specs.declared.log.LogLine.TheVariants as lines
use Rattle.tv_model.specs.declared.node.Id.{Id}
use Rattle.tv_model.specs.declared.node.Node.{Node}
use Rattle.tv_model.specs.Controls.Behaviour.{Answer, Becomes, Passed, Presses, Down, Ignores, FocusesLink, Grips, Holds}
use Rattle.tv_model.specs.Controls.Shortcut.{item_marking, ClusterKind, Shortcut, NoMark, LinkMark, PressMark, ItemMarks}
use Rattle.tv_model.specs.Description.Commands.{command_number, command_of, is_declared}
use Rattle.tv_model.specs.Description.Heads.{dialog_head}
use Rattle.tv_model.specs.Description.Marks.{upper}
use Rattle.tv_model.specs.Description.Names.{meant}
use Rattle.tv_model.specs.Description.Nodes.{is_control}
use Rattle.tv_model.specs.Kinds.{behaviour}
use Rattle.tv_model.specs.Kinds.InputLine.{Edit, entered, left}
use Rattle.tv_machine.specs.State.{Held, LeafState}
use Rattle.tv_machine.specs.Leaves.{PlacedNode}
use Rattle.tv_machine.specs.Controls.Tables.{key_answer, move_content, up_answer}
use Rattle.tv_machine.specs.Dialog.Ending.{end_by, ended, field_line, fields_of, first_invalid, press, pressed_by, command, shown_invalid}
use Rattle.tv_machine.specs.Dialog.Focus.{Moved, NotFree, Refused, Request, Same, after_request, focus_moved, is_free_at, is_free_leaf, is_granted, next_free, previous_free, refocused, request, request_then, requested, stops_of}
use Rattle.tv_machine.specs.Dialog.Keys.{alt_keyed, answered, enter_target, focus_keyed, key, keyed, passed_on, press_enabled}
use Rattle.tv_machine.specs.Dialog.Modal.{Modal, content_at, content_put, leaf_at, with_line}
use Rattle.tv_machine.specs.Dialog.Mouse.{button_down, down, down_at, down_by, first_before, focus_and_hold, held_moved, held_up, hold, is_close_mark, is_inside, released, row_on, topmost_leaf}
use Rattle.tv_machine.specs.Dialog.Rules.{is_command_enabled, is_enabled, is_enabled_by, is_visible}
use Rattle.tv_machine.specs.Dialog.Shortcuts.{act_on, called, called_by, marking_leaf, press_item, request_link}
use Rattle.tv_machine.specs.Dialog.Step.{dialog_step, free_step, held_step, step_by}
use Rattle.tv_machine.proofs.ListLemmas.{bool_cases, option_cases}
use Rattle.tv_machine.proofs.RefocusLemmas.{refocused-keeps}
use Rattle.tv_laws.specs.Fit.{IsFitHold, IsFitModal}

module _ (d : Dialog) (leaves : List LeafState) where
  -- the command is `cancel`, or enabled
  abbrev pub IsAllowed : ℕ → Type 0
  IsAllowed number = (number == 11) ≡ false → is_command_enabled d leaves number ≡ true

  -- an `end` line has such a command
  abbrev pub IsAllowedLine : LogLine → Type 0
  IsAllowedLine (lines.End i given) = IsAllowed given.0
  IsAllowedLine _ = Unit {0}

  abbrev C : Modal → Type 0
  C m = All IsAllowedLine m.log

  -- the leaves stand as before the event
  abbrev Stands : Modal → Type 0
  Stands m = m.leaves ≡ leaves

  line : (l : LogLine) (m : Modal) → IsAllowedLine l → C m → C (with_line l m)
  line l m is c = All-push IsAllowedLine m.log l c is

  -- ---- the focus

  refocus : (edit : Edit → Edit) (o : Option PlacedNode) (m : Modal) → C m → C (refocused d edit o m)
  refocus edit o m c = refocused-keeps C d (λ i content n p. p) edit o m c

  focus : (i : Id) (m : Modal) → C m → C (focus_moved d i m)
  focus i m c =
      let n = refocused d left (leaf_at d m.focus) m in
      All-push IsAllowedLine (refocused d entered (leaf_at d i) n).log (lines.Focus i) (refocus entered (leaf_at d i) n (refocus left (leaf_at d m.focus) m c)) tt

  after : (to : Id) (r : Request) (m : Modal) → C m → C (after_request d to r m)
  after to Same m c = c
  after to NotFree m c = c
  after to Refused m c = line (lines.Invalid m.focus) m tt c
  after to Moved m c = focus to m c

  ask : (to : Id) (m : Modal) → C m → C (request d to m)
  ask to m c = after to (requested d m to) m c

  then_follow : (to : Id) (follow : Modal → Modal) → ((n : Modal) → C n → C (follow n)) → (m : Modal) → C m → C (request_then d to follow m)
  then_follow to follow keeps m c =
      bool_cases (is_granted (requested d m to)) (λ b. C (if b then follow (request d to m) else request d to m)) (λ is. keeps (request d to m) (ask to m c)) (λ is. ask to m c)

  -- ---- commands

  shown : (i : Id) (m : Modal) → C m → C (shown_invalid d i m)
  shown i m c =
      bool_cases (i.0 == m.focus.0) (λ b. C (if b then m else if is_free_at d m.leaves i then focus_moved d i m else m)) (λ here. c)
      (λ there. bool_cases (is_free_at d m.leaves i) (λ b. C (if b then focus_moved d i m else m)) (λ is. focus i m c) (λ is. c))

  at_end : (number : ℕ) (m : Modal) → IsAllowed number → C m → C (ended d number m)
  at_end number m allowed c =
      let fields = map field_line (fields_of m.leaves) in
      let last : LogLine = lines.End d.node.id (record { 0 = number }) in
      All-append IsAllowedLine m.log (last ∷ fields) c (All-cons IsAllowedLine last fields allowed (All-map IsAllowedLine field_line (fields_of m.leaves) (λ k e h. tt)))

  ending : (number : ℕ) (invalid : Option Id) (m : Modal) → IsAllowed number → C m → C (end_by d number invalid m)
  ending number None m allowed c = at_end number m allowed c
  ending number (Some i) m allowed c = shown i (with_line (lines.Invalid i) m) (line (lines.Invalid i) m tt c)

  pub commanded : (number : ℕ) (m : Modal) → IsAllowed number → C m → C (command d number m)
  commanded number m allowed c =
      bool_cases ((number == 4) || (number == 11))
      (λ b. C (if b then ended d 11 m else if is_declared (dialog_head d).ends number then end_by d number (first_invalid d m) m else if nat_le 100 number then with_line (lines.Command number) m else m))
      (λ is. at_end 11 m (λ other. absurd (true≢false other)) c)
      (λ other. bool_cases (is_declared (dialog_head d).ends number) (λ b. C (if b then end_by d number (first_invalid d m) m else if nat_le 100 number then with_line (lines.Command number) m else m))
      (λ is. ending number (first_invalid d m) m allowed c)
      (λ none. bool_cases (nat_le 100 number) (λ b. C (if b then with_line (lines.Command number) m else m)) (λ own. line (lines.Command number) m tt c) (λ low. c)))

  -- a button that is enabled
  pressing : (leaf : PlacedNode) (m : Modal) → is_enabled d leaves leaf.node ≡ true → C m → C (press d leaf m)
  pressing leaf m enabled c =
      option_cases (command_of leaf.node.kind) (λ o. is_enabled_by d leaves o ≡ true → C (pressed_by d leaf.node.id o m)) (λ none e. c)
      (λ given is e. commanded (command_number given) (with_line (lines.Press leaf.node.id) m) (λ other. e) (line (lines.Press leaf.node.id) m tt c)) enabled

  enabled_press : (leaf : PlacedNode) (m : Modal) → Stands m → C m → C (if is_enabled d m.leaves leaf.node then press d leaf m else m)
  enabled_press leaf m stands c =
      bool_cases (is_enabled d m.leaves leaf.node) (λ b. C (if b then press d leaf m else m))
      (λ enabled. pressing leaf m (ap (λ ls. is_enabled d ls leaf.node) (sym stands) ∙ enabled) c) (λ disabled. c)

  -- ---- letters

  linked : (link : Option Node) (m : Modal) → C m → C (request_link d link m)
  linked None m c = c
  linked (Some node) m c = ask node.id m c

  item_pressed : (kind : ClusterKind) (i : Id) (item : Option ℕ) (m : Modal) → C m → C (press_item d kind i item m)
  item_pressed kind i None m c = c
  item_pressed kind i (Some item) m c = c

  calls : (letter : ℕ) (leaf : PlacedNode) (shortcut : Shortcut) (m : Modal) → Stands m → C m → C (called_by d letter leaf shortcut m)
  calls letter leaf NoMark m stands c = c
  calls letter leaf (LinkMark text name) m stands c = linked (meant d.views name) m c
  calls letter leaf (PressMark text name) m stands c = enabled_press leaf m stands c
  calls letter leaf (ItemMarks kind name items) m stands c =
      then_follow leaf.node.id (press_item d kind leaf.node.id (item_marking items letter)) (item_pressed kind leaf.node.id (item_marking items letter)) m c

  acts : (letter : ℕ) (marker : Option PlacedNode) (m : Modal) → Stands m → C m → C (act_on d letter marker m)
  acts letter None m stands c = c
  acts letter (Some leaf) m stands c =
      bool_cases (is_visible d m.leaves leaf) (λ b. C (if b then called d letter leaf leaf.node.kind m else m))
      (λ seen. calls letter leaf (behaviour leaf.node.kind).shortcut m stands c) (λ hidden. c)

  -- ---- keys

  passes : (k : Key) (m : Modal) → Stands m → C m → C (passed_on d k m)
  passes (keys.Char ch) m stands c = acts (upper ch) (marking_leaf d m.leaves (upper ch)) m stands c
  passes _ m stands c = c

  answers : (k : Key) (leaf : PlacedNode) (a : Answer) (m : Modal) → is_enabled d leaves leaf.node ≡ true → Stands m → C m → C (answered d k leaf a m)
  answers k leaf Passed m enabled stands c = passes k m stands c
  answers k leaf (Becomes content) m enabled stands c = c
  answers k leaf Presses m enabled stands c = pressing leaf m enabled c

  keys_to : (k : Key) (leaf : Option PlacedNode) (m : Modal) → is_free_leaf d leaves leaf ≡ true → Stands m → C m → C (keyed d k leaf m)
  keys_to k None m is_free stands c = absurd (false≢true is_free)
  keys_to k (Some leaf) m is_free stands c =
      let seen = and_parts (is_control leaf.node.kind) (is_visible d leaves leaf && is_enabled d leaves leaf.node) is_free in
      answers k leaf (key_answer leaf.node.kind k (content_at m leaf.node.id)) m (and_parts (is_visible d leaves leaf) (is_enabled d leaves leaf.node) seen.1).1 stands c

  module _ (m : Modal) (stands : Stands m) (on_free : is_free_at d leaves m.focus ≡ true) (c : C m) where
    focus_key : (k : Key) → C (focus_keyed d k m)
    focus_key k = keys_to k (leaf_at d m.focus) m on_free stands c

    enters : (target : Option PlacedNode) → C (press_enabled d target m)
    enters None = c
    enters (Some leaf) = enabled_press leaf m stands c

    alt_key : (letter : ℕ) (marker : Option PlacedNode) → C (alt_keyed d letter marker m)
    alt_key letter None = focus_key (keys.Alt letter)
    alt_key letter (Some leaf) = acts letter (Some leaf) m stands c

    by_key : (k : Key) → C (key d k m)
    by_key keys.Tab = ask (next_free (stops_of d m.leaves) m.focus) m c
    by_key keys.ShiftTab = ask (previous_free (stops_of d m.leaves) m.focus) m c
    by_key keys.Esc = commanded 11 m (λ other. absurd (true≢false other)) c
    by_key keys.Enter = enters (enter_target d m)
    by_key (keys.Alt letter) = alt_key letter (marking_leaf d m.leaves letter)
    by_key k = focus_key k

  -- ---- the mouse

  holds_focus : (leaf : PlacedNode) (p : Point) (m : Modal) → C m → C (focus_and_hold d leaf p m)
  holds_focus leaf p m c = then_follow leaf.node.id (hold d leaf (first_before m leaf) p) (λ n r. r) m c

  on_button : (leaf : PlacedNode) (grabs : Bool) (p : Point) (m : Modal) → C m → C (button_down d leaf grabs p m)
  on_button leaf grabs p m c =
      bool_cases (is_enabled d m.leaves leaf.node) (λ b. C (if b then (if grabs then focus_and_hold d leaf p m else hold d leaf 0 p m) else m))
      (λ enabled. bool_cases grabs (λ b. C (if b then focus_and_hold d leaf p m else hold d leaf 0 p m)) (λ grab. holds_focus leaf p m c) (λ stay. c)) (λ disabled. c)

  downs : (leaf : PlacedNode) (asks : Down) (p : Point) (m : Modal) → C m → C (down_by d leaf asks p m)
  downs leaf Ignores p m c = c
  downs leaf (FocusesLink name) p m c = linked (meant d.views name) m c
  downs leaf (Grips grabs) p m c = on_button leaf grabs p m c
  downs leaf Holds p m c = holds_focus leaf p m c

  downs_at : (leaf : Option PlacedNode) (p : Point) (m : Modal) → C m → C (down_at d leaf p m)
  downs_at None p m c = c
  downs_at (Some leaf) p m c = downs leaf (behaviour leaf.node.kind).down p m c

  by_down : (p : Point) (m : Modal) → C m → C (down d p m)
  by_down p m c =
      bool_cases (is_close_mark p) (λ b. C (if b then command d 4 m else down_at d (topmost_leaf d m p) p m))
      (λ mark. at_end 11 m (λ other. absurd (true≢false other)) c) (λ inside. downs_at (topmost_leaf d m p) p m c)

  by_move : (leaf : Option PlacedNode) (p : Point) (m : Modal) → C m → C (held_moved d leaf p m)
  by_move None p m c = c
  by_move (Some leaf) p m c =
      bool_cases (is_inside leaf p) (λ b. C (if b then content_put d leaf.node.id (move_content leaf.node.kind (row_on leaf p) (content_at m leaf.node.id)) m else m)) (λ inside. c) (λ outside. c)

  releases : (leaf : PlacedNode) (a : Answer) (m : Modal) → is_enabled d leaves leaf.node ≡ true → C m → C (released d leaf a m)
  releases leaf Passed m enabled c = c
  releases leaf (Becomes content) m enabled c = c
  releases leaf Presses m enabled c = pressing leaf m enabled c

  by_up : (leaf : PlacedNode) (item : ℕ) (p : Point) (m : Modal) → is_enabled d leaves leaf.node ≡ true → C m → C (held_up d (Some leaf) item p m)
  by_up leaf item p m enabled c =
      let n : Modal = record m { held = None } in
      let a = up_answer leaf.node.kind item (row_on leaf p) (content_at m leaf.node.id) in
      bool_cases (is_inside leaf p) (λ b. C (if b then released d leaf a n else n)) (λ inside. releases leaf a n enabled c) (λ outside. c)

-- ---- events

-- no command is handed in
abbrev pub IsByUser : Event → Type 0
IsByUser (events.Command given) = ⊥
IsByUser _ = Unit {0}

module _ (d : Dialog) (m : Modal) (fit : IsFitModal d m) (none : All (IsAllowedLine d m.leaves) m.log) where
  abbrev Ends : Modal → Type 0
  Ends n = All (IsAllowedLine d m.leaves) n.log

  while_held : (held : Held) (h : IsFitHold d m held) (e : Event) → IsByUser e → Ends (held_step d held e m)
  while_held held h (events.Key k) by = none
  while_held held h (events.Down p) by = none
  while_held held h (events.Move p) by = by_move d m.leaves (leaf_at d held.id) p m none
  while_held held h (events.Up p) by = subst (λ o. Ends (held_up d o held.item p m)) (sym h.there) (by_up d m.leaves h.leaf held.item p m h.enabled none)
  while_held held h (events.Command given) by = absurd by
  while_held held h (events.Broadcast given) by = none

  while_free : (e : Event) → IsByUser e → Ends (free_step d e m)
  while_free (events.Key k) by = by_key d m.leaves m refl fit.focus none k
  while_free (events.Down p) by = by_down d m.leaves p m none
  while_free (events.Move p) by = none
  while_free (events.Up p) by = none
  while_free (events.Command given) by = absurd by
  while_free (events.Broadcast given) by = none

  by_hold : (held : Option Held) → m.held ≡ held → (e : Event) → IsByUser e → Ends (step_by d held e m)
  by_hold None is e by = while_free e by
  by_hold (Some held) is e by = while_held held (fit.held held is) e by

  pub step_allowed : (e : Event) → IsByUser e → Ends (dialog_step d e m)
  step_allowed e by = by_hold m.held refl e by
