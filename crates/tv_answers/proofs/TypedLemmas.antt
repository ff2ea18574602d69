-- The texts in an open dialog stay of characters, whatever event comes that types no other numbers.
use lib.Utf8.{scalars}
use Rattle.std.proofs.Common.{◌≡◌, Bool, ◌||◌, ◌==◌, ℕ, if◌then◌else◌, List, [], ◌∷◌, map, Option, Some, None, refl, ap, ◌∙◌, All}
use Rattle.std.specs.Prelude.{nat_le}
use Rattle.std.proofs.lemmas.List.Elements.{All-cons, All-head, All-nil, All-tail}
use Rattle.tv_cells.specs.declared.rect.Point.{Point}
use Rattle.tv_event.specs.declared.event.Event.{Event}
use Rattle.tv_event.specs.declared.event.Event.TheVariants as events
use Rattle.tv_event.specs.declared.event.Key.{Key}
use Rattle.tv_event.specs.declared.event.Key.TheVariants as keys
use Rattle.tv_model.specs.declared.desc.Dialog.{Dialog}
use Rattle.tv_model.specs.declared.log.LogLine.TheVariants as lines
use Rattle.tv_model.specs.declared.node.Id.{Id}
use Rattle.tv_model.specs.declared.node.Node.{Node}
use Rattle.tv_model.specs.Controls.Behaviour.{Answer, Becomes, Passed, Presses, Down, Ignores, FocusesLink, Grips, Holds}
use Rattle.tv_model.specs.Controls.Contents.{Content}
use Rattle.tv_model.specs.Controls.Shortcut.{item_marking, ClusterKind, Shortcut, NoMark, LinkMark, PressMark, ItemMarks}
use Rattle.tv_model.specs.Description.Commands.{command_number, command_of, is_declared}
use Rattle.tv_model.specs.Description.Heads.{dialog_head}
use Rattle.tv_model.specs.Description.Marks.{upper}
use Rattle.tv_model.specs.Description.Names.{meant}
use Rattle.tv_model.specs.Kinds.{behaviour}
use Rattle.tv_model.specs.Kinds.Cluster.{cluster_item_pressed}
use Rattle.tv_model.specs.Kinds.InputLine.{Edit, edit_content, edit_of, entered, left}
use Rattle.tv_machine.specs.State.{Held, LeafState}
use Rattle.tv_machine.specs.Leaves.{PlacedNode, leaf_list}
use Rattle.tv_machine.specs.Controls.Tables.{down_content, key_answer, move_content, up_answer}
use Rattle.tv_machine.specs.Dialog.Ending.{command, end_by, ended, first_invalid, press, pressed_by, shown_invalid}
use Rattle.tv_machine.specs.Dialog.Focus.{Moved, NotFree, Refused, Request, Same, after_request, edited_at, focus_moved, is_free_at, is_granted, next_free, previous_free, refocused, request, request_then, requested, stops_of}
use Rattle.tv_machine.specs.Dialog.Keys.{alt_keyed, answered, enter_target, focus_keyed, key, keyed, passed_on, press_enabled}
use Rattle.tv_machine.specs.Dialog.Modal.{Modal, content_at, content_put, holding, leaf_at, with_line}
use Rattle.tv_machine.specs.Dialog.Mouse.{button_down, column_on, down, down_at, down_by, first_before, focus_and_hold, held_moved, held_up, hold, is_close_mark, is_inside, released, row_on, topmost_leaf}
use Rattle.tv_machine.specs.Dialog.Rules.{content_by, is_among, is_enabled, is_visible, state_of}
use Rattle.tv_machine.specs.Dialog.Shortcuts.{act_on, called, called_by, marking_leaf, press_item, request_link}
use Rattle.tv_machine.specs.Dialog.Step.{dialog_step, free_step, held_step, step_by}
use Rattle.tv_machine.proofs.LeafLemmas.{leaf_at-all}
use Rattle.tv_machine.proofs.ListLemmas.{bool_cases, found-all, option_cases}
use Rattle.tv_answers.specs.Laws.{EventTypes, KeyTypes}
use Rattle.tv_answers.proofs.CharacterLemmas.{AnswerHasChars, InputHasChars, ValueHasChars, all_scalar, down_chars, key_chars, move_chars, pressed_chars, text_chars, up_chars}

-- the value of a leaf is of characters, if it is a text
abbrev pub LeafHasChars : LeafState → Type 0
LeafHasChars leaf = ValueHasChars leaf.value

module _ (d : Dialog) (own : All (λ leaf. InputHasChars leaf.node.kind) (leaf_list d.views)) where
  abbrev T : Modal → Type 0
  T m = All LeafHasChars m.leaves

  -- ---- what leaves hold

  by_state : (overwrites : Bool) (o : Option LeafState) → ((leaf : LeafState) → o ≡ Some leaf → LeafHasChars leaf) → ValueHasChars (content_by overwrites o).value
  by_state overwrites None has = tt
  by_state overwrites (Some leaf) has = has leaf refl

  holds_chars : (m : Modal) (i : Id) → T m → ValueHasChars (content_at m i).value
  holds_chars m i t = by_state (is_among m.overwriting i) (state_of m.leaves i) (λ leaf is. found-all LeafHasChars (λ other. other.id.0 == i.0) m.leaves leaf t is)

  holding_chars : (i : Id) (c : Content) (leaves : List LeafState) → ValueHasChars c.value → All LeafHasChars leaves → All LeafHasChars (map (holding i c) leaves)
  holding_chars i c [] has all = All-nil LeafHasChars
  holding_chars i c (leaf ∷ leaves) has all =
      All-cons LeafHasChars (holding i c leaf) (map (holding i c) leaves)
      (bool_cases (leaf.id.0 == i.0) (λ b. LeafHasChars (if b then record leaf { value = c.value; private = c.private } else leaf)) (λ here. has) (λ other. All-head LeafHasChars leaf leaves all))
      (holding_chars i c leaves has (All-tail LeafHasChars leaf leaves all))

  put : (i : Id) (c : Content) (m : Modal) → ValueHasChars c.value → T m → T (content_put d i c m)
  put i c m has t = holding_chars i c m.leaves has t

  -- ---- the focus

  edit_put : (edit : Edit → Edit) → ((e : Edit) → (edit e).text ≡ e.text) → (i : Id) (m : Modal) → T m → T (edited_at d i edit m)
  edit_put edit same i m t =
      let e : Edit = edit_of (content_at m i) in
      put i (edit_content (edit e)) m (ap scalars (same e) ∙ all_scalar e.text (text_chars (content_at m i).value (holds_chars m i t))) t

  refocus : (edit : Edit → Edit) → ((e : Edit) → (edit e).text ≡ e.text) → (o : Option PlacedNode) (m : Modal) → T m → T (refocused d edit o m)
  refocus edit same None m t = t
  refocus edit same (Some leaf) m t =
      bool_cases (behaviour leaf.node.kind).is_edited (λ b. T (if b then edited_at d leaf.node.id edit m else m)) (λ is. edit_put edit same leaf.node.id m t) (λ is. t)

  focus : (i : Id) (m : Modal) → T m → T (focus_moved d i m)
  focus i m t = refocus entered (λ e. refl) (leaf_at d i) (refocused d left (leaf_at d m.focus) m) (refocus left (λ e. refl) (leaf_at d m.focus) m t)

  after : (to : Id) (r : Request) (m : Modal) → T m → T (after_request d to r m)
  after to Same m t = t
  after to NotFree m t = t
  after to Refused m t = t
  after to Moved m t = focus to m t

  ask : (to : Id) (m : Modal) → T m → T (request d to m)
  ask to m t = after to (requested d m to) m t

  then_follow : (to : Id) (follow : Modal → Modal) → ((n : Modal) → T n → T (follow n)) → (m : Modal) → T m → T (request_then d to follow m)
  then_follow to follow keeps m t =
      bool_cases (is_granted (requested d m to)) (λ b. T (if b then follow (request d to m) else request d to m)) (λ is. keeps (request d to m) (ask to m t)) (λ is. ask to m t)

  -- ---- commands

  shown : (i : Id) (m : Modal) → T m → T (shown_invalid d i m)
  shown i m t =
      bool_cases (i.0 == m.focus.0) (λ b. T (if b then m else if is_free_at d m.leaves i then focus_moved d i m else m)) (λ here. t)
      (λ there. bool_cases (is_free_at d m.leaves i) (λ b. T (if b then focus_moved d i m else m)) (λ is. focus i m t) (λ is. t))

  ending : (number : ℕ) (invalid : Option Id) (m : Modal) → T m → T (end_by d number invalid m)
  ending number None m t = t
  ending number (Some i) m t = shown i (with_line (lines.Invalid i) m) t

  pub commanded : (number : ℕ) (m : Modal) → T m → T (command d number m)
  commanded number m t =
      bool_cases ((number == 4) || (number == 11))
      (λ b. T (if b then ended d 11 m else if is_declared (dialog_head d).ends number then end_by d number (first_invalid d m) m else if nat_le 100 number then with_line (lines.Command number) m else m))
      (λ is. t)
      (λ other. bool_cases (is_declared (dialog_head d).ends number) (λ b. T (if b then end_by d number (first_invalid d m) m else if nat_le 100 number then with_line (lines.Command number) m else m))
      (λ is. ending number (first_invalid d m) m t)
      (λ none. bool_cases (nat_le 100 number) (λ b. T (if b then with_line (lines.Command number) m else m)) (λ own. t) (λ low. t)))

  pressing : (leaf : PlacedNode) (m : Modal) → T m → T (press d leaf m)
  pressing leaf m t =
      option_cases (command_of leaf.node.kind) (λ o. T (pressed_by d leaf.node.id o m)) (λ none. t) (λ given is. commanded (command_number given) (with_line (lines.Press leaf.node.id) m) t)

  enabled_press : (leaf : PlacedNode) (m : Modal) → T m → T (if is_enabled d m.leaves leaf.node then press d leaf m else m)
  enabled_press leaf m t = bool_cases (is_enabled d m.leaves leaf.node) (λ b. T (if b then press d leaf m else m)) (λ enabled. pressing leaf m t) (λ disabled. t)

  -- ---- letters

  linked : (link : Option Node) (m : Modal) → T m → T (request_link d link m)
  linked None m t = t
  linked (Some node) m t = ask node.id m t

  item_pressed : (kind : ClusterKind) (i : Id) (item : Option ℕ) (m : Modal) → T m → T (press_item d kind i item m)
  item_pressed kind i None m t = t
  item_pressed kind i (Some item) m t = put i (cluster_item_pressed kind item (content_at m i)) m (pressed_chars kind item (content_at m i) (holds_chars m i t)) t

  calls : (letter : ℕ) (leaf : PlacedNode) (shortcut : Shortcut) (m : Modal) → T m → T (called_by d letter leaf shortcut m)
  calls letter leaf NoMark m t = t
  calls letter leaf (LinkMark text name) m t = linked (meant d.views name) m t
  calls letter leaf (PressMark text name) m t = enabled_press leaf m t
  calls letter leaf (ItemMarks kind name items) m t =
      then_follow leaf.node.id (press_item d kind leaf.node.id (item_marking items letter)) (item_pressed kind leaf.node.id (item_marking items letter)) m t

  acts : (letter : ℕ) (marker : Option PlacedNode) (m : Modal) → T m → T (act_on d letter marker m)
  acts letter None m t = t
  acts letter (Some leaf) m t =
      bool_cases (is_visible d m.leaves leaf) (λ b. T (if b then called d letter leaf leaf.node.kind m else m)) (λ seen. calls letter leaf (behaviour leaf.node.kind).shortcut m t) (λ hidden. t)

  -- ---- keys

  passes : (k : Key) (m : Modal) → T m → T (passed_on d k m)
  passes (keys.Char ch) m t = acts (upper ch) (marking_leaf d m.leaves (upper ch)) m t
  passes _ m t = t

  answers : (k : Key) (leaf : PlacedNode) (a : Answer) (m : Modal) → AnswerHasChars a → T m → T (answered d k leaf a m)
  answers k leaf Passed m has t = passes k m t
  answers k leaf (Becomes content) m has t = put leaf.node.id content m has t
  answers k leaf Presses m has t = pressing leaf m t

  -- the leaf may fill in characters alone, if it is one
  abbrev IfFills : Option PlacedNode → Type 0
  IfFills None = Unit {0}
  IfFills (Some leaf) = InputHasChars leaf.node.kind

  leaf_fills : (i : Id) → IfFills (leaf_at d i)
  leaf_fills i = option_cases (leaf_at d i) IfFills (λ none. tt) (λ leaf there. leaf_at-all (λ x. InputHasChars x.node.kind) d i leaf own there)

  keys_to : (k : Key) (leaf : Option PlacedNode) (m : Modal) → IfFills leaf → KeyTypes k → T m → T (keyed d k leaf m)
  keys_to k None m fills types t = passes k m t
  keys_to k (Some leaf) m fills types t =
      let c = content_at m leaf.node.id in
      answers k leaf (key_answer leaf.node.kind k c) m (key_chars leaf.node.kind k c fills types (holds_chars m leaf.node.id t)) t

  focus_key : (k : Key) (m : Modal) → KeyTypes k → T m → T (focus_keyed d k m)
  focus_key k m types t = keys_to k (leaf_at d m.focus) m (leaf_fills m.focus) types t

  enters : (target : Option PlacedNode) (m : Modal) → T m → T (press_enabled d target m)
  enters None m t = t
  enters (Some leaf) m t = enabled_press leaf m t

  alt_key : (letter : ℕ) (marker : Option PlacedNode) (m : Modal) → T m → T (alt_keyed d letter marker m)
  alt_key letter None m t = focus_key (keys.Alt letter) m tt t
  alt_key letter (Some leaf) m t = acts letter (Some leaf) m t

  by_key : (k : Key) (m : Modal) → KeyTypes k → T m → T (key d k m)
  by_key keys.Tab m types t = ask (next_free (stops_of d m.leaves) m.focus) m t
  by_key keys.ShiftTab m types t = ask (previous_free (stops_of d m.leaves) m.focus) m t
  by_key keys.Esc m types t = commanded 11 m t
  by_key keys.Enter m types t = enters (enter_target d m) m t
  by_key (keys.Alt letter) m types t = alt_key letter (marking_leaf d m.leaves letter) m t
  by_key k m types t = focus_key k m types t

  -- ---- the mouse

  held_by : (leaf : PlacedNode) (first : ℕ) (p : Point) (m : Modal) → T m → T (hold d leaf first p m)
  held_by leaf first p m t =
      let c = content_at m leaf.node.id in
      put leaf.node.id (down_content leaf.node.kind first (column_on leaf p) (row_on leaf p) c) m (down_chars leaf.node.kind first (column_on leaf p) (row_on leaf p) c (holds_chars m leaf.node.id t)) t

  holds_focus : (leaf : PlacedNode) (p : Point) (m : Modal) → T m → T (focus_and_hold d leaf p m)
  holds_focus leaf p m t = then_follow leaf.node.id (hold d leaf (first_before m leaf) p) (λ n r. held_by leaf (first_before m leaf) p n r) m t

  on_button : (leaf : PlacedNode) (grabs : Bool) (p : Point) (m : Modal) → T m → T (button_down d leaf grabs p m)
  on_button leaf grabs p m t =
      bool_cases (is_enabled d m.leaves leaf.node) (λ b. T (if b then (if grabs then focus_and_hold d leaf p m else hold d leaf 0 p m) else m))
      (λ enabled. bool_cases grabs (λ b. T (if b then focus_and_hold d leaf p m else hold d leaf 0 p m)) (λ grab. holds_focus leaf p m t) (λ stay. held_by leaf 0 p m t)) (λ disabled. t)

  downs : (leaf : PlacedNode) (asks : Down) (p : Point) (m : Modal) → T m → T (down_by d leaf asks p m)
  downs leaf Ignores p m t = t
  downs leaf (FocusesLink name) p m t = linked (meant d.views name) m t
  downs leaf (Grips grabs) p m t = on_button leaf grabs p m t
  downs leaf Holds p m t = holds_focus leaf p m t

  downs_at : (leaf : Option PlacedNode) (p : Point) (m : Modal) → T m → T (down_at d leaf p m)
  downs_at None p m t = t
  downs_at (Some leaf) p m t = downs leaf (behaviour leaf.node.kind).down p m t

  by_down : (p : Point) (m : Modal) → T m → T (down d p m)
  by_down p m t =
      bool_cases (is_close_mark p) (λ b. T (if b then command d 4 m else down_at d (topmost_leaf d m p) p m)) (λ mark. commanded 4 m t) (λ inside. downs_at (topmost_leaf d m p) p m t)

  by_move : (leaf : Option PlacedNode) (p : Point) (m : Modal) → T m → T (held_moved d leaf p m)
  by_move None p m t = t
  by_move (Some leaf) p m t =
      let c = content_at m leaf.node.id in
      bool_cases (is_inside leaf p) (λ b. T (if b then content_put d leaf.node.id (move_content leaf.node.kind (row_on leaf p) c) m else m))
      (λ inside. put leaf.node.id (move_content leaf.node.kind (row_on leaf p) c) m (move_chars leaf.node.kind (row_on leaf p) c (holds_chars m leaf.node.id t)) t) (λ outside. t)

  releases : (leaf : PlacedNode) (a : Answer) (m : Modal) → AnswerHasChars a → T m → T (released d leaf a m)
  releases leaf Passed m has t = t
  releases leaf (Becomes content) m has t = put leaf.node.id content m has t
  releases leaf Presses m has t = pressing leaf m t

  by_up : (leaf : Option PlacedNode) (item : ℕ) (p : Point) (m : Modal) → T m → T (held_up d leaf item p m)
  by_up None item p m t = t
  by_up (Some leaf) item p m t =
      let n : Modal = record m { held = None } in
      let c = content_at m leaf.node.id in
      let a = up_answer leaf.node.kind item (row_on leaf p) c in
      bool_cases (is_inside leaf p) (λ b. T (if b then released d leaf a n else n)) (λ inside. releases leaf a n (up_chars leaf.node.kind item (row_on leaf p) c (holds_chars m leaf.node.id t)) t) (λ outside. t)

  -- ---- events

  while_held : (held : Held) (e : Event) (m : Modal) → T m → T (held_step d held e m)
  while_held held (events.Key k) m t = t
  while_held held (events.Down p) m t = t
  while_held held (events.Move p) m t = by_move (leaf_at d held.id) p m t
  while_held held (events.Up p) m t = by_up (leaf_at d held.id) held.item p m t
  while_held held (events.Command given) m t = commanded given.0 m t
  while_held held (events.Broadcast given) m t = t

  while_free : (e : Event) (m : Modal) → EventTypes e → T m → T (free_step d e m)
  while_free (events.Key k) m types t = by_key k m types t
  while_free (events.Down p) m types t = by_down p m t
  while_free (events.Move p) m types t = t
  while_free (events.Up p) m types t = t
  while_free (events.Command given) m types t = commanded given.0 m t
  while_free (events.Broadcast given) m types t = t

  by_hold : (held : Option Held) (e : Event) (m : Modal) → EventTypes e → T m → T (step_by d held e m)
  by_hold None e m types t = while_free e m types t
  by_hold (Some held) e m types t = while_held held e m t

  pub step_typed : (e : Event) (m : Modal) → EventTypes e → T m → T (dialog_step d e m)
  step_typed e m types t = by_hold m.held e m types t
