-- What an open dialog logs names its controls, and nothing comes before an end but such lines.
use Rattle.std.proofs.Common.{◌≡◌, inl, Bool, true, ◌&&◌, ◌||◌, ◌==◌, not, ℕ, if◌then◌else◌, List, [], ◌∷◌, find, map, Option, Some, None, option_map, is_some, unwrap_or, pos, refl, sym, subst, All, arith}
use Rattle.std.specs.Prelude.{nat_le}
use Rattle.std.specs.Option.{option_or}
use Rattle.std.proofs.lemmas.Bool.{and_parts, false≢true}
use Rattle.std.proofs.lemmas.List.Elements.{All-filter, All-head}
use Rattle.tv_cells.specs.declared.rect.Point.{Point}
use Rattle.tv_event.specs.declared.event.Event.{Event}
use Rattle.tv_event.specs.declared.event.Event.TheVariants as events
use Rattle.tv_event.specs.declared.event.Key.{Key}
use Rattle.tv_event.specs.declared.event.Key.TheVariants as keys
use Rattle.tv_model.specs.declared.command.CommandSpec.{CommandSpec}
use Rattle.tv_model.specs.declared.desc.Desc.{Desc}
use Rattle.tv_model.specs.declared.desc.Dialog.{Dialog}
use Rattle.tv_model.specs.declared.kind.Kind.{Kind}
use Rattle.tv_model.specs.declared.kind.Kind.TheVariants as kinds
use Rattle.tv_model.specs.declared.log.LogLine.{LogLine}
use Rattle.tv_model.specs.declared.log.LogLine.TheVariants as lines
use Rattle.tv_model.specs.declared.node.Id.{Id}
use Rattle.tv_model.specs.declared.node.Node.{Node}
use Rattle.tv_model.specs.Controls.Behaviour.{Answer, Becomes, Passed, Presses, Down, Ignores, FocusesLink, Grips, Holds}
use Rattle.tv_model.specs.Controls.Contents.{Content}
use Rattle.tv_model.specs.Controls.Shortcut.{item_marking, ClusterKind, Shortcut, NoMark, LinkMark, PressMark, ItemMarks}
use Rattle.tv_model.specs.Description.Commands.{command_number, command_of, is_declared}
use Rattle.tv_model.specs.Description.Heads.{dialog_head}
use Rattle.tv_model.specs.Description.Marks.{upper}
use Rattle.tv_model.specs.Description.Names.{meant}
use Rattle.tv_model.specs.Description.Nodes.{is_button, is_control, is_default, name_of}
use Rattle.tv_model.specs.Description.Owners.{owner_by}
use Rattle.tv_model.specs.Kinds.{behaviour}
use Rattle.tv_model.specs.Kinds.InputLine.{Edit, entered, left}
use Rattle.tv_model.specs.Log.Record.{Entries}
use Rattle.tv_machine.specs.State.{Held, LeafState}
use Rattle.tv_machine.specs.Leaves.{PlacedNode, leaf_list}
use Rattle.tv_machine.specs.Controls.Tables.{key_answer, move_content, up_answer}
use Rattle.tv_machine.specs.Dialog.Ending.{command, end_by, ended, field_line, fields_of, first_invalid, is_invalid_leaf, press, pressed_by, shown_invalid}
use Rattle.tv_machine.specs.Dialog.Focus.{Moved, NotFree, Refused, Same, after_request, focus_moved, is_free_at, is_free_leaf, is_granted, is_invalid, keeps_focus, next_free, previous_free, refocused, request, request_then, requested, stop_of, stops_of, validates}
use Rattle.tv_machine.specs.Dialog.Keys.{alt_keyed, answered, declared_default, enter_target, focus_keyed, if_button, key, keyed, passed_on, press_enabled}
use Rattle.tv_machine.specs.Dialog.Modal.{Modal, content_at, content_put, leaf_at, with_line}
use Rattle.tv_machine.specs.Dialog.Mouse.{button_down, down, down_at, down_by, first_before, focus_and_hold, held_moved, held_up, hold, is_close_mark, is_inside, released, row_on, topmost_leaf}
use Rattle.tv_machine.specs.Dialog.Opening.{first_focus, opened_dialog, opened_leaves, unfocused}
use Rattle.tv_machine.specs.Dialog.Rules.{is_enabled, is_free, is_visible}
use Rattle.tv_machine.specs.Dialog.Shortcuts.{act_on, called, called_by, marker_among, marking_leaf, marking_leaves, press_item, request_link}
use Rattle.tv_machine.specs.Dialog.Step.{dialog_step, free_step, held_step, step_by}
use Rattle.tv_machine.proofs.LeafLemmas.{leaf_at-all, leaf_at-is, leaves-all}
use Rattle.tv_machine.proofs.ListLemmas.{bool_cases, find-map, found-all, found-passes, option_cases}
use Rattle.tv_machine.proofs.RefocusLemmas.{refocused-keeps}
use Rattle.tv_words.specs.Fields.{IsNumber}
use Rattle.tv_answers.proofs.ToldLemmas.{IsClean, IsNamed, IsTold, clean_append, clean_line}

-- ---- names and numbers

-- the number of a command can be read, if there is one
abbrev pub GivesNumber : Option CommandSpec → Type 0
GivesNumber None = Unit {0}
GivesNumber (Some c) = IsNumber (pos (command_number c))

-- what has a name is logged by one, and a command has a number
pub record IsNamedView (desc : Desc) (view : Node) : Type 0 where
  pub named : is_some (name_of view.kind) ≡ true → IsNamed desc view.id
  pub number : GivesNumber (command_of view.kind)

pub record IsNamedDialog (desc : Desc) (d : Dialog) : Type 0 where
  pub own : IsNamed desc d.node.id
  pub views : All (IsNamedView desc) d.views

control_named : (k : Kind) → is_control k ≡ true → is_some (name_of k) ≡ true
control_named (kinds.Button button) e = refl
control_named (kinds.Input input) e = refl
control_named (kinds.CheckBoxes boxes) e = refl
control_named (kinds.RadioButtons radios) e = refl
control_named (kinds.List list) e = refl
control_named _ e = absurd (false≢true e)

validating_named : (k : Kind) → validates k ≡ true → is_some (name_of k) ≡ true
validating_named (kinds.Input input) e = refl
validating_named _ e = absurd (false≢true e)

invalid_named : (k : Kind) (c : Content) → is_invalid k c ≡ true → is_some (name_of k) ≡ true
invalid_named (kinds.Input input) c e = refl
invalid_named _ c e = absurd (false≢true e)

giving_named : (k : Kind) (c : CommandSpec) → command_of k ≡ Some c → is_some (name_of k) ≡ true
giving_named (kinds.Button button) c e = refl
giving_named _ c e = absurd cc

module _ (desc : Desc) (d : Dialog) (names : IsNamedDialog desc d) where
  -- a leaf of the dialog
  abbrev IsNamedLeaf : PlacedNode → Type 0
  IsNamedLeaf leaf = IsNamedView desc leaf.node

  leaves_named : All IsNamedLeaf (leaf_list d.views)
  leaves_named = leaves-all (IsNamedView desc) [] d.views names.views

  at_named : (i : Id) (leaf : PlacedNode) → leaf_at d i ≡ Some leaf → IsNamedLeaf leaf
  at_named i leaf there = leaf_at-all IsNamedLeaf d i leaf leaves_named there

  id_named : (i : Id) (leaf : PlacedNode) → leaf_at d i ≡ Some leaf → is_some (name_of leaf.node.kind) ≡ true → IsNamed desc i
  id_named i leaf there has = subst (IsNamed desc) (leaf_at-is d i leaf there) ((at_named i leaf there).named has)

  -- an option is a leaf of the dialog, if it is one at all
  abbrev IfLeaf : Option PlacedNode → Type 0
  IfLeaf None = Unit {0}
  IfLeaf (Some leaf) = IsNamedLeaf leaf

  found_leaf : (p : PlacedNode → Bool) (leaves : List PlacedNode) → All IsNamedLeaf leaves → IfLeaf (find p leaves)
  found_leaf p leaves all = option_cases (find p leaves) IfLeaf (λ none. tt) (λ leaf found. found-all IsNamedLeaf p leaves leaf all found)

  leaf_there : (i : Id) → IfLeaf (leaf_at d i)
  leaf_there i = option_cases (leaf_at d i) IfLeaf (λ none. tt) (λ leaf there. at_named i leaf there)

  -- ---- logs

  abbrev pub C : Modal → Type 0
  C m = IsClean desc m.log

  line : (l : LogLine) (m : Modal) → IsTold desc l → C m → C (with_line l m)
  line l m told c = clean_line desc m.log l told c

  free_named : (leaves : List LeafState) (i : Id) → is_free_at d leaves i ≡ true → IsNamed desc i
  free_named leaves i =
      option_cases (leaf_at d i) (λ o. is_free_leaf d leaves o ≡ true → IsNamed desc i) (λ none e. absurd (false≢true e))
      (λ leaf there e. id_named i leaf there (control_named leaf.node.kind (and_parts (is_control leaf.node.kind) (is_visible d leaves leaf && is_enabled d leaves leaf.node) e).0))

  -- ---- the focus

  refocus : (edit : Edit → Edit) (o : Option PlacedNode) (m : Modal) → C m → C (refocused d edit o m)
  refocus edit o m c = refocused-keeps C d (λ i content n p. p) edit o m c

  pub focus : (i : Id) (m : Modal) → IsNamed desc i → C m → C (focus_moved d i m)
  focus i m named c =
      let n = refocused d left (leaf_at d m.focus) m in
      clean_line desc (refocused d entered (leaf_at d i) n).log (lines.Focus i) named (refocus entered (leaf_at d i) n (refocus left (leaf_at d m.focus) m c))

  keeper_named : (m : Modal) → keeps_focus m (leaf_at d m.focus) ≡ true → IsNamed desc m.focus
  keeper_named m =
      option_cases (leaf_at d m.focus) (λ o. keeps_focus m o ≡ true → IsNamed desc m.focus) (λ none e. absurd (false≢true e))
      (λ leaf there e. id_named m.focus leaf there (validating_named leaf.node.kind (and_parts (validates leaf.node.kind) (is_invalid leaf.node.kind (content_at m leaf.node.id)) e).0))

  ask : (to : Id) (m : Modal) → C m → C (request d to m)
  ask to m c =
      bool_cases (to.0 == m.focus.0)
      (λ b. C (after_request d to (if b then Same else if not (is_free_at d m.leaves to) then NotFree else if keeps_focus m (leaf_at d m.focus) then Refused else Moved) m)) (λ here. c)
      (λ there. bool_cases (is_free_at d m.leaves to)
      (λ b. C (after_request d to (if not b then NotFree else if keeps_focus m (leaf_at d m.focus) then Refused else Moved) m))
      (λ is. bool_cases (keeps_focus m (leaf_at d m.focus)) (λ b. C (after_request d to (if b then Refused else Moved) m))
      (λ keeps. line (lines.Invalid m.focus) m (keeper_named m keeps) c) (λ leaves. focus to m (free_named m.leaves to is) c))
      (λ not_free. c))

  then_follow : (to : Id) (follow : Modal → Modal) → ((n : Modal) → C n → C (follow n)) → (m : Modal) → C m → C (request_then d to follow m)
  then_follow to follow keeps m c =
      bool_cases (is_granted (requested d m to)) (λ b. C (if b then follow (request d to m) else request d to m)) (λ is. keeps (request d to m) (ask to m c)) (λ is. ask to m c)

  -- ---- commands

  shown : (i : Id) (m : Modal) → C m → C (shown_invalid d i m)
  shown i m c =
      bool_cases (i.0 == m.focus.0) (λ b. C (if b then m else if is_free_at d m.leaves i then focus_moved d i m else m)) (λ here. c)
      (λ there. bool_cases (is_free_at d m.leaves i) (λ b. C (if b then focus_moved d i m else m)) (λ is. focus i m (free_named m.leaves i is) c) (λ is. c))

  at_end : (number : ℕ) (m : Modal) → C m → C (ended d number m)
  at_end number m c = clean_append desc m.log (lines.End d.node.id (record { 0 = number }) ∷ map field_line (fields_of m.leaves)) c (inl tt)

  ending : (number : ℕ) (m : Modal) → C m → C (end_by d number (first_invalid d m) m)
  ending number m c =
      option_cases (find (is_invalid_leaf m) (leaf_list d.views)) (λ o. C (end_by d number (option_map (λ leaf. leaf.node.id) o) m)) (λ none. at_end number m c)
      (λ leaf found.
      let named : IsNamed desc leaf.node.id = (found-all IsNamedLeaf (is_invalid_leaf m) (leaf_list d.views) leaf leaves_named found).named (invalid_named leaf.node.kind (content_at m leaf.node.id) (found-passes (is_invalid_leaf m) (leaf_list d.views) leaf found)) in
      shown leaf.node.id (with_line (lines.Invalid leaf.node.id) m) (line (lines.Invalid leaf.node.id) m named c))

  pub commanded : (number : ℕ) (m : Modal) → IsNumber (pos number) → C m → C (command d number m)
  commanded number m fits c =
      bool_cases ((number == 4) || (number == 11))
      (λ b. C (if b then ended d 11 m else if is_declared (dialog_head d).ends number then end_by d number (first_invalid d m) m else if nat_le 100 number then with_line (lines.Command number) m else m))
      (λ is. at_end 11 m c)
      (λ other. bool_cases (is_declared (dialog_head d).ends number) (λ b. C (if b then end_by d number (first_invalid d m) m else if nat_le 100 number then with_line (lines.Command number) m else m))
      (λ is. ending number m c)
      (λ none. bool_cases (nat_le 100 number) (λ b. C (if b then with_line (lines.Command number) m else m)) (λ own. line (lines.Command number) m fits c) (λ low. c)))

  pressing : (leaf : PlacedNode) (m : Modal) → IsNamedLeaf leaf → C m → C (press d leaf m)
  pressing leaf m named c =
      option_cases (command_of leaf.node.kind) (λ o. GivesNumber o → C (pressed_by d leaf.node.id o m)) (λ none fits. c)
      (λ given is fits. commanded (command_number given) (with_line (lines.Press leaf.node.id) m) fits (line (lines.Press leaf.node.id) m (named.named (giving_named leaf.node.kind given is)) c))
      named.number

  enabled_press : (leaf : PlacedNode) (m : Modal) → IsNamedLeaf leaf → C m → C (if is_enabled d m.leaves leaf.node then press d leaf m else m)
  enabled_press leaf m named c =
      bool_cases (is_enabled d m.leaves leaf.node) (λ b. C (if b then press d leaf m else m)) (λ enabled. pressing leaf m named c) (λ disabled. c)

  -- ---- letters

  linked : (link : Option Node) (m : Modal) → C m → C (request_link d link m)
  linked None m c = c
  linked (Some node) m c = ask node.id m c

  item_pressed : (kind : ClusterKind) (i : Id) (item : Option ℕ) (m : Modal) → C m → C (press_item d kind i item m)
  item_pressed kind i None m c = c
  item_pressed kind i (Some item) m c = c

  calls : (letter : ℕ) (leaf : PlacedNode) (shortcut : Shortcut) (m : Modal) → IsNamedLeaf leaf → C m → C (called_by d letter leaf shortcut m)
  calls letter leaf NoMark m named c = c
  calls letter leaf (LinkMark text name) m named c = linked (meant d.views name) m c
  calls letter leaf (PressMark text name) m named c = enabled_press leaf m named c
  calls letter leaf (ItemMarks kind name items) m named c =
      then_follow leaf.node.id (press_item d kind leaf.node.id (item_marking items letter)) (item_pressed kind leaf.node.id (item_marking items letter)) m c

  acts : (letter : ℕ) (marker : Option PlacedNode) (m : Modal) → IfLeaf marker → C m → C (act_on d letter marker m)
  acts letter None m named c = c
  acts letter (Some leaf) m named c =
      bool_cases (is_visible d m.leaves leaf) (λ b. C (if b then called d letter leaf leaf.node.kind m else m))
      (λ seen. calls letter leaf (behaviour leaf.node.kind).shortcut m named c) (λ hidden. c)

  marker_of : (leaves : List LeafState) (marking : List PlacedNode) → All IsNamedLeaf marking → IfLeaf (marker_among d leaves marking)
  marker_of leaves [] all = tt
  marker_of leaves (marker ∷ []) all = All-head IsNamedLeaf marker [] all
  marker_of leaves (marker ∷ other ∷ others) all = found_leaf (is_visible d leaves) (marker ∷ other ∷ others) all

  marker_named : (leaves : List LeafState) (letter : ℕ) → IfLeaf (marking_leaf d leaves letter)
  marker_named leaves letter = marker_of leaves (marking_leaves d letter) (All-filter (λ leaf. is_some (owner_by letter leaf.node.kind)) IsNamedLeaf (leaf_list d.views) leaves_named)

  -- ---- keys

  passes : (k : Key) (m : Modal) → C m → C (passed_on d k m)
  passes (keys.Char ch) m c = acts (upper ch) (marking_leaf d m.leaves (upper ch)) m (marker_named m.leaves (upper ch)) c
  passes _ m c = c

  answers : (k : Key) (leaf : PlacedNode) (a : Answer) (m : Modal) → IsNamedLeaf leaf → C m → C (answered d k leaf a m)
  answers k leaf Passed m named c = passes k m c
  answers k leaf (Becomes content) m named c = c
  answers k leaf Presses m named c = pressing leaf m named c

  keys_to : (k : Key) (leaf : Option PlacedNode) (m : Modal) → IfLeaf leaf → C m → C (keyed d k leaf m)
  keys_to k None m named c = passes k m c
  keys_to k (Some leaf) m named c = answers k leaf (key_answer leaf.node.kind k (content_at m leaf.node.id)) m named c

  focus_key : (k : Key) (m : Modal) → C m → C (focus_keyed d k m)
  focus_key k m c = keys_to k (leaf_at d m.focus) m (leaf_there m.focus) c

  button_if : (o : Option PlacedNode) → IfLeaf o → IfLeaf (if_button o)
  button_if None named = tt
  button_if (Some leaf) named = bool_cases (is_button leaf.node.kind) (λ b. IfLeaf (if b then Some leaf else None)) (λ is. named) (λ is. tt)

  either_leaf : (o u : Option PlacedNode) → IfLeaf o → IfLeaf u → IfLeaf (option_or o u)
  either_leaf None u first later = later
  either_leaf (Some leaf) u first later = first

  enters : (target : Option PlacedNode) (m : Modal) → IfLeaf target → C m → C (press_enabled d target m)
  enters None m named c = c
  enters (Some leaf) m named c = enabled_press leaf m named c

  target_named : (m : Modal) → IfLeaf (enter_target d m)
  target_named m =
      either_leaf (if_button (leaf_at d m.focus)) (declared_default d) (button_if (leaf_at d m.focus) (leaf_there m.focus)) (found_leaf (λ leaf. is_default leaf.node) (leaf_list d.views) leaves_named)

  alt_key : (letter : ℕ) (marker : Option PlacedNode) (m : Modal) → IfLeaf marker → C m → C (alt_keyed d letter marker m)
  alt_key letter None m named c = focus_key (keys.Alt letter) m c
  alt_key letter (Some leaf) m named c = acts letter (Some leaf) m named c

  cancel_number : IsNumber (pos 11)
  cancel_number = record { sfits = omega arith }

  close_number : IsNumber (pos 4)
  close_number = record { sfits = omega arith }

  by_key : (k : Key) (m : Modal) → C m → C (key d k m)
  by_key keys.Tab m c = ask (next_free (stops_of d m.leaves) m.focus) m c
  by_key keys.ShiftTab m c = ask (previous_free (stops_of d m.leaves) m.focus) m c
  by_key keys.Esc m c = commanded 11 m cancel_number c
  by_key keys.Enter m c = enters (enter_target d m) m (target_named m) c
  by_key (keys.Alt letter) m c = alt_key letter (marking_leaf d m.leaves letter) m (marker_named m.leaves letter) c
  by_key k m c = focus_key k m c

  -- ---- the mouse

  holds_focus : (leaf : PlacedNode) (p : Point) (m : Modal) → C m → C (focus_and_hold d leaf p m)
  holds_focus leaf p m c = then_follow leaf.node.id (hold d leaf (first_before m leaf) p) (λ n r. r) m c

  on_button : (leaf : PlacedNode) (grabs : Bool) (p : Point) (m : Modal) → C m → C (button_down d leaf grabs p m)
  on_button leaf grabs p m c =
      bool_cases (is_enabled d m.leaves leaf.node) (λ b. C (if b then (if grabs then focus_and_hold d leaf p m else hold d leaf 0 p m) else m))
      (λ enabled. bool_cases grabs (λ b. C (if b then focus_and_hold d leaf p m else hold d leaf 0 p m)) (λ grab. holds_focus leaf p m c) (λ stay. c)) (λ disabled. c)

  downs : (leaf : PlacedNode) (asks : Down) (p : Point) (m : Modal) → C m → C (down_by d leaf asks p m)
  downs leaf Ignores p m c = c
  downs leaf (FocusesLink name) p m c = linked (meant d.views name) m c
  downs leaf (Grips grabs) p m c = on_button leaf grabs p m c
  downs leaf Holds p m c = holds_focus leaf p m c

  downs_at : (leaf : Option PlacedNode) (p : Point) (m : Modal) → C m → C (down_at d leaf p m)
  downs_at None p m c = c
  downs_at (Some leaf) p m c = downs leaf (behaviour leaf.node.kind).down p m c

  by_down : (p : Point) (m : Modal) → C m → C (down d p m)
  by_down p m c =
      bool_cases (is_close_mark p) (λ b. C (if b then command d 4 m else down_at d (topmost_leaf d m p) p m)) (λ mark. commanded 4 m close_number c)
      (λ inside. downs_at (topmost_leaf d m p) p m c)

  by_move : (leaf : Option PlacedNode) (p : Point) (m : Modal) → C m → C (held_moved d leaf p m)
  by_move None p m c = c
  by_move (Some leaf) p m c =
      bool_cases (is_inside leaf p) (λ b. C (if b then content_put d leaf.node.id (move_content leaf.node.kind (row_on leaf p) (content_at m leaf.node.id)) m else m)) (λ inside. c) (λ outside. c)

  releases : (leaf : PlacedNode) (a : Answer) (m : Modal) → IsNamedLeaf leaf → C m → C (released d leaf a m)
  releases leaf Passed m named c = c
  releases leaf (Becomes content) m named c = c
  releases leaf Presses m named c = pressing leaf m named c

  by_up : (leaf : Option PlacedNode) (item : ℕ) (p : Point) (m : Modal) → IfLeaf leaf → C m → C (held_up d leaf item p m)
  by_up None item p m named c = c
  by_up (Some leaf) item p m named c =
      let n : Modal = record m { held = None } in
      let a = up_answer leaf.node.kind item (row_on leaf p) (content_at m leaf.node.id) in
      bool_cases (is_inside leaf p) (λ b. C (if b then released d leaf a n else n)) (λ inside. releases leaf a n named c) (λ outside. c)

  -- ---- events

  -- a command that is handed in has a number that can be read
  abbrev pub HasNumber : Event → Type 0
  HasNumber (events.Command given) = IsNumber (pos given.0)
  HasNumber _ = Unit {0}

  while_held : (held : Held) (e : Event) (m : Modal) → HasNumber e → C m → C (held_step d held e m)
  while_held held (events.Key k) m fits c = c
  while_held held (events.Down p) m fits c = c
  while_held held (events.Move p) m fits c = by_move (leaf_at d held.id) p m c
  while_held held (events.Up p) m fits c = by_up (leaf_at d held.id) held.item p m (leaf_there held.id) c
  while_held held (events.Command given) m fits c = commanded given.0 m fits c
  while_held held (events.Broadcast given) m fits c = c

  while_free : (e : Event) (m : Modal) → HasNumber e → C m → C (free_step d e m)
  while_free (events.Key k) m fits c = by_key k m c
  while_free (events.Down p) m fits c = by_down p m c
  while_free (events.Move p) m fits c = c
  while_free (events.Up p) m fits c = c
  while_free (events.Command given) m fits c = commanded given.0 m fits c
  while_free (events.Broadcast given) m fits c = c

  by_hold : (held : Option Held) (e : Event) (m : Modal) → HasNumber e → C m → C (step_by d held e m)
  by_hold None e m fits c = while_free e m fits c
  by_hold (Some held) e m fits c = while_held held e m fits c

  pub stepped_clean : (e : Event) (m : Modal) → HasNumber e → C m → C (dialog_step d e m)
  stepped_clean e m fits c = by_hold m.held e m fits c

  -- ---- opening

  first_named : (leaves : List LeafState) → IsNamed desc (first_focus d leaves)
  first_named leaves =
      subst (λ o. IsNamed desc (unwrap_or (option_map (λ stop. stop.id) o) d.node.id)) (sym (find-map (stop_of d leaves) (λ stop. stop.is_free) (leaf_list d.views)))
      (option_cases (find (λ leaf. is_free d leaves leaf) (leaf_list d.views)) (λ o. IsNamed desc (unwrap_or (option_map (λ stop. stop.id) (option_map (stop_of d leaves) o)) d.node.id)) (λ none. names.own)
      (λ leaf found.
      let free : is_free d leaves leaf ≡ true = found-passes (λ other. is_free d leaves other) (leaf_list d.views) leaf found in
      (found-all IsNamedLeaf (λ other. is_free d leaves other) (leaf_list d.views) leaf leaves_named found).named
      (control_named leaf.node.kind (and_parts (is_control leaf.node.kind) (is_visible d leaves leaf && is_enabled d leaves leaf.node) free).0)))

  pub opened_clean : (saved : Option Entries) (overwriting : List Id) → C (opened_dialog d saved overwriting)
  opened_clean saved overwriting = focus (first_focus d (opened_leaves d saved)) (unfocused d saved overwriting) (first_named (opened_leaves d saved)) tt
