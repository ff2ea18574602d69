-- Each event changes the marks and the text of one leaf at most, and that was visible before.
use Rattle.std.proofs.Common.{◌≡◌, inl, inr, Bool, true, false, ◌&&◌, ◌||◌, ◌==◌, ℕ, if◌then◌else◌, List, [], ◌∷◌, reverse, get_or, Option, Some, None, refl, sym, ap, subst, ◌∙◌, All}
use Rattle.std.specs.Prelude.{nat_le}
use Rattle.std.proofs.lemmas.Bool.{and_parts}
use Rattle.std.proofs.lemmas.Grind.{reverse_onto}
use Rattle.std.proofs.lemmas.List.Elements.{All-head, All-push, All-tail}
use Rattle.tv_cells.specs.declared.rect.Point.{Point}
use Rattle.tv_event.specs.declared.event.Event.{Event}
use Rattle.tv_event.specs.declared.event.Event.TheVariants as events
use Rattle.tv_event.specs.declared.event.Key.{Key}
use Rattle.tv_event.specs.declared.event.Key.TheVariants as keys
use Rattle.tv_model.specs.declared.node.Id.{Id}
use Rattle.tv_model.specs.declared.node.Node.{Node}
use Rattle.tv_model.specs.declared.command.CommandSpec.{CommandSpec}
use Rattle.tv_model.specs.declared.desc.Dialog.{Dialog}
use Rattle.tv_model.specs.declared.log.LogLine.TheVariants as lines
use Rattle.tv_model.specs.Kinds.{behaviour}
use Rattle.tv_model.specs.Kinds.Cluster.{cluster_item_pressed}
use Rattle.tv_model.specs.Controls.Behaviour.{Answer, Becomes, Passed, Presses, Down, Ignores, FocusesLink, Grips, Holds}
use Rattle.tv_model.specs.Controls.Contents.{Content}
use Rattle.tv_model.specs.Controls.Shortcut.{item_marking, ClusterKind, Shortcut, NoMark, LinkMark, PressMark, ItemMarks}
use Rattle.tv_model.specs.Description.Commands.{command_number, command_of, is_declared}
use Rattle.tv_model.specs.Description.Heads.{dialog_head}
use Rattle.tv_model.specs.Description.Marks.{upper}
use Rattle.tv_model.specs.Description.Names.{meant}
use Rattle.tv_model.specs.Description.Nodes.{is_control}
use Rattle.tv_machine.specs.State.{Held}
use Rattle.tv_machine.specs.Leaves.{PlacedNode, leaf_list}
use Rattle.tv_machine.specs.Controls.Tables.{down_content, key_answer, move_content, up_answer}
use Rattle.tv_machine.specs.Dialog.Ending.{command, end_by, ended, first_invalid, press, pressed_by, shown_invalid}
use Rattle.tv_machine.specs.Dialog.Focus.{Moved, NotFree, Refused, Request, Same, after_request, focus_moved, is_free_at, is_free_leaf, is_granted, next_free, previous_free, request, requested, stops_of}
use Rattle.tv_machine.specs.Dialog.Keys.{alt_keyed, answered, enter_target, focus_keyed, key, keyed, passed_on, press_enabled}
use Rattle.tv_machine.specs.Dialog.Modal.{Modal, content_at, content_put, leaf_at, with_line}
use Rattle.tv_machine.specs.Dialog.Mouse.{column_on, down, down_at, down_by, first_before, focus_and_hold, held_moved, held_up, hold, is_close_mark, is_inside, moved_on, released, row_on, topmost_leaf}
use Rattle.tv_machine.specs.Dialog.Rules.{is_enabled, is_free, is_visible}
use Rattle.tv_machine.specs.Dialog.Shortcuts.{act, act_on, called_by, marking_leaf, press_item, request_link}
use Rattle.tv_machine.specs.Dialog.Step.{free_step, held_step, step_by}
use Rattle.tv_laws.specs.Ends.{IsOpen}
use Rattle.tv_laws.specs.Fit.{IsFitHold}
use Rattle.tv_laws.specs.Sound.{IsSoundDialog}
use Rattle.tv_machine.proofs.LeafLemmas.{HasLeaves, IsIn, leaf_at-in, leaf_at-member}
use Rattle.tv_machine.proofs.ListLemmas.{bool_cases, found-all, found-passes, option_cases}
use Rattle.tv_machine.proofs.RefocusLemmas.{hold-moved, leaves-moved}
use Rattle.tv_laws.proofs.MarkerLemmas.{marker-in}
use Rattle.tv_reach.specs.Marks.{EventsMoveOne, MovesOne, StaySame, is_view}
use Rattle.tv_reach.proofs.PutLemmas.{itself, other-texts, others-hold, same-then, texts-moved}

All-reverse : {A : Type 0} (P : A → Type 0) (xs : List A) → All P xs → All P (reverse xs)
All-reverse P [] all = all
All-reverse P (x ∷ xs) all =
    subst (All P) (sym (reverse_onto xs x [])) (All-push P (reverse xs) x (All-reverse P xs (All-tail P x xs all)) (All-head P x xs all))

module _ (d : Dialog) (sound : IsSoundDialog d) where
  -- marks and texts stay, and the leaves are those of the description
  record IsStill (m n : Modal) : Type 0 where
    same : StaySame d m.leaves n.leaves
    leaves : HasLeaves d n

  abbrev Moves : Modal → Modal → Type 0
  Moves m n = MovesOne d m.leaves n.leaves

  still : (m : Modal) → HasLeaves d m → IsStill m m
  still m leaves = record { same = itself d m.leaves; leaves = leaves }

  stays : (m n : Modal) → IsStill m n → Moves m n
  stays m n s = inl s.same

  still_moved : (m : Modal) (i : Id) → HasLeaves d m → IsStill m (focus_moved d i m)
  still_moved m i leaves = record {
    same = record { marks = hold-moved d sound.lawful m i leaves; texts = texts-moved d sound.lawful m i leaves };
    leaves = leaves-moved d sound.lawful m i leaves;
  }

  -- ---- requests and commands leave the marks alone

  still_asked : (m : Modal) (to : Id) (r : Request) → HasLeaves d m → IsStill m (after_request d to r m)
  still_asked m to Same leaves = still m leaves
  still_asked m to NotFree leaves = still m leaves
  still_asked m to Refused leaves = record { same = itself d m.leaves; leaves = leaves }
  still_asked m to Moved leaves = still_moved m to leaves

  still_request : (m : Modal) (to : Id) → HasLeaves d m → IsStill m (request d to m)
  still_request m to leaves = still_asked m to (requested d m to) leaves

  still_link : (m : Modal) (link : Option Node) → HasLeaves d m → IsStill m (request_link d link m)
  still_link m None leaves = still m leaves
  still_link m (Some link) leaves = still_request m link.id leaves

  still_shown : (m : Modal) (i : Id) → HasLeaves d m → IsStill m (shown_invalid d i m)
  still_shown m i leaves =
      bool_cases (i.0 == m.focus.0) (λ b. IsStill m (if b then m else if is_free_at d m.leaves i then focus_moved d i m else m)) (λ here. still m leaves)
      (λ there. bool_cases (is_free_at d m.leaves i) (λ b. IsStill m (if b then focus_moved d i m else m)) (λ is. still_moved m i leaves) (λ is. still m leaves))

  still_end : (m : Modal) (number : ℕ) (o : Option Id) → HasLeaves d m → IsStill m (end_by d number o m)
  still_end m number None leaves = record { same = itself d m.leaves; leaves = leaves }
  still_end m number (Some i) leaves =
      let s = still_shown (with_line (lines.Invalid i) m) i leaves in record { same = s.same; leaves = s.leaves }

  still_command : (m : Modal) (number : ℕ) → HasLeaves d m → IsStill m (command d number m)
  still_command m number leaves =
      bool_cases ((number == 4) || (number == 11))
      (λ b. IsStill m (if b then ended d 11 m else if is_declared (dialog_head d).ends number then end_by d number (first_invalid d m) m
      else if nat_le 100 number then with_line (lines.Command number) m else m))
      (λ is. record { same = itself d m.leaves; leaves = leaves })
      (λ other. bool_cases (is_declared (dialog_head d).ends number)
      (λ b. IsStill m (if b then end_by d number (first_invalid d m) m else if nat_le 100 number then with_line (lines.Command number) m else m))
      (λ is. still_end m number (first_invalid d m) leaves)
      (λ none. bool_cases (nat_le 100 number) (λ b. IsStill m (if b then with_line (lines.Command number) m else m))
      (λ own. record { same = itself d m.leaves; leaves = leaves }) (λ low. still m leaves)))

  still_pressed : (m : Modal) (i : Id) (given : Option CommandSpec) → HasLeaves d m → IsStill m (pressed_by d i given m)
  still_pressed m i None leaves = still m leaves
  still_pressed m i (Some given) leaves =
      let s = still_command (with_line (lines.Press i) m) (command_number given) leaves in record { same = s.same; leaves = s.leaves }

  still_press : (m : Modal) (leaf : PlacedNode) → HasLeaves d m → IsStill m (press d leaf m)
  still_press m leaf leaves = still_pressed m leaf.node.id (command_of leaf.node.kind) leaves

  still_enabled : (m : Modal) (leaf : PlacedNode) → HasLeaves d m → IsStill m (if is_enabled d m.leaves leaf.node then press d leaf m else m)
  still_enabled m leaf leaves =
      bool_cases (is_enabled d m.leaves leaf.node) (λ b. IsStill m (if b then press d leaf m else m)) (λ on. still_press m leaf leaves) (λ off. still m leaves)

  -- ---- a visible leaf holds something else

  put : (m n : Modal) (i : Id) (leaf : PlacedNode) (c : Content) → IsStill m n → IsIn d leaf → leaf.node.id ≡ i → is_visible d m.leaves leaf ≡ true
      → Moves m (content_put d i c n)
  put m n i leaf c s e is visible = inr (record {
    leaf = leaf;
    there = e;
    visible = visible;
    marks = λ k r h apart. s.same.marks k r h
        ∙ others-hold d sound.lawful n s.leaves i c k r h (subst (λ j. is_view j (meant d.views (get_or d.rules k r).cluster) ≡ false) is apart);
    texts = λ j apart. s.same.texts j ∙ other-texts d sound.lawful n s.leaves i c j (subst (λ own. (j.0 == own.0) ≡ false) is apart);
  })

  -- what follows a request
  asked-then : (m : Modal) (to : Id) (follow : Modal → Modal) → HasLeaves d m → ((n : Modal) → IsStill m n → Moves m (follow n))
      → Moves m (if is_granted (requested d m to) then follow (request d to m) else request d to m)
  asked-then m to follow leaves follows =
      bool_cases (is_granted (requested d m to)) (λ b. Moves m (if b then follow (request d to m) else request d to m))
      (λ granted. follows (request d to m) (still_request m to leaves)) (λ other. stays m (request d to m) (still_request m to leaves))

  -- ---- letters

  item_moves : (m n : Modal) (kind : ClusterKind) (leaf : PlacedNode) (item : Option ℕ) → IsStill m n → IsIn d leaf → is_visible d m.leaves leaf ≡ true
      → Moves m (press_item d kind leaf.node.id item n)
  item_moves m n kind leaf None s e visible = stays m n s
  item_moves m n kind leaf (Some item) s e visible = put m n leaf.node.id leaf (cluster_item_pressed kind item (content_at n leaf.node.id)) s e refl visible

  called_moves : (m : Modal) (letter : ℕ) (leaf : PlacedNode) (shortcut : Shortcut) → HasLeaves d m → IsIn d leaf → is_visible d m.leaves leaf ≡ true
      → Moves m (called_by d letter leaf shortcut m)
  called_moves m letter leaf NoMark leaves e visible = stays m m (still m leaves)
  called_moves m letter leaf (LinkMark text name) leaves e visible = stays m (request_link d (meant d.views name) m) (still_link m (meant d.views name) leaves)
  called_moves m letter leaf (PressMark text name) leaves e visible =
      stays m (if is_enabled d m.leaves leaf.node then press d leaf m else m) (still_enabled m leaf leaves)
  called_moves m letter leaf (ItemMarks kind name items) leaves e visible =
      asked-then m leaf.node.id (press_item d kind leaf.node.id (item_marking items letter)) leaves
      (λ n s. item_moves m n kind leaf (item_marking items letter) s e visible)

  act_moves : (m : Modal) (letter : ℕ) (leaf : PlacedNode) → HasLeaves d m → IsIn d leaf → Moves m (act d letter leaf m)
  act_moves m letter leaf leaves e =
      bool_cases (is_visible d m.leaves leaf) (λ b. Moves m (if b then called_by d letter leaf (behaviour leaf.node.kind).shortcut m else m))
      (λ shown. called_moves m letter leaf (behaviour leaf.node.kind).shortcut leaves e shown) (λ hidden. stays m m (still m leaves))

  marker_moves : (m : Modal) (letter : ℕ) → HasLeaves d m → Moves m (act_on d letter (marking_leaf d m.leaves letter) m)
  marker_moves m letter leaves =
      option_cases (marking_leaf d m.leaves letter) (λ o. Moves m (act_on d letter o m)) (λ none. stays m m (still m leaves))
      (λ leaf found. act_moves m letter leaf leaves (marker-in d m.leaves sound.lawful letter leaf found))

  -- ---- keys

  passed_moves : (m : Modal) (k : Key) → HasLeaves d m → Moves m (passed_on d k m)
  passed_moves m (keys.Char ch) leaves = marker_moves m (upper ch) leaves
  passed_moves m _ leaves = stays m m (still m leaves)

  answered_moves : (m : Modal) (k : Key) (leaf : PlacedNode) (a : Answer) → HasLeaves d m → IsIn d leaf → is_visible d m.leaves leaf ≡ true
      → Moves m (answered d k leaf a m)
  answered_moves m k leaf Passed leaves e visible = passed_moves m k leaves
  answered_moves m k leaf (Becomes c) leaves e visible = put m m leaf.node.id leaf c (still m leaves) e refl visible
  answered_moves m k leaf Presses leaves e visible = stays m (press d leaf m) (still_press m leaf leaves)

  free_visible : (m : Modal) (leaf : PlacedNode) → is_free_at d m.leaves m.focus ≡ true → leaf_at d m.focus ≡ Some leaf → is_visible d m.leaves leaf ≡ true
  free_visible m leaf free there =
      let is : is_free d m.leaves leaf ≡ true = sym (ap (is_free_leaf d m.leaves) there) ∙ free in
      (and_parts (is_visible d m.leaves leaf) (is_enabled d m.leaves leaf.node)
      (and_parts (is_control leaf.node.kind) (is_visible d m.leaves leaf && is_enabled d m.leaves leaf.node) is).1).0

  focus_moves : (m : Modal) (k : Key) → IsOpen d m → Moves m (focus_keyed d k m)
  focus_moves m k o =
      let leaves = o.fit.standing.leaves in
      option_cases (leaf_at d m.focus) (λ x. Moves m (keyed d k x m)) (λ none. passed_moves m k leaves)
      (λ leaf there. answered_moves m k leaf (key_answer leaf.node.kind k (content_at m leaf.node.id)) leaves (leaf_at-in d sound.lawful m.focus leaf there)
      (free_visible m leaf o.fit.focus there))

  enter_moves : (m : Modal) (target : Option PlacedNode) → HasLeaves d m → Moves m (press_enabled d target m)
  enter_moves m None leaves = stays m m (still m leaves)
  enter_moves m (Some leaf) leaves = stays m (press_enabled d (Some leaf) m) (still_enabled m leaf leaves)

  alt_moves : (m : Modal) (letter : ℕ) → IsOpen d m → Moves m (alt_keyed d letter (marking_leaf d m.leaves letter) m)
  alt_moves m letter o =
      option_cases (marking_leaf d m.leaves letter) (λ x. Moves m (alt_keyed d letter x m)) (λ none. focus_moves m (keys.Alt letter) o)
      (λ leaf found. act_moves m letter leaf o.fit.standing.leaves (marker-in d m.leaves sound.lawful letter leaf found))

  key_moves : (k : Key) (m : Modal) → IsOpen d m → Moves m (key d k m)
  key_moves keys.Tab m o = let to = next_free (stops_of d m.leaves) m.focus in stays m (request d to m) (still_request m to o.fit.standing.leaves)
  key_moves keys.ShiftTab m o = let to = previous_free (stops_of d m.leaves) m.focus in stays m (request d to m) (still_request m to o.fit.standing.leaves)
  key_moves keys.Esc m o = stays m (command d 11 m) (still_command m 11 o.fit.standing.leaves)
  key_moves keys.Enter m o = enter_moves m (enter_target d m) o.fit.standing.leaves
  key_moves (keys.Alt letter) m o = alt_moves m letter o
  key_moves k m o = focus_moves m k o

  -- ---- the mouse

  hold_moves : (m n : Modal) (leaf : PlacedNode) (first : ℕ) (p : Point) → IsStill m n → IsIn d leaf → is_visible d m.leaves leaf ≡ true
      → Moves m (hold d leaf first p n)
  hold_moves m n leaf first p s e visible =
      put m n leaf.node.id leaf (down_content leaf.node.kind first (column_on leaf p) (row_on leaf p) (content_at n leaf.node.id)) s e refl visible

  grip_moves : (m : Modal) (leaf : PlacedNode) (p : Point) → HasLeaves d m → IsIn d leaf → is_visible d m.leaves leaf ≡ true
      → Moves m (focus_and_hold d leaf p m)
  grip_moves m leaf p leaves e visible =
      asked-then m leaf.node.id (hold d leaf (first_before m leaf) p) leaves (λ n s. hold_moves m n leaf (first_before m leaf) p s e visible)

  down_moves : (m : Modal) (leaf : PlacedNode) (asks : Down) (p : Point) → HasLeaves d m → IsIn d leaf → is_visible d m.leaves leaf ≡ true
      → Moves m (down_by d leaf asks p m)
  down_moves m leaf Ignores p leaves e visible = stays m m (still m leaves)
  down_moves m leaf (FocusesLink name) p leaves e visible = stays m (request_link d (meant d.views name) m) (still_link m (meant d.views name) leaves)
  down_moves m leaf (Grips grabs) p leaves e visible =
      bool_cases (is_enabled d m.leaves leaf.node) (λ b. Moves m (if b then (if grabs then focus_and_hold d leaf p m else hold d leaf 0 p m) else m))
      (λ on. bool_cases grabs (λ b. Moves m (if b then focus_and_hold d leaf p m else hold d leaf 0 p m)) (λ grab. grip_moves m leaf p leaves e visible)
      (λ stay. hold_moves m m leaf 0 p (still m leaves) e visible))
      (λ off. stays m m (still m leaves))
  down_moves m leaf Holds p leaves e visible = grip_moves m leaf p leaves e visible

  pressed_moves : (m : Modal) (p : Point) → HasLeaves d m → Moves m (down d p m)
  pressed_moves m p leaves =
      bool_cases (is_close_mark p) (λ b. Moves m (if b then command d 4 m else down_at d (topmost_leaf d m p) p m))
      (λ mark. stays m (command d 4 m) (still_command m 4 leaves))
      (λ inside. option_cases (topmost_leaf d m p) (λ x. Moves m (down_at d x p m)) (λ none. stays m m (still m leaves))
      (λ leaf found.
      let test : PlacedNode → Bool = λ x. is_visible d m.leaves x && is_inside x p in
      down_moves m leaf (behaviour leaf.node.kind).down p leaves
      (found-all (IsIn d) test (reverse (leaf_list d.views)) leaf (All-reverse (IsIn d) (leaf_list d.views) (leaf_at-member d sound.lawful)) found)
      (and_parts (is_visible d m.leaves leaf) (is_inside leaf p) (found-passes test (reverse (leaf_list d.views)) leaf found)).0))

  dragged_moves : (m : Modal) (leaf : PlacedNode) (p : Point) → HasLeaves d m → IsIn d leaf → is_visible d m.leaves leaf ≡ true
      → Moves m (moved_on d leaf p m)
  dragged_moves m leaf p leaves e visible =
      let c = move_content leaf.node.kind (row_on leaf p) (content_at m leaf.node.id) in
      bool_cases (is_inside leaf p) (λ b. Moves m (if b then content_put d leaf.node.id c m else m))
      (λ inside. put m m leaf.node.id leaf c (still m leaves) e refl visible) (λ outside. stays m m (still m leaves))

  released_moves : (m n : Modal) (leaf : PlacedNode) (a : Answer) → IsStill m n → IsIn d leaf → is_visible d m.leaves leaf ≡ true → Moves m (released d leaf a n)
  released_moves m n leaf Passed s e visible = stays m n s
  released_moves m n leaf (Becomes c) s e visible = put m n leaf.node.id leaf c s e refl visible
  released_moves m n leaf Presses s e visible =
      let t = still_press n leaf s.leaves in inl (same-then d m.leaves n.leaves (press d leaf n).leaves s.same t.same)

  up_moves : (m : Modal) (leaf : PlacedNode) (item : ℕ) (p : Point) → HasLeaves d m → IsIn d leaf → is_visible d m.leaves leaf ≡ true
      → Moves m (held_up d (Some leaf) item p m)
  up_moves m leaf item p leaves e visible =
      let n : Modal = record m { held = None } in
      let s : IsStill m n = record { same = itself d m.leaves; leaves = leaves } in
      bool_cases (is_inside leaf p)
      (λ b. Moves m (if b then released d leaf (up_answer leaf.node.kind item (row_on leaf p) (content_at m leaf.node.id)) n else n))
      (λ inside. released_moves m n leaf (up_answer leaf.node.kind item (row_on leaf p) (content_at m leaf.node.id)) s e visible) (λ outside. inl s.same)

  -- ---- one event

  free_moves : (e : Event) (m : Modal) → IsOpen d m → Moves m (free_step d e m)
  free_moves (events.Key k) m o = key_moves k m o
  free_moves (events.Down p) m o = pressed_moves m p o.fit.standing.leaves
  free_moves (events.Move p) m o = stays m m (still m o.fit.standing.leaves)
  free_moves (events.Up p) m o = stays m m (still m o.fit.standing.leaves)
  free_moves (events.Command c) m o = stays m (command d c.0 m) (still_command m c.0 o.fit.standing.leaves)
  free_moves (events.Broadcast c) m o = stays m m (still m o.fit.standing.leaves)

  held_moves : (held : Held) (e : Event) (m : Modal) → IsFitHold d m held → HasLeaves d m → Moves m (held_step d held e m)
  held_moves held (events.Key k) m h leaves = stays m m (still m leaves)
  held_moves held (events.Down p) m h leaves = stays m m (still m leaves)
  held_moves held (events.Move p) m h leaves =
      subst (λ x. Moves m (held_moved d x p m)) (sym h.there)
      (dragged_moves m h.leaf p leaves (leaf_at-in d sound.lawful held.id h.leaf h.there) h.visible)
  held_moves held (events.Up p) m h leaves =
      subst (λ x. Moves m (held_up d x held.item p m)) (sym h.there)
      (up_moves m h.leaf held.item p leaves (leaf_at-in d sound.lawful held.id h.leaf h.there) h.visible)
  held_moves held (events.Command c) m h leaves = stays m (command d c.0 m) (still_command m c.0 leaves)
  held_moves held (events.Broadcast c) m h leaves = stays m m (still m leaves)

  pub events-move-one : EventsMoveOne d
  events-move-one m e o =
      option_cases m.held (λ held. Moves m (step_by d held e m)) (λ none. free_moves e m o)
      (λ held some. held_moves held e m (o.fit.held held some) o.fit.standing.leaves)
