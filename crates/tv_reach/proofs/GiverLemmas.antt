-- What ends an open dialog: a button that is pressed, or `cancel`.
use Rattle.std.proofs.Common.{◌≡◌, ◌⊎◌, inl, inr, true, false, ◌&&◌, ◌||◌, ◌==◌, ℕ, if◌then◌else◌, Option, Some, None, option_map, refl, sym, ap, subst, ◌∙◌}
use Rattle.std.specs.Prelude.{nat_le}
use Rattle.std.specs.Option.{option_or}
use Rattle.std.proofs.lemmas.Bool.{and_parts}
use Rattle.tv_cells.specs.declared.rect.Point.{Point}
use Rattle.tv_event.specs.declared.event.Event.{Event}
use Rattle.tv_event.specs.declared.event.Event.TheVariants as events
use Rattle.tv_event.specs.declared.event.Key.{Key}
use Rattle.tv_event.specs.declared.event.Key.TheVariants as keys
use Rattle.tv_model.specs.declared.node.Id.{Id}
use Rattle.tv_model.specs.declared.node.Node.{Node}
use Rattle.tv_model.specs.declared.command.CommandSpec.{CommandSpec}
use Rattle.tv_model.specs.declared.desc.Dialog.{Dialog}
use Rattle.tv_model.specs.declared.log.LogLine.TheVariants as lines
use Rattle.tv_model.specs.Kinds.{behaviour}
use Rattle.tv_model.specs.Kinds.InputLine.{Edit, entered, left}
use Rattle.tv_model.specs.Controls.Behaviour.{Answer, Becomes, Passed, Presses, Down, Ignores, FocusesLink, Grips, Holds}
use Rattle.tv_model.specs.Controls.Shortcut.{item_marking, ClusterKind, Shortcut, NoMark, LinkMark, PressMark, ItemMarks}
use Rattle.tv_model.specs.Description.Commands.{command_number, command_of, is_declared}
use Rattle.tv_model.specs.Description.Heads.{dialog_head}
use Rattle.tv_model.specs.Description.Marks.{upper}
use Rattle.tv_model.specs.Description.Names.{meant}
use Rattle.tv_model.specs.Description.Nodes.{is_button, is_control, is_default}
use Rattle.tv_machine.specs.State.{Held}
use Rattle.tv_machine.specs.Leaves.{PlacedNode, leaf_list}
use Rattle.tv_machine.specs.Controls.Tables.{key_answer, move_content, up_answer}
use Rattle.tv_machine.specs.Dialog.Ending.{command, end_by, ended, first_invalid, press, pressed_by, shown_invalid}
use Rattle.tv_machine.specs.Dialog.Focus.{Moved, NotFree, Refused, Request, Same, after_request, focus_moved, is_free_at, is_free_leaf, is_granted, next_free, previous_free, refocused, request, requested, stops_of}
use Rattle.tv_machine.specs.Dialog.Keys.{alt_keyed, answered, declared_default, enter_target, focus_keyed, if_button, key, keyed, passed_on, press_enabled}
use Rattle.tv_machine.specs.Dialog.Modal.{Modal, content_at, content_put, leaf_at, with_line}
use Rattle.tv_machine.specs.Dialog.Mouse.{down, down_at, down_by, first_before, focus_and_hold, held_moved, held_up, hold, is_close_mark, is_inside, moved_on, released, row_on, topmost_leaf}
use Rattle.tv_machine.specs.Dialog.Rules.{is_enabled, is_free, is_visible}
use Rattle.tv_machine.specs.Dialog.Shortcuts.{act, act_on, called_by, marking_leaf, press_item, request_link}
use Rattle.tv_machine.specs.Dialog.Step.{free_step, held_step, step_by}
use Rattle.tv_laws.specs.Ends.{IsOpen}
use Rattle.tv_laws.specs.Fit.{IsFitHold}
use Rattle.tv_laws.specs.Sound.{IsSoundDialog}
use Rattle.tv_reach.specs.Givers.{EndsAreGiven, IsByDefault, IsGiven, IsInput}
use Rattle.tv_machine.proofs.LeafLemmas.{IsIn, found-in, leaf_at-in}
use Rattle.tv_machine.proofs.ListLemmas.{bool_cases, found-passes, option_cases}
use Rattle.tv_machine.proofs.RefocusLemmas.{refocused-keeps}
use Rattle.tv_laws.proofs.MarkerLemmas.{marker-in}

some_same : {A : Type 0} (x y : A) → Some x ≡ Some y → x ≡ y
some_same x y e = cc

none_some : {A : Type 0} (x : A) → None ≡ Some x → ⊥
none_some x e = cc

module _ (d : Dialog) (sound : IsSoundDialog d) where
  -- where it has ended, it was cancelled or given the command
  abbrev Ends : Modal → Modal → Type 0
  Ends m n = (number : ℕ) → n.ended ≡ Some number → (number ≡ 11) ⊎ IsGiven d m number

  goes-on : (m n : Modal) → n.ended ≡ None → Ends m n
  goes-on m n going number is = absurd (none_some number (sym going ∙ is))

  -- ---- what doesn't end it

  refocused_ended : (edit : Edit → Edit) (o : Option PlacedNode) (m : Modal) → (refocused d edit o m).ended ≡ m.ended
  refocused_ended edit o m = refocused-keeps (λ n. n.ended ≡ m.ended) d (λ j c n p. p) edit o m refl

  moved_ended : (m : Modal) (to : Id) → (focus_moved d to m).ended ≡ m.ended
  moved_ended m to = refocused_ended entered (leaf_at d to) (refocused d left (leaf_at d m.focus) m) ∙ refocused_ended left (leaf_at d m.focus) m

  after_ended : (m : Modal) (to : Id) (r : Request) → (after_request d to r m).ended ≡ m.ended
  after_ended m to Same = refl
  after_ended m to NotFree = refl
  after_ended m to Refused = refl
  after_ended m to Moved = moved_ended m to

  request_ended : (m : Modal) (to : Id) → (request d to m).ended ≡ m.ended
  request_ended m to = after_ended m to (requested d m to)

  link_ended : (m : Modal) (link : Option Node) → (request_link d link m).ended ≡ m.ended
  link_ended m None = refl
  link_ended m (Some link) = request_ended m link.id

  pub shown_ended : (m : Modal) (i : Id) → (shown_invalid d i m).ended ≡ m.ended
  shown_ended m i =
      bool_cases (i.0 == m.focus.0) (λ b. (if b then m else if is_free_at d m.leaves i then focus_moved d i m else m).ended ≡ m.ended) (λ here. refl)
      (λ there. bool_cases (is_free_at d m.leaves i) (λ b. (if b then focus_moved d i m else m).ended ≡ m.ended) (λ is. moved_ended m i) (λ is. refl))

  follow_ended : (m : Modal) (to : Id) (follow : Modal → Modal) → ((n : Modal) → (follow n).ended ≡ n.ended)
      → (if is_granted (requested d m to) then follow (request d to m) else request d to m).ended ≡ m.ended
  follow_ended m to follow keeps =
      bool_cases (is_granted (requested d m to)) (λ b. (if b then follow (request d to m) else request d to m).ended ≡ m.ended)
      (λ granted. keeps (request d to m) ∙ request_ended m to) (λ other. request_ended m to)

  -- ---- commands

  -- who gives a command to the dialog, which goes on
  record IsGiver (m : Modal) (number : ℕ) : Type 0 where
    leaf : PlacedNode
    there : IsIn d leaf
    gives : option_map command_number (command_of leaf.node.kind) ≡ Some number
    enabled : is_enabled d m.leaves leaf.node ≡ true
    shown : (is_visible d m.leaves leaf ≡ true) ⊎ IsByDefault d m leaf

  given : (m : Modal) (number : ℕ) → IsGiver m number → first_invalid d m ≡ None → IsGiven d m number
  given m number g valid = record { leaf = g.leaf; there = g.there; gives = g.gives; enabled = g.enabled; shown = g.shown; valid = valid }

  end_given : (m n : Modal) (number : ℕ) → n.leaves ≡ m.leaves → n.overwriting ≡ m.overwriting → n.ended ≡ None → IsGiver m number
      → (o : Option Id) → first_invalid d m ≡ o → Ends m (end_by d number o n)
  end_given m n number leaves overwriting going g None valid =
      λ x is. inr (subst (IsGiven d m) (some_same number x is) (given m number g valid))
  end_given m n number leaves overwriting going g (Some i) valid =
      goes-on m (shown_invalid d i (with_line (lines.Invalid i) n)) (shown_ended (with_line (lines.Invalid i) n) i ∙ going)

  command_given : (m : Modal) (i : Id) (number : ℕ) → m.ended ≡ None → IsGiver m number → Ends m (command d number (with_line (lines.Press i) m))
  command_given m i number going g =
      let n = with_line (lines.Press i) m in
      bool_cases ((number == 4) || (number == 11))
      (λ b. Ends m (if b then ended d 11 n else if is_declared (dialog_head d).ends number then end_by d number (first_invalid d n) n
      else if nat_le 100 number then with_line (lines.Command number) n else n))
      (λ is x e. inl (sym (some_same 11 x e)))
      (λ other. bool_cases (is_declared (dialog_head d).ends number)
      (λ b. Ends m (if b then end_by d number (first_invalid d n) n else if nat_le 100 number then with_line (lines.Command number) n else n))
      (λ is. end_given m n number refl refl going g (first_invalid d n) refl)
      (λ none. bool_cases (nat_le 100 number) (λ b. Ends m (if b then with_line (lines.Command number) n else n)) (λ own. goes-on m (with_line (lines.Command number) n) going)
      (λ low. goes-on m n going)))

  cancelled : (m : Modal) (number : ℕ) → ((number == 4) || (number == 11)) ≡ true → Ends m (command d number m)
  cancelled m number is =
      subst (λ b. Ends m (if b then ended d 11 m else if is_declared (dialog_head d).ends number then end_by d number (first_invalid d m) m
      else if nat_le 100 number then with_line (lines.Command number) m else m)) (sym is) (λ x e. inl (sym (some_same 11 x e)))

  pressed_given : (m : Modal) (leaf : PlacedNode) (o : Option CommandSpec) → command_of leaf.node.kind ≡ o → m.ended ≡ None → IsIn d leaf
      → is_enabled d m.leaves leaf.node ≡ true → (is_visible d m.leaves leaf ≡ true) ⊎ IsByDefault d m leaf → Ends m (pressed_by d leaf.node.id o m)
  pressed_given m leaf None is going e enabled shown = goes-on m m going
  pressed_given m leaf (Some c) is going e enabled shown =
      command_given m leaf.node.id (command_number c) going
      (record { leaf = leaf; there = e; gives = ap (option_map command_number) is; enabled = enabled; shown = shown })

  press_given : (m : Modal) (leaf : PlacedNode) → m.ended ≡ None → IsIn d leaf → is_enabled d m.leaves leaf.node ≡ true
      → (is_visible d m.leaves leaf ≡ true) ⊎ IsByDefault d m leaf → Ends m (press d leaf m)
  press_given m leaf going e enabled shown = pressed_given m leaf (command_of leaf.node.kind) refl going e enabled shown

  if_enabled : (m : Modal) (leaf : PlacedNode) → m.ended ≡ None → IsIn d leaf → (is_visible d m.leaves leaf ≡ true) ⊎ IsByDefault d m leaf
      → Ends m (if is_enabled d m.leaves leaf.node then press d leaf m else m)
  if_enabled m leaf going e shown =
      bool_cases (is_enabled d m.leaves leaf.node) (λ b. Ends m (if b then press d leaf m else m)) (λ on. press_given m leaf going e on shown) (λ off. goes-on m m going)

  -- ---- letters

  item_ended : (kind : ClusterKind) (i : Id) (item : Option ℕ) (n : Modal) → (press_item d kind i item n).ended ≡ n.ended
  item_ended kind i None n = refl
  item_ended kind i (Some item) n = refl

  called_given : (m : Modal) (letter : ℕ) (leaf : PlacedNode) (shortcut : Shortcut) → m.ended ≡ None → IsIn d leaf → is_visible d m.leaves leaf ≡ true
      → Ends m (called_by d letter leaf shortcut m)
  called_given m letter leaf NoMark going e visible = goes-on m m going
  called_given m letter leaf (LinkMark text name) going e visible = goes-on m (request_link d (meant d.views name) m) (link_ended m (meant d.views name) ∙ going)
  called_given m letter leaf (PressMark text name) going e visible = if_enabled m leaf going e (inl visible)
  called_given m letter leaf (ItemMarks kind name items) going e visible =
      goes-on m (called_by d letter leaf (ItemMarks kind name items) m)
      (follow_ended m leaf.node.id (press_item d kind leaf.node.id (item_marking items letter)) (λ n. item_ended kind leaf.node.id (item_marking items letter) n) ∙ going)

  act_given : (m : Modal) (letter : ℕ) (leaf : PlacedNode) → m.ended ≡ None → IsIn d leaf → Ends m (act d letter leaf m)
  act_given m letter leaf going e =
      bool_cases (is_visible d m.leaves leaf) (λ b. Ends m (if b then called_by d letter leaf (behaviour leaf.node.kind).shortcut m else m))
      (λ shown. called_given m letter leaf (behaviour leaf.node.kind).shortcut going e shown) (λ hidden. goes-on m m going)

  marker_given : (m : Modal) (letter : ℕ) → m.ended ≡ None → Ends m (act_on d letter (marking_leaf d m.leaves letter) m)
  marker_given m letter going =
      option_cases (marking_leaf d m.leaves letter) (λ o. Ends m (act_on d letter o m)) (λ none. goes-on m m going)
      (λ leaf found. act_given m letter leaf going (marker-in d m.leaves sound.lawful letter leaf found))

  -- ---- keys

  passed_given : (m : Modal) (k : Key) → m.ended ≡ None → Ends m (passed_on d k m)
  passed_given m (keys.Char ch) going = marker_given m (upper ch) going
  passed_given m _ going = goes-on m m going

  record IsFreeLeaf (m : Modal) (leaf : PlacedNode) : Type 0 where
    free : is_free d m.leaves leaf ≡ true
    visible : is_visible d m.leaves leaf ≡ true
    enabled : is_enabled d m.leaves leaf.node ≡ true

  free_focus : (m : Modal) (leaf : PlacedNode) → is_free_at d m.leaves m.focus ≡ true → leaf_at d m.focus ≡ Some leaf → IsFreeLeaf m leaf
  free_focus m leaf free there =
      let is : is_free d m.leaves leaf ≡ true = sym (ap (is_free_leaf d m.leaves) there) ∙ free in
      let both = and_parts (is_visible d m.leaves leaf) (is_enabled d m.leaves leaf.node)
      (and_parts (is_control leaf.node.kind) (is_visible d m.leaves leaf && is_enabled d m.leaves leaf.node) is).1 in
      record { free = is; visible = both.0; enabled = both.1 }

  answered_given : (m : Modal) (k : Key) (leaf : PlacedNode) (a : Answer) → m.ended ≡ None → IsIn d leaf → IsFreeLeaf m leaf → Ends m (answered d k leaf a m)
  answered_given m k leaf Passed going e f = passed_given m k going
  answered_given m k leaf (Becomes c) going e f = goes-on m (content_put d leaf.node.id c m) going
  answered_given m k leaf Presses going e f = press_given m leaf going e f.enabled (inl f.visible)

  focus_given : (m : Modal) (k : Key) → IsOpen d m → Ends m (focus_keyed d k m)
  focus_given m k o =
      option_cases (leaf_at d m.focus) (λ x. Ends m (keyed d k x m)) (λ none. passed_given m k o.going)
      (λ leaf there. answered_given m k leaf (key_answer leaf.node.kind k (content_at m leaf.node.id)) o.going (leaf_at-in d sound.lawful m.focus leaf there)
      (free_focus m leaf o.fit.focus there))

  enter_given : (m : Modal) → IsOpen d m → Ends m (press_enabled d (enter_target d m) m)
  enter_given m o =
      option_cases (leaf_at d m.focus) (λ x. Ends m (press_enabled d (option_or (if_button x) (declared_default d)) m)) (λ none. no_focus none)
      (λ leaf there. bool_cases (is_button leaf.node.kind) (λ b. Ends m (press_enabled d (option_or (if b then Some leaf else None) (declared_default d)) m))
      (λ is. if_enabled m leaf o.going (leaf_at-in d sound.lawful m.focus leaf there) (inl (free_focus m leaf o.fit.focus there).visible))
      (λ other. by_default leaf there other))
    where
      no_focus : leaf_at d m.focus ≡ None → Ends m (press_enabled d (declared_default d) m)
      no_focus none = absurd (of (sym (ap (is_free_leaf d m.leaves) none) ∙ o.fit.focus))
        where
          of : false ≡ true → ⊥
          of e = cc

      by_default : (leaf : PlacedNode) → leaf_at d m.focus ≡ Some leaf → is_button leaf.node.kind ≡ false → Ends m (press_enabled d (declared_default d) m)
      by_default leaf there other =
          option_cases (declared_default d) (λ x. Ends m (press_enabled d x m)) (λ none. goes-on m m o.going)
          (λ button found.
          if_enabled m button o.going (found-in d sound.lawful (λ x. is_default x.node) button found) (inr (record {
            default = found-passes (λ x. is_default x.node) (leaf_list d.views) button found;
            focus = leaf;
            there = leaf_at-in d sound.lawful m.focus leaf there;
            free = (free_focus m leaf o.fit.focus there).free;
            field = other;
          })))

  alt_given : (m : Modal) (letter : ℕ) → IsOpen d m → Ends m (alt_keyed d letter (marking_leaf d m.leaves letter) m)
  alt_given m letter o =
      option_cases (marking_leaf d m.leaves letter) (λ x. Ends m (alt_keyed d letter x m)) (λ none. focus_given m (keys.Alt letter) o)
      (λ leaf found. act_given m letter leaf o.going (marker-in d m.leaves sound.lawful letter leaf found))

  key_given : (k : Key) (m : Modal) → IsOpen d m → Ends m (key d k m)
  key_given keys.Tab m o = let to = next_free (stops_of d m.leaves) m.focus in goes-on m (request d to m) (request_ended m to ∙ o.going)
  key_given keys.ShiftTab m o = let to = previous_free (stops_of d m.leaves) m.focus in goes-on m (request d to m) (request_ended m to ∙ o.going)
  key_given keys.Esc m o = cancelled m 11 refl
  key_given keys.Enter m o = enter_given m o
  key_given (keys.Alt letter) m o = alt_given m letter o
  key_given k m o = focus_given m k o

  -- ---- the mouse

  grip_ended : (m : Modal) (leaf : PlacedNode) (p : Point) → (focus_and_hold d leaf p m).ended ≡ m.ended
  grip_ended m leaf p = follow_ended m leaf.node.id (hold d leaf (first_before m leaf) p) (λ n. refl)

  down_ended : (m : Modal) (leaf : PlacedNode) (asks : Down) (p : Point) → (down_by d leaf asks p m).ended ≡ m.ended
  down_ended m leaf Ignores p = refl
  down_ended m leaf (FocusesLink name) p = link_ended m (meant d.views name)
  down_ended m leaf (Grips grabs) p =
      bool_cases (is_enabled d m.leaves leaf.node) (λ b. (if b then (if grabs then focus_and_hold d leaf p m else hold d leaf 0 p m) else m).ended ≡ m.ended)
      (λ on. bool_cases grabs (λ b. (if b then focus_and_hold d leaf p m else hold d leaf 0 p m).ended ≡ m.ended) (λ grab. grip_ended m leaf p) (λ stay. refl))
      (λ off. refl)
  down_ended m leaf Holds p = grip_ended m leaf p

  down_given : (m : Modal) (p : Point) → m.ended ≡ None → Ends m (down d p m)
  down_given m p going =
      bool_cases (is_close_mark p) (λ b. Ends m (if b then command d 4 m else down_at d (topmost_leaf d m p) p m)) (λ mark. cancelled m 4 refl)
      (λ inside. option_cases (topmost_leaf d m p) (λ x. Ends m (down_at d x p m)) (λ none. goes-on m m going)
      (λ leaf found. goes-on m (down_by d leaf (behaviour leaf.node.kind).down p m) (down_ended m leaf (behaviour leaf.node.kind).down p ∙ going)))

  move_ended : (m : Modal) (leaf : PlacedNode) (p : Point) → (moved_on d leaf p m).ended ≡ m.ended
  move_ended m leaf p =
      let c = move_content leaf.node.kind (row_on leaf p) (content_at m leaf.node.id) in
      bool_cases (is_inside leaf p) (λ b. (if b then content_put d leaf.node.id c m else m).ended ≡ m.ended) (λ inside. refl) (λ outside. refl)

  -- the mouse is let go, and nothing else is changed
  let_go : (m : Modal) (number : ℕ) → (number ≡ 11) ⊎ IsGiven d (record m { held = None }) number → (number ≡ 11) ⊎ IsGiven d m number
  let_go m number (inl is) = inl is
  let_go m number (inr g) = inr (record {
    leaf = g.leaf;
    there = g.there;
    gives = g.gives;
    enabled = g.enabled;
    shown = of g.shown;
    valid = g.valid;
  })
    where
      of : (is_visible d m.leaves g.leaf ≡ true) ⊎ IsByDefault d (record m { held = None }) g.leaf → (is_visible d m.leaves g.leaf ≡ true) ⊎ IsByDefault d m g.leaf
      of (inl v) = inl v
      of (inr b) = inr (record { default = b.default; focus = b.focus; there = b.there; free = b.free; field = b.field })

  released_given : (m : Modal) (leaf : PlacedNode) (a : Answer) → m.ended ≡ None → IsIn d leaf → is_visible d m.leaves leaf ≡ true
      → is_enabled d m.leaves leaf.node ≡ true → Ends m (released d leaf a m)
  released_given m leaf Passed going e visible enabled = goes-on m m going
  released_given m leaf (Becomes c) going e visible enabled = goes-on m (content_put d leaf.node.id c m) going
  released_given m leaf Presses going e visible enabled = press_given m leaf going e enabled (inl visible)

  up_given : (m : Modal) (leaf : PlacedNode) (item : ℕ) (p : Point) → m.ended ≡ None → IsIn d leaf → is_visible d m.leaves leaf ≡ true
      → is_enabled d m.leaves leaf.node ≡ true → Ends m (held_up d (Some leaf) item p m)
  up_given m leaf item p going e visible enabled =
      let n : Modal = record m { held = None } in
      bool_cases (is_inside leaf p)
      (λ b. Ends m (if b then released d leaf (up_answer leaf.node.kind item (row_on leaf p) (content_at m leaf.node.id)) n else n))
      (λ inside x is. let_go m x (released_given n leaf (up_answer leaf.node.kind item (row_on leaf p) (content_at m leaf.node.id)) going e visible enabled x is))
      (λ outside. goes-on m n going)

  -- ---- one event

  free_given : (e : Event) (m : Modal) → IsOpen d m → IsInput e → Ends m (free_step d e m)
  free_given (events.Key k) m o given = key_given k m o
  free_given (events.Down p) m o given = down_given m p o.going
  free_given (events.Move p) m o given = goes-on m m o.going
  free_given (events.Up p) m o given = goes-on m m o.going
  free_given (events.Command c) m o given = absurd given
  free_given (events.Broadcast c) m o given = goes-on m m o.going

  held_given : (held : Held) (e : Event) (m : Modal) → IsFitHold d m held → m.ended ≡ None → IsInput e → Ends m (held_step d held e m)
  held_given held (events.Key k) m h going given = goes-on m m going
  held_given held (events.Down p) m h going given = goes-on m m going
  held_given held (events.Move p) m h going given =
      subst (λ x. Ends m (held_moved d x p m)) (sym h.there) (goes-on m (moved_on d h.leaf p m) (move_ended m h.leaf p ∙ going))
  held_given held (events.Up p) m h going given =
      subst (λ x. Ends m (held_up d x held.item p m)) (sym h.there)
      (up_given m h.leaf held.item p going (leaf_at-in d sound.lawful held.id h.leaf h.there) h.visible h.enabled)
  held_given held (events.Command c) m h going given = absurd given
  held_given held (events.Broadcast c) m h going given = goes-on m m going

  pub ends-are-given : EndsAreGiven d
  ends-are-given m e number o input is =
      option_cases m.held (λ held. Ends m (step_by d held e m)) (λ none. free_given e m o input)
      (λ held some. held_given held e m (o.fit.held held some) o.going input) number is
