-- Whether a view of the open dialog holds the mouse after an event.
use Rattle.std.proofs.Common.{◌≡◌, ℕ, Bool, true, false, ◌&&◌, Option, Some, None, is_some, if◌then◌else◌, refl, sym, ap, ◌∙◌}
use Rattle.tv_cells.specs.declared.rect.Point.{Point}
use Rattle.tv_event.specs.declared.event.Event.{Event}
use Rattle.tv_event.specs.declared.event.Event.TheVariants as events
use Rattle.tv_event.specs.declared.event.Key.{Key}
use Rattle.tv_event.specs.declared.event.Key.TheVariants as keys
use Rattle.tv_model.specs.declared.node.Id.{Id}
use Rattle.tv_model.specs.declared.node.Node.{Node}
use Rattle.tv_model.specs.declared.command.CommandSpec.{CommandSpec}
use Rattle.tv_model.specs.declared.desc.Dialog.{Dialog}
use Rattle.tv_model.specs.declared.log.LogLine.TheVariants as lines
use Rattle.tv_model.specs.Kinds.{behaviour}
use Rattle.tv_model.specs.Controls.Behaviour.{Answer, Passed, Becomes, Presses}
use Rattle.tv_model.specs.Controls.Shortcut.{ClusterKind, Shortcut, NoMark, LinkMark, PressMark, ItemMarks, item_marking}
use Rattle.tv_model.specs.Description.Commands.{command_number, command_of}
use Rattle.tv_model.specs.Description.Marks.{upper}
use Rattle.tv_model.specs.Description.Names.{meant}
use Rattle.tv_machine.specs.Controls.Tables.{key_answer}
use Rattle.tv_machine.specs.Leaves.{PlacedNode}
use Rattle.tv_machine.specs.State.{Held}
use Rattle.tv_machine.specs.Dialog.Ending.{pressed_by}
use Rattle.tv_machine.specs.Dialog.Focus.{is_granted, next_free, previous_free, request, requested, stops_of}
use Rattle.tv_machine.specs.Dialog.Keys.{alt_keyed, answered, enter_target, key, keyed, passed_on}
use Rattle.tv_machine.specs.Dialog.Lawful.{IsLawfulDialog}
use Rattle.tv_machine.specs.Dialog.Modal.{Modal, content_at, leaf_at, with_line}
use Rattle.tv_machine.specs.Dialog.Rules.{is_enabled, is_visible}
use Rattle.tv_machine.specs.Dialog.Shortcuts.{act_on, call_item, called, called_by, marking_leaf, press_item, request_link}
use Rattle.tv_machine.specs.Dialog.Step.{dialog_step, free_step, step_by}
use Rattle.tv_machine.specs.Session.Step.{event_from}
use Rattle.tv_machine.proofs.ListLemmas.{bool_cases, option_cases}
use Rattle.tv_laws.specs.Steps.{RespectsHold}
use Rattle.tv_group.proofs.Tree.Keys.ReactedLemmas.{held-command, held-enter}
use Rattle.tv_group.proofs.Tree.RequestLemmas.{held-request}
use Rattle.tv_dialogs.specs.Kept.{may_hold}

-- ---- a key lets no leaf take the mouse

module _ (d : Dialog) (lawful : IsLawfulDialog d) where
  -- the same leaf holds it, if one does
  abbrev Keeps : Modal → Modal → Type 0
  Keeps m n = n.held ≡ m.held

  pressed : (i : Id) (given : Option CommandSpec) (m : Modal) → Keeps m (pressed_by d i given m)
  pressed i None m = refl
  pressed i (Some given) m = held-command d lawful (command_number given) (with_line (lines.Press i) m)

  linked : (link : Option Node) (m : Modal) → Keeps m (request_link d link m)
  linked None m = refl
  linked (Some link) m = held-request d lawful m link.id

  item_pressed : (kind : ClusterKind) (i : Id) (item : Option ℕ) (m : Modal) → Keeps m (press_item d kind i item m)
  item_pressed kind i None m = refl
  item_pressed kind i (Some item) m = refl

  item_called : (kind : ClusterKind) (i : Id) (item : Option ℕ) (m : Modal) → Keeps m (call_item d kind i item m)
  item_called kind i item m =
      bool_cases (is_granted (requested d m i)) (λ b. Keeps m (if b then press_item d kind i item (request d i m) else request d i m))
      (λ is. item_pressed kind i item (request d i m) ∙ held-request d lawful m i) (λ isnt. held-request d lawful m i)

  marked : (letter : ℕ) (leaf : PlacedNode) (mark : Shortcut) (m : Modal) → Keeps m (called_by d letter leaf mark m)
  marked letter leaf NoMark m = refl
  marked letter leaf (LinkMark text name) m = linked (meant d.views name) m
  marked letter leaf (PressMark text name) m =
      bool_cases (is_enabled d m.leaves leaf.node) (λ b. Keeps m (if b then pressed_by d leaf.node.id (command_of leaf.node.kind) m else m))
      (λ is. pressed leaf.node.id (command_of leaf.node.kind) m) (λ isnt. refl)
  marked letter leaf (ItemMarks kind name items) m = item_called kind leaf.node.id (item_marking items letter) m

  lettered : (letter : ℕ) (marker : Option PlacedNode) (m : Modal) → Keeps m (act_on d letter marker m)
  lettered letter None m = refl
  lettered letter (Some leaf) m =
      bool_cases (is_visible d m.leaves leaf) (λ b. Keeps m (if b then called d letter leaf leaf.node.kind m else m))
      (λ is. marked letter leaf (behaviour leaf.node.kind).shortcut m) (λ isnt. refl)

  passed : (k : Key) (m : Modal) → Keeps m (passed_on d k m)
  passed (keys.Char ch) m = lettered (upper ch) (marking_leaf d m.leaves (upper ch)) m
  passed _ m = refl

  given : (k : Key) (leaf : PlacedNode) (a : Answer) (m : Modal) → Keeps m (answered d k leaf a m)
  given k leaf Passed m = passed k m
  given k leaf (Becomes content) m = refl
  given k leaf Presses m = pressed leaf.node.id (command_of leaf.node.kind) m

  handed : (k : Key) (focus : Option PlacedNode) (m : Modal) → Keeps m (keyed d k focus m)
  handed k None m = passed k m
  handed k (Some leaf) m = given k leaf (key_answer leaf.node.kind k (content_at m leaf.node.id)) m

  lettered_first : (letter : ℕ) (marker : Option PlacedNode) (m : Modal) → Keeps m (alt_keyed d letter marker m)
  lettered_first letter None m = handed (keys.Alt letter) (leaf_at d m.focus) m
  lettered_first letter (Some leaf) m = lettered letter (Some leaf) m

  key_keeps : (k : Key) (m : Modal) → Keeps m (key d k m)
  key_keeps keys.Tab m = held-request d lawful m (next_free (stops_of d m.leaves) m.focus)
  key_keeps keys.ShiftTab m = held-request d lawful m (previous_free (stops_of d m.leaves) m.focus)
  key_keeps keys.Esc m = held-command d lawful 11 m
  key_keeps keys.Enter m = held-enter d lawful m (enter_target d m)
  key_keeps (keys.Alt letter) m = lettered_first letter (marking_leaf d m.leaves letter) m
  key_keeps k m = handed k (leaf_at d m.focus) m

  -- ---- nor does any event but a mouse down

  still_free : (e : Event) (m : Modal) → m.held ≡ None → (free_step d e m).held ≡ m.held → is_some (dialog_step d e m).held ≡ false
  still_free e m free keeps =
      option_cases m.held (λ o. m.held ≡ o → is_some o ≡ false → is_some (step_by d o e m).held ≡ false)
      (λ none same loose. ap is_some (keeps ∙ same)) (λ held some same loose. absurd cc) refl (ap is_some free)

  none-of : (o : Option Held) (was : Bool) → was ≡ is_some o → was ≡ false → o ≡ None
  none-of None was same is = refl
  none-of (Some held) was same is = cc

  pub unheld-stays : (e : Event) (corner : Point) (m : Modal) (was : Bool) → was ≡ is_some m.held → may_hold was e ≡ false
      → is_some (dialog_step d (event_from corner e) m).held ≡ false
  unheld-stays (events.Down p) corner m was same is = cc
  unheld-stays (events.Key k) corner m was same is = still_free (events.Key k) m (none-of m.held was same is) (key_keeps k m)
  unheld-stays (events.Command c) corner m was same is = still_free (events.Command c) m (none-of m.held was same is) (held-command d lawful c.0 m)
  unheld-stays (events.Move p) corner m was same is = still_free (event_from corner (events.Move p)) m (none-of m.held was same is) refl
  unheld-stays (events.Up p) corner m was same is = still_free (event_from corner (events.Up p)) m (none-of m.held was same is) refl
  unheld-stays (events.Broadcast c) corner m was same is = still_free (events.Broadcast c) m (none-of m.held was same is) refl

-- ---- what the views are asked

-- the views of an open dialog are asked where one may hold the mouse
pub asked-where : (going may holds : Bool) (held : Option Held) → (may ≡ true → holds ≡ is_some held) → (may ≡ false → is_some held ≡ false)
    → ((going && may) && holds) ≡ (going && is_some held)
asked-where true true holds held asked unasked = asked refl
asked-where true false holds held asked unasked = sym (unasked refl)
asked-where false may holds held asked unasked = refl

-- an event is as fit for the hold where its point is seen from a corner
pub respects-from : (held : Option Held) (corner : Point) (e : Event) → RespectsHold held e → RespectsHold held (event_from corner e)
respects-from None corner e given = tt
respects-from (Some held) corner (events.Down p) given = tt
respects-from (Some held) corner (events.Key k) given = tt
respects-from (Some held) corner (events.Command c) given = given
respects-from (Some held) corner (events.Move p) given = tt
respects-from (Some held) corner (events.Up p) given = tt
respects-from (Some held) corner (events.Broadcast c) given = tt
