-- What an act leaves: the values of other controls, what the mouse holds, and the lines of the log.
use Rattle.std.proofs.Common.{◌≡◌, ◌⊎◌, inl, inr, Bool, true, false, ◌||◌, ◌==◌, ℕ, if◌then◌else◌, [], ◌∷◌, ◌++◌, map, Option, Some, None, refl, sym, ap, subst, ◌∙◌, All, append_assoc}
use Rattle.std.specs.Prelude.{nat_le}
use Rattle.std.proofs.lemmas.Bool.{true≢false}
use Rattle.std.proofs.lemmas.List.{append-nil}
use Rattle.std.proofs.lemmas.List.Elements.{All-append, All-cons, All-map, All-push}
use Rattle.tv_model.specs.declared.node.Id.{Id}
use Rattle.tv_model.specs.declared.node.Node.{Node}
use Rattle.tv_model.specs.declared.kind.Input.{Input}
use Rattle.tv_model.specs.declared.kind.Kind.{Kind}
use Rattle.tv_model.specs.declared.kind.Kind.TheVariants as kinds
use Rattle.tv_model.specs.Kinds.{behaviour}
use Rattle.tv_model.specs.declared.command.CommandSpec.{CommandSpec}
use Rattle.tv_model.specs.declared.desc.Dialog.{Dialog}
use Rattle.tv_model.specs.declared.log.LogLine.{LogLine}
use Rattle.tv_model.specs.declared.log.LogLine.TheVariants as lines
use Rattle.tv_model.specs.declared.record.Value.{Value}
use Rattle.tv_model.specs.declared.record.Value.TheVariants as values
use Rattle.tv_model.specs.Controls.Shortcut.{item_marking, ClusterKind, Shortcut, NoMark, LinkMark, PressMark, ItemMarks}
use Rattle.tv_model.specs.Kinds.InputLine.{Edit, entered, left, edit_of}
use Rattle.tv_model.specs.Description.Commands.{command_number, command_of, is_declared}
use Rattle.tv_model.specs.Description.Heads.{dialog_head}
use Rattle.tv_model.specs.declared.desc.Version.{Version}
use Rattle.tv_machine.specs.Leaves.{PlacedNode, leaf_list}
use Rattle.tv_model.specs.Controls.Contents.{Content, text_of}
use Rattle.tv_model.specs.Kinds.Cluster.{cluster_item_pressed}
use Rattle.tv_machine.specs.Dialog.Ending.{command, end_by, ended, field_line, fields_of, first_invalid, press, pressed_by, shown_invalid}
use Rattle.tv_machine.specs.Dialog.Focus.{Moved, NotFree, Refused, Request, Same, after_request, focus_moved, is_free_at, is_granted, refocused, request, requested}
use Rattle.tv_machine.specs.Dialog.Modal.{Modal, content_at, leaf_at, content_put, with_line}
use Rattle.tv_machine.specs.Dialog.Rules.{is_enabled, is_visible}
use Rattle.tv_machine.specs.Dialog.Shortcuts.{act, call_item, called_by, press_item, request_link}
use Rattle.tv_machine.specs.Safe.{HasValueOf}
use Rattle.tv_laws.specs.Fit.{IsStanding}
use Rattle.tv_laws.specs.Letters.{HasLines, IsActOn, LogGrows, IsFocusAfter, IsPressOf, KeepsOthers}
use Rattle.tv_laws.proofs.KeyLaws.MarkerActs.{MarkersActOnOwners}
use Rattle.tv_laws.specs.Sound.{IsSoundDialog}
use Rattle.tv_machine.proofs.RefocusLemmas.{content_at-moved, leaves-moved, moved_content, refocused-keeps, refocused_content}
use Rattle.tv_machine.proofs.LeafLemmas.{HasLeaves, IsIn, content_at-other, leaves-are}
use Rattle.tv_laws.proofs.KeyLaws.LetterLemmas.{control-in, control_in, is-owner, is_press_mark, press-mark}
use Rattle.tv_machine.proofs.ListLemmas.{bool_cases, option_cases}
use Rattle.tv_laws.proofs.StandLemmas.{standing-leaf}

-- ---- the coming and going of the focus leaves values alone

text_value : (input : Input) (v : Option Value) → HasValueOf (kinds.Input input) v → Some (values.Text (text_of v)) ≡ v
text_value input None h = absurd (true≢false h)
text_value input (Some (values.Text text)) h = refl
text_value input (Some (values.Marks marks)) h = absurd h
text_value input (Some (values.Item item)) h = absurd h

-- an edit that keeps the text keeps the value
refocused_value : (edit : Edit → Edit) → ((e : Edit) → (edit e).text ≡ e.text) → (k : Kind) (c : Content) → HasValueOf k c.value
    → (refocused_content edit k c).value ≡ c.value
refocused_value edit keeps (kinds.Input input) c fits = ap (λ text. Some (values.Text text)) (keeps (edit_of c)) ∙ text_value input c.value fits
refocused_value edit keeps _ c fits = refl

left_value : (k : Kind) (c : Content) → HasValueOf k c.value → (refocused_content left k c).value ≡ c.value
left_value k c fits = refocused_value left (λ e. refl) k c fits

entered_value : (k : Kind) (c : Content) → HasValueOf k c.value → (refocused_content entered k c).value ≡ c.value
entered_value k c fits = refocused_value entered (λ e. refl) k c fits

moved_value : (to from : Bool) (k : Kind) (c : Content) → HasValueOf k c.value → (moved_content to from k c).value ≡ c.value
moved_value true true k c fits =
    let gone = left_value k c fits in
    entered_value k (refocused_content left k c) (subst (HasValueOf k) (sym gone) fits) ∙ gone
moved_value true false k c fits = entered_value k c fits
moved_value false true k c fits = left_value k c fits
moved_value false false k c fits = refl

-- ---- the log and the end

field_lines : (i : Id) (m : Modal) (number : ℕ) (d : Dialog)
    → All (IsPressOf i) (lines.End d.node.id (record { 0 = number }) ∷ map field_line (fields_of m.leaves))
field_lines i m number d =
    All-cons (IsPressOf i) (lines.End d.node.id (record { 0 = number })) (map field_line (fields_of m.leaves)) tt
    (All-map (IsPressOf i) field_line (fields_of m.leaves) (λ k e h. tt))

-- the focus stays
stays : (is_press : Bool) (d : Dialog) (i : Id) (m : Modal) → IsFocusAfter is_press d i m m.focus
stays true d i m = inl refl
stays false d i m = inl refl

module _ (d : Dialog) (sound : IsSoundDialog d) where
  -- no leaf has another value
  abbrev KeepsAll : Modal → Modal → Type 0
  KeepsAll m n = All (λ leaf. (content_at n leaf.node.id).value ≡ (content_at m leaf.node.id).value) (leaf_list d.views)

  -- the move of the focus leaves every value alone
  pub moved-value : (m : Modal) (i : Id) → IsStanding d m → (leaf : PlacedNode) → IsIn d leaf
      → (content_at (focus_moved d i m) leaf.node.id).value ≡ (content_at m leaf.node.id).value
  moved-value m i s leaf e =
      ap (λ c. c.value) (content_at-moved d sound.lawful m i s.leaves leaf e)
      ∙ moved_value (leaf.node.id.0 == i.0) (leaf.node.id.0 == m.focus.0) leaf.node.kind (content_at m leaf.node.id) (standing-leaf d sound m s leaf e).safe.value

  moved_values : (m : Modal) (i : Id) → IsStanding d m → KeepsAll m (focus_moved d i m)
  moved_values m i s =
      leaves-are d sound.lawful (λ leaf. (content_at (focus_moved d i m) leaf.node.id).value ≡ (content_at m leaf.node.id).value) (moved-value m i s)

  refocused_log : (i : Id) (edit : Edit → Edit) (o : Option PlacedNode) (m : Modal) → All (IsPressOf i) m.log → All (IsPressOf i) (refocused d edit o m).log
  refocused_log i edit o m log = refocused-keeps (λ n. All (IsPressOf i) n.log) d (λ j c n p. p) edit o m log

  moved_log : (i : Id) (m : Modal) (to : Id) → All (IsPressOf i) m.log → All (IsPressOf i) (focus_moved d to m).log
  moved_log i m to log =
      let n = refocused d left (leaf_at d m.focus) m in
      All-push (IsPressOf i) (refocused d entered (leaf_at d to) n).log (lines.Focus to) (refocused_log i entered (leaf_at d to) n (refocused_log i left (leaf_at d m.focus) m log)) tt

  refocused_ended : (edit : Edit → Edit) (o : Option PlacedNode) (m : Modal) → (refocused d edit o m).ended ≡ m.ended
  refocused_ended edit o m = refocused-keeps (λ n. n.ended ≡ m.ended) d (λ j c n p. p) edit o m refl

  moved_ended : (m : Modal) (to : Id) → (focus_moved d to m).ended ≡ m.ended
  moved_ended m to =
      refocused_ended entered (leaf_at d to) (refocused d left (leaf_at d m.focus) m) ∙ refocused_ended left (leaf_at d m.focus) m

  moved_held : (m : Modal) (to : Id) → (focus_moved d to m).held ≡ m.held
  moved_held m to =
      let n = refocused d left (leaf_at d m.focus) m in
      refocused-keeps (λ o. o.held ≡ n.held) d (λ j c o p. p) entered (leaf_at d to) n refl
      ∙ refocused-keeps (λ o. o.held ≡ m.held) d (λ j c o p. p) left (leaf_at d m.focus) m refl

  -- ---- the log

  no_line : (m : Modal) → LogGrows m m
  no_line m = ([], sym (append-nil m.log))

  grows_then : (m n o : Modal) → LogGrows m n → LogGrows n o → LogGrows m o
  grows_then m n o a b = (a.0 ++ b.0, b.1 ∙ (ap (λ log. log ++ b.0) a.1 ∙ append_assoc m.log a.0 b.0))

  moved_grows : (m : Modal) (to : Id) → LogGrows m (focus_moved d to m)
  moved_grows m to =
      let n = refocused d left (leaf_at d m.focus) m in
      let log : (refocused d entered (leaf_at d to) n).log ≡ m.log = refocused-keeps (λ o. o.log ≡ n.log) d (λ j c o p. p) entered (leaf_at d to) n refl
      ∙ refocused-keeps (λ o. o.log ≡ m.log) d (λ j c o p. p) left (leaf_at d m.focus) m refl in
      (lines.Focus to ∷ [], ap (λ l. l ++ lines.Focus to ∷ []) log)

  -- nothing happens
  idle_act : (is_press : Bool) (i : Id) (m : Modal) → IsActOn d is_press i m m
  idle_act is_press i m = record {
    focus = stays is_press d i m;
    values = λ k e h other. refl;
    held = refl;
    grows = no_line m;
    presses = λ log. log;
    ended = λ e. refl;
  }

  -- ---- requests

  -- what a request for the focus comes to
  record IsAsked (to : Id) (m : Modal) (n : Modal) : Type 0 where
    focus : (n.focus ≡ m.focus) ⊎ (n.focus ≡ to)
    leaves : HasLeaves d n
    values : KeepsAll m n
    held : n.held ≡ m.held
    grows : LogGrows m n
    log : (i : Id) → All (IsPressOf i) m.log → All (IsPressOf i) n.log
    ended : n.ended ≡ m.ended

  asked_by : (to : Id) (r : Request) (m : Modal) → IsStanding d m → IsAsked to m (after_request d to r m)
  asked_by to Same m s =
      record { focus = inl refl; leaves = s.leaves; values = λ k e h. refl; held = refl; grows = no_line m; log = λ i log. log; ended = refl }
  asked_by to NotFree m s =
      record { focus = inl refl; leaves = s.leaves; values = λ k e h. refl; held = refl; grows = no_line m; log = λ i log. log; ended = refl }
  asked_by to Refused m s = record {
    focus = inl refl;
    leaves = s.leaves;
    values = λ k e h. refl;
    held = refl;
    grows = (lines.Invalid m.focus ∷ [], refl);
    log = λ i log. All-push (IsPressOf i) m.log (lines.Invalid m.focus) log tt;
    ended = refl;
  }
  asked_by to Moved m s = record {
    focus = inr refl;
    leaves = leaves-moved d sound.lawful m to s.leaves;
    values = moved_values m to s;
    held = moved_held m to;
    grows = moved_grows m to;
    log = λ i log. moved_log i m to log;
    ended = moved_ended m to;
  }

  asked : (to : Id) (m : Modal) → IsStanding d m → IsAsked to m (request d to m)
  asked to m s = asked_by to (requested d m to) m s

  -- a request is an act on the control that asks
  asked_act : (i : Id) (m n : Modal) → IsAsked i m n → IsActOn d false i m n
  asked_act i m n a = record {
    focus = a.focus;
    values = λ k e h other. a.values k e h;
    held = a.held;
    grows = a.grows;
    presses = a.log i;
    ended = λ e. a.ended;
  }

  pressed_values : (i : Id) (c : Content) (m n : Modal) → IsAsked i m n → KeepsOthers d i m (content_put d i c n)
  pressed_values i c m n a =
      let others : All (λ leaf. (leaf.node.id.0 == i.0) ≡ false → content_at (content_put d i c n) leaf.node.id ≡ content_at n leaf.node.id) (leaf_list d.views) =
      leaves-are d sound.lawful (λ leaf. (leaf.node.id.0 == i.0) ≡ false → content_at (content_put d i c n) leaf.node.id ≡ content_at n leaf.node.id)
      (λ leaf e other. content_at-other d sound.lawful n a.leaves i c leaf e other) in
      λ k e h other. ap (λ x. x.value) (others k e h other) ∙ a.values k e h

  -- its item is pressed
  pressed_act : (kind : ClusterKind) (i : Id) (item : Option ℕ) (m n : Modal) → IsAsked i m n → IsActOn d false i m (press_item d kind i item n)
  pressed_act kind i None m n a = asked_act i m n a
  pressed_act kind i (Some item) m n a = record {
    focus = a.focus;
    values = pressed_values i (cluster_item_pressed kind item (content_at n i)) m n a;
    held = a.held;
    grows = a.grows;
    presses = a.log i;
    ended = λ e. a.ended;
  }

  item_act : (kind : ClusterKind) (i : Id) (item : Option ℕ) (m : Modal) → IsStanding d m → IsActOn d false i m (call_item d kind i item m)
  item_act kind i item m s =
      bool_cases (is_granted (requested d m i)) (λ b. IsActOn d false i m (if b then press_item d kind i item (request d i m) else request d i m))
      (λ granted. pressed_act kind i item m (request d i m) (asked i m s)) (λ other. asked_act i m (request d i m) (asked i m s))

  -- ---- presses

  module _ (m : Modal) (i : Id) (s : IsStanding d m) where
    -- the press is logged
    abbrev pressed : Modal
    pressed = with_line (lines.Press i) m

    abbrev IsPressed : Modal → Type 0
    IsPressed n = IsActOn d true i m n

    press_grows : LogGrows m pressed
    press_grows = (lines.Press i ∷ [], refl)

    press_log : All (IsPressOf i) m.log → All (IsPressOf i) pressed.log
    press_log log = All-push (IsPressOf i) m.log (lines.Press i) log refl

    line_pressed : (line : LogLine) → IsPressOf i line → IsPressed (with_line line pressed)
    line_pressed line is = record {
      focus = inl refl;
      values = λ k e h other. refl;
      held = refl;
      grows = grows_then m pressed (with_line line pressed) press_grows (line ∷ [], refl);
      presses = λ log. All-push (IsPressOf i) pressed.log line (press_log log) is;
      ended = λ e. absurd (true≢false e);
    }

    as_pressed : IsPressed pressed
    as_pressed = record {
      focus = inl refl;
      values = λ k e h other. refl;
      held = refl;
      grows = press_grows;
      presses = press_log;
      ended = λ e. absurd (true≢false e);
    }

    ended_pressed : (number : ℕ) → IsPressed (ended d number pressed)
    ended_pressed number = record {
      focus = inl refl;
      values = λ k e h other. refl;
      held = refl;
      grows = grows_then m pressed (ended d number pressed) press_grows (lines.End d.node.id (record { 0 = number }) ∷ map field_line (fields_of m.leaves), refl);
      presses = λ log. All-append (IsPressOf i) pressed.log (lines.End d.node.id (record { 0 = number }) ∷ map field_line (fields_of m.leaves)) (press_log log) (field_lines i m number d);
      ended = λ e. absurd (true≢false e);
    }

    -- an end is refused
    abbrev refused : Id → Modal
    refused j = with_line (lines.Invalid j) pressed

    refused_stands : (j : Id) → IsStanding d (refused j)
    refused_stands j = record { leaves = s.leaves; contents = s.contents; ordered = s.ordered }

    moved_pressed : (j : Id) → first_invalid d m ≡ Some j → IsPressed (focus_moved d j (refused j))
    moved_pressed j e = record {
      focus = inr e;
      values = λ k f h other. moved_values (refused j) j (refused_stands j) k f h;
      held = moved_held (refused j) j;
      grows = grows_then m (refused j) (focus_moved d j (refused j))
          (grows_then m pressed (refused j) press_grows (lines.Invalid j ∷ [], refl)) (moved_grows (refused j) j);
      presses = λ log. moved_log i (refused j) j (All-push (IsPressOf i) pressed.log (lines.Invalid j) (press_log log) tt);
      ended = λ f. absurd (true≢false f);
    }

    shown_pressed : (j : Id) → first_invalid d m ≡ Some j → IsPressed (shown_invalid d j (refused j))
    shown_pressed j e =
        bool_cases (j.0 == m.focus.0)
        (λ b. IsPressed (if b then refused j else if is_free_at d m.leaves j then focus_moved d j (refused j) else refused j)) (λ here. line_pressed (lines.Invalid j) tt)
        (λ there. bool_cases (is_free_at d m.leaves j) (λ b. IsPressed (if b then focus_moved d j (refused j) else refused j))
        (λ free. moved_pressed j e) (λ other. line_pressed (lines.Invalid j) tt))

    end_pressed : (number : ℕ) → IsPressed (end_by d number (first_invalid d pressed) pressed)
    end_pressed number =
        option_cases (first_invalid d m) (λ o. IsPressed (end_by d number o pressed)) (λ none. ended_pressed number) (λ j e. shown_pressed j e)

    command_pressed : (number : ℕ) → IsPressed (command d number pressed)
    command_pressed number =
        bool_cases ((number == 4) || (number == 11))
        (λ b. IsPressed (if b then ended d 11 pressed else if is_declared (dialog_head d).ends number then end_by d number (first_invalid d pressed) pressed
        else if nat_le 100 number then with_line (lines.Command number) pressed else pressed))
        (λ is. ended_pressed 11)
        (λ other. bool_cases (is_declared (dialog_head d).ends number)
        (λ b. IsPressed (if b then end_by d number (first_invalid d pressed) pressed else if nat_le 100 number then with_line (lines.Command number) pressed else pressed))
        (λ is. end_pressed number)
        (λ none. bool_cases (nat_le 100 number) (λ b. IsPressed (if b then with_line (lines.Command number) pressed else pressed))
        (λ own. line_pressed (lines.Command number) tt) (λ low. as_pressed)))

    press_act : (given : Option CommandSpec) → IsPressed (pressed_by d i given m)
    press_act None = idle_act true i m
    press_act (Some given) = command_pressed (command_number given)

  -- ---- acts

  button_act : (marker : PlacedNode) (m : Modal) → IsStanding d m
      → IsActOn d true marker.node.id m (if is_enabled d m.leaves marker.node then press d marker m else m)
  button_act marker m s =
      bool_cases (is_enabled d m.leaves marker.node) (λ b. IsActOn d true marker.node.id m (if b then press d marker m else m))
      (λ enabled. press_act m marker.node.id s (command_of marker.node.kind)) (λ disabled. idle_act true marker.node.id m)

  -- a marker that is its own control
  on_itself : (is_press : Bool) (marker control : Node) (m n : Modal) → Some marker ≡ Some control → IsActOn d is_press marker.id m n
      → IsActOn d is_press control.id m n
  on_itself is_press marker control m n e is = let same : marker ≡ control = cc in subst (λ node. IsActOn d is_press node.id m n) same is

  called_act : (m : Modal) (letter : ℕ) (marker : PlacedNode) (control : Node) (shortcut : Shortcut) → IsStanding d m
      → control_in d marker.node shortcut ≡ Some control → IsActOn d (is_press_mark shortcut) control.id m (called_by d letter marker shortcut m)
  called_act m letter marker control NoMark s e = idle_act false control.id m
  called_act m letter marker control (LinkMark text name) s e =
      subst (λ o. IsActOn d false control.id m (request_link d o m)) (sym e) (asked_act control.id m (request d control.id m) (asked control.id m s))
  called_act m letter marker control (PressMark text name) s e =
      on_itself true marker.node control m (called_by d letter marker (PressMark text name) m) e (button_act marker m s)
  called_act m letter marker control (ItemMarks kind name items) s e =
      on_itself false marker.node control m (called_by d letter marker (ItemMarks kind name items) m) e (item_act kind marker.node.id (item_marking items letter) m s)

  pub acts-on-owner : (version : Version) → HasLines version d → MarkersActOnOwners version d
  acts-on-owner version has m letter marker control fit there e =
      let shortcut = (behaviour marker.node.kind).shortcut in (
        is-owner d version has sound.lawful m fit.standing letter marker control there e,
        subst (λ b. IsActOn d b control.id m (act d letter marker m)) (sym (press-mark marker.node.kind))
            (bool_cases (is_visible d m.leaves marker)
            (λ b. IsActOn d (is_press_mark shortcut) control.id m (if b then called_by d letter marker shortcut m else m))
            (λ shown. called_act m letter marker control shortcut fit.standing (sym (control-in d marker.node marker.node.kind) ∙ e))
            (λ hidden. idle_act (is_press_mark shortcut) control.id m)),
      )
