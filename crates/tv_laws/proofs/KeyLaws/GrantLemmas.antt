-- A marker that can act does: its button is pressed, or its control has the focus.
use Rattle.std.proofs.Common.{◌≡◌, Bool, true, false, not, ◌&&◌, ◌||◌, ◌==◌, ◌+◌, ℕ, if◌then◌else◌, List, [], ◌∷◌, ◌++◌, map, Option, Some, None, option_map, is_some, refl, sym, ap, subst, ◌∙◌, append_assoc, append-nil}
use Rattle.std.specs.Prelude.{nat_le, position}
use Rattle.std.proofs.lemmas.Bool.{and_parts, false≢true}
use Rattle.tv_model.specs.declared.node.Id.{Id}
use Rattle.tv_model.specs.declared.node.Node.{Node}
use Rattle.tv_model.specs.declared.kind.Kind.{Kind}
use Rattle.tv_model.specs.declared.kind.Kind.TheVariants as kinds
use Rattle.tv_model.specs.declared.kind.MarkedText.{MarkedText}
use Rattle.tv_model.specs.declared.desc.Dialog.{Dialog}
use Rattle.tv_model.specs.declared.log.LogLine.{LogLine}
use Rattle.tv_model.specs.declared.log.LogLine.TheVariants as lines
use Rattle.tv_model.specs.Controls.Shortcut.{item_marking, ClusterKind, Boxes, Radios}
use Rattle.tv_model.specs.Kinds.InputLine.{Edit, entered, left}
use Rattle.tv_model.specs.Description.Commands.{command_number, is_declared}
use Rattle.tv_model.specs.Description.Heads.{dialog_head}
use Rattle.tv_model.specs.Description.Marks.{marks}
use Rattle.tv_model.specs.Description.Names.{meant}
use Rattle.tv_model.specs.Description.Nodes.{is_button, is_cluster, is_control}
use Rattle.tv_model.specs.Controls.Owner.{item_at}
use Rattle.tv_model.specs.Description.Owners.{owner_by}
use Rattle.tv_machine.specs.Leaves.{PlacedNode}
use Rattle.tv_model.specs.Controls.Contents.{Content}
use Rattle.tv_model.specs.Kinds.Cluster.{cluster_item_pressed}
use Rattle.tv_machine.specs.Dialog.Ending.{command, end_by, ended, field_line, fields_of, first_invalid, press, pressed_kind, shown_invalid}
use Rattle.tv_machine.specs.Dialog.Focus.{Moved, NotFree, Refused, Same, after_request, focus_moved, is_free_at, is_free_leaf, is_granted, keeps_focus, refocused, request, requested}
use Rattle.tv_machine.specs.Dialog.Modal.{Modal, content_at, leaf_at, with_line}
use Rattle.tv_machine.specs.Dialog.Rules.{is_kind_enabled, is_visible}
use Rattle.tv_machine.specs.Dialog.Shortcuts.{call_item, called, press_item, request_link}
use Rattle.tv_laws.specs.Fit.{IsStanding}
use Rattle.tv_laws.specs.Letters.{HasActed, HasPressed, control_by, has_link, is_free_link}
use Rattle.tv_laws.proofs.KeyLaws.MarkerActs.{MarkersActWhereTheyCan}
use Rattle.tv_laws.specs.Sound.{IsSoundDialog}
use Rattle.tv_laws.proofs.KeyLaws.ActLemmas.{moved-value}
use Rattle.tv_machine.proofs.RefocusLemmas.{content_at-moved, leaves-moved, moved_content, refocused-keeps, refocused_content}
use Rattle.tv_machine.proofs.LeafLemmas.{HasLeaves, IsIn, content_at-same, leaf_at-in, leaf_at-is}
use Rattle.tv_laws.proofs.KeyLaws.LetterLemmas.{found-upper}
use Rattle.tv_laws.proofs.MarkerLemmas.{marker-in, marker-marks}
use Rattle.tv_machine.proofs.ListLemmas.{bool_cases, option_cases, same-id}

-- ---- the coming and going of the focus leaves clusters alone

cluster_refocused : (edit : Edit → Edit) (k : Kind) (c : Content) → is_cluster k ≡ true → refocused_content edit k c ≡ c
cluster_refocused edit (kinds.CheckBoxes boxes) c is = refl
cluster_refocused edit (kinds.RadioButtons radios) c is = refl
cluster_refocused edit _ c is = absurd (false≢true is)

cluster_moved : (to from : Bool) (k : Kind) (c : Content) → is_cluster k ≡ true → moved_content to from k c ≡ c
cluster_moved true true k c is = cluster_refocused entered k (refocused_content left k c) is ∙ cluster_refocused left k c is
cluster_moved true false k c is = cluster_refocused entered k c is
cluster_moved false true k c is = cluster_refocused left k c is
cluster_moved false false k c is = refl

-- ---- lines after a press

-- the log goes on
abbrev IsAfter : Modal → Modal → Type 0
IsAfter m n = (after : List LogLine) × (n.log ≡ m.log ++ after)

after_itself : (m : Modal) → IsAfter m m
after_itself m = ([], sym (append-nil m.log))

after_then : (m n o : Modal) → IsAfter m n → IsAfter n o → IsAfter m o
after_then m n o (first, e) (second, f) = (first ++ second, f ∙ ap (λ log. log ++ second) e ∙ append_assoc m.log first second)

module _ (d : Dialog) where
  refocused_log : (edit : Edit → Edit) (o : Option PlacedNode) (m : Modal) → (refocused d edit o m).log ≡ m.log
  refocused_log edit o m = refocused-keeps (λ n. n.log ≡ m.log) d (λ j c n p. p) edit o m refl

  moved_after : (m : Modal) (to : Id) → IsAfter m (focus_moved d to m)
  moved_after m to =
      let n = refocused d left (leaf_at d m.focus) m in
      (lines.Focus to ∷ [], ap (λ log. log ++ lines.Focus to ∷ []) (refocused_log entered (leaf_at d to) n ∙ refocused_log left (leaf_at d m.focus) m))

  shown_after : (m : Modal) (i : Id) → IsAfter m (shown_invalid d i m)
  shown_after m i =
      bool_cases (i.0 == m.focus.0) (λ b. IsAfter m (if b then m else if is_free_at d m.leaves i then focus_moved d i m else m)) (λ here. after_itself m)
      (λ there. bool_cases (is_free_at d m.leaves i) (λ b. IsAfter m (if b then focus_moved d i m else m)) (λ free. moved_after m i) (λ other. after_itself m))

  end_after : (number : ℕ) (o : Option Id) (m : Modal) → IsAfter m (end_by d number o m)
  end_after number None m = (lines.End d.node.id (record { 0 = number }) ∷ map field_line (fields_of m.leaves), refl)
  end_after number (Some i) m =
      let n = with_line (lines.Invalid i) m in
      after_then m n (shown_invalid d i n) (lines.Invalid i ∷ [], refl) (shown_after n i)

  command_after : (number : ℕ) (m : Modal) → IsAfter m (command d number m)
  command_after number m =
      bool_cases ((number == 4) || (number == 11))
      (λ b. IsAfter m (if b then ended d 11 m else if is_declared (dialog_head d).ends number then end_by d number (first_invalid d m) m
      else if nat_le 100 number then with_line (lines.Command number) m else m))
      (λ is. (lines.End d.node.id (record { 0 = 11 }) ∷ map field_line (fields_of m.leaves), refl))
      (λ other. bool_cases (is_declared (dialog_head d).ends number)
      (λ b. IsAfter m (if b then end_by d number (first_invalid d m) m else if nat_le 100 number then with_line (lines.Command number) m else m))
      (λ is. end_after number (first_invalid d m) m)
      (λ none. bool_cases (nat_le 100 number) (λ b. IsAfter m (if b then with_line (lines.Command number) m else m))
      (λ own. (lines.Command number ∷ [], refl)) (λ low. after_itself m)))

  -- a button is pressed
  press_first : (i : Id) (m n : Modal) → IsAfter (with_line (lines.Press i) m) n → (after : List LogLine) × (n.log ≡ m.log ++ lines.Press i ∷ after)
  press_first i m n (after, e) = (after, e ∙ append_assoc m.log (lines.Press i ∷ []) after)

module _ (d : Dialog) (sound : IsSoundDialog d) where
  -- ---- a request that is granted

  -- the focus is there, with every value as it was, and clusters hold what they held
  record IsThere (to : Id) (m : Modal) (n : Modal) : Type 0 where
    focus : n.focus ≡ to
    leaves : HasLeaves d n
    values : (leaf : PlacedNode) → IsIn d leaf → (content_at n leaf.node.id).value ≡ (content_at m leaf.node.id).value
    clusters : (leaf : PlacedNode) → IsIn d leaf → is_cluster leaf.node.kind ≡ true → content_at n leaf.node.id ≡ content_at m leaf.node.id

  moved_there : (to : Id) (m : Modal) → IsStanding d m → IsThere to m (focus_moved d to m)
  moved_there to m s = record {
    focus = refl;
    leaves = leaves-moved d sound.lawful m to s.leaves;
    values = moved-value d sound m to s;
    clusters = λ leaf e is.
        content_at-moved d sound.lawful m to s.leaves leaf e
        ∙ cluster_moved (leaf.node.id.0 == to.0) (leaf.node.id.0 == m.focus.0) leaf.node.kind (content_at m leaf.node.id) is;
  }

  -- it is granted
  abbrev IsGranted : Id → Modal → Type 0
  IsGranted to m = (is_granted (requested d m to) ≡ true) × IsThere to m (request d to m)

  granted : (to : Id) (m : Modal) → IsStanding d m → is_free_at d m.leaves to ≡ true → keeps_focus m (leaf_at d m.focus) ≡ false → IsGranted to m
  granted to m s free goes =
      bool_cases (to.0 == m.focus.0)
      (λ b. (is_granted (if b then Same else if not (is_free_at d m.leaves to) then NotFree else if keeps_focus m (leaf_at d m.focus) then Refused else Moved) ≡ true)
      × IsThere to m (after_request d to (if b then Same else if not (is_free_at d m.leaves to) then NotFree else if keeps_focus m (leaf_at d m.focus) then Refused else Moved) m))
      (λ here. (refl, record { focus = sym (same-id to m.focus here); leaves = s.leaves; values = λ leaf e. refl; clusters = λ leaf e is. refl }))
      (λ apart.
      subst (λ b. (is_granted (if not b then NotFree else if keeps_focus m (leaf_at d m.focus) then Refused else Moved) ≡ true)
      × IsThere to m (after_request d to (if not b then NotFree else if keeps_focus m (leaf_at d m.focus) then Refused else Moved) m)) (sym free)
      (subst (λ b. (is_granted (if b then Refused else Moved) ≡ true) × IsThere to m (after_request d to (if b then Refused else Moved) m)) (sym goes)
      (refl, moved_there to m s)))

  -- ---- by the kind of the marker

  -- a cluster has the item of a letter that it marks
  marked_item : (letter : ℕ) (items : List MarkedText) (name : List ℕ) → is_some (option_map (item_at name) (position (marks letter) items)) ≡ true
      → (item : ℕ) × (item_marking items letter ≡ Some item)
  marked_item letter items name =
      option_cases (position (marks letter) items) (λ o. is_some (option_map (item_at name) o) ≡ true → (item : ℕ) × (item_marking items letter ≡ Some item))
      (λ none is. absurd (false≢true is))
      (λ place found is. (place + 1, ap (λ o. option_map (λ n. n + 1) o) (ap (λ (l : ℕ). position (marks l) items) (found-upper letter items place found) ∙ found)))

  item_called : (kind : ClusterKind) (leaf : PlacedNode) (m : Modal) (o : Option ℕ) → IsIn d leaf → is_cluster leaf.node.kind ≡ true
      → (item : ℕ) × (o ≡ Some item) → IsGranted leaf.node.id m
      → ((call_item d kind leaf.node.id o m).focus ≡ leaf.node.id) × HasPressed kind leaf.node.id o m (call_item d kind leaf.node.id o m)
  item_called kind leaf m o e is (item, found) (is_so, there) =
      let i = leaf.node.id in
      let n = request d i m in
      subst (λ x. ((call_item d kind i x m).focus ≡ i) × HasPressed kind i x m (call_item d kind i x m)) (sym found)
      (subst (λ b. ((if b then press_item d kind i (Some item) n else n).focus ≡ i) × HasPressed kind i (Some item) m (if b then press_item d kind i (Some item) n else n)) (sym is_so) (
        there.focus,
        content_at-same d sound.lawful n there.leaves i (cluster_item_pressed kind item (content_at n i)) leaf e ∙ ap (cluster_item_pressed kind item) (there.clusters leaf e is),
      ))

  module _ (m : Modal) (letter : ℕ) (marker : PlacedNode) (s : IsStanding d m) (there : IsIn d marker) where
    -- what has to be so of a marker of this kind
    record IsReady (k : Kind) : Type 0 where
      is : marker.node.kind ≡ k
      marked : is_some (owner_by letter k) ≡ true
      visible : is_visible d m.leaves marker ≡ true
      able : (is_kind_enabled d m.leaves k && has_link d m.leaves k) ≡ true
      goes : is_button k ≡ false → keeps_focus m (leaf_at d m.focus) ≡ false

    -- a visible cluster is free
    cluster_free : (k : Kind) → marker.node.kind ≡ k → is_cluster k ≡ true → is_visible d m.leaves marker ≡ true → is_free_at d m.leaves marker.node.id ≡ true
    cluster_free k is cluster visible =
        ap (is_free_leaf d m.leaves) there
        ∙ ap (λ x. is_control x && (is_visible d m.leaves marker && is_kind_enabled d m.leaves x)) is
        ∙ ap (λ b. is_control k && (b && is_kind_enabled d m.leaves k)) visible ∙ able_cluster k cluster
      where
        able_cluster : (x : Kind) → is_cluster x ≡ true → (is_control x && (true && is_kind_enabled d m.leaves x)) ≡ true
        able_cluster (kinds.CheckBoxes boxes) h = refl
        able_cluster (kinds.RadioButtons radios) h = refl
        able_cluster _ h = absurd (false≢true h)

    free_called : (control : Node) → is_free_at d m.leaves control.id ≡ true → keeps_focus m (leaf_at d m.focus) ≡ false
        → ((request d control.id m).focus ≡ control.id) × ((content_at (request d control.id m) control.id).value ≡ (content_at m control.id).value)
    free_called control free goes =
        let r = (granted control.id m s free goes).1 in
        option_cases (leaf_at d control.id) (λ o. is_free_leaf d m.leaves o ≡ true
        → ((request d control.id m).focus ≡ control.id) × ((content_at (request d control.id m) control.id).value ≡ (content_at m control.id).value))
        (λ none f. absurd (false≢true f))
        (λ leaf found f. (
          r.focus,
          subst (λ i. (content_at (request d control.id m) i).value ≡ (content_at m i).value) (leaf_at-is d control.id leaf found) (r.values leaf (leaf_at-in d sound.lawful control.id leaf found)),
        )) free

    link_called : (link : Option Node) (control : Node) → link ≡ Some control → is_free_link d m.leaves link ≡ true
        → keeps_focus m (leaf_at d m.focus) ≡ false
        → ((request_link d link m).focus ≡ control.id) × ((content_at (request_link d link m) control.id).value ≡ (content_at m control.id).value)
    link_called link control e free goes =
        subst (λ o. ((request_link d o m).focus ≡ control.id) × ((content_at (request_link d o m) control.id).value ≡ (content_at m control.id).value)) (sym e)
        (free_called control (sym (ap (is_free_link d m.leaves) e) ∙ free) goes)

    called_acts : (control : Node) (k : Kind) → IsReady k → control_by d marker.node k ≡ Some control → HasActed letter k control.id m (called d letter marker k m)
    called_acts control (kinds.Label label) r e = link_called (meant d.views label.link) control e r.able (r.goes refl)
    called_acts control (kinds.Button button) r e =
        let here : marker.node ≡ control = cc in
        let i = marker.node.id in
        let enabled = (and_parts (is_kind_enabled d m.leaves (kinds.Button button)) true r.able).0 in
        subst (λ node. HasActed letter (kinds.Button button) node.id m (called d letter marker (kinds.Button button) m)) here
        (subst (λ b. HasActed letter (kinds.Button button) i m (if b then press d marker m else m)) (sym (ap (is_kind_enabled d m.leaves) r.is ∙ enabled))
        (subst (λ k. HasActed letter (kinds.Button button) i m (pressed_kind d i k m)) (sym r.is)
        (press_first d i m (command d (command_number button.command) (with_line (lines.Press i) m)) (command_after d (command_number button.command) (with_line (lines.Press i) m)))))
    called_acts control (kinds.CheckBoxes boxes) r e =
        let here : marker.node ≡ control = cc in
        subst (λ node. HasActed letter (kinds.CheckBoxes boxes) node.id m (called d letter marker (kinds.CheckBoxes boxes) m)) here
        (item_called Boxes marker m (item_marking boxes.items letter) there (ap is_cluster r.is) (marked_item letter boxes.items boxes.name r.marked)
        (granted marker.node.id m s (cluster_free (kinds.CheckBoxes boxes) r.is refl r.visible) (r.goes refl)))
    called_acts control (kinds.RadioButtons radios) r e =
        let here : marker.node ≡ control = cc in
        subst (λ node. HasActed letter (kinds.RadioButtons radios) node.id m (called d letter marker (kinds.RadioButtons radios) m)) here
        (item_called Radios marker m (item_marking radios.items letter) there (ap is_cluster r.is) (marked_item letter radios.items radios.name r.marked)
        (granted marker.node.id m s (cluster_free (kinds.RadioButtons radios) r.is refl r.visible) (r.goes refl)))
    called_acts control _ r e = tt

  pub acts-where-it-can : MarkersActWhereTheyCan d
  acts-where-it-can m letter marker control fit there e can goes =
      let marked : is_some (owner_by letter marker.node.kind) ≡ true = marker-marks d m.leaves letter marker there in
      let in_it : IsIn d marker = marker-in d m.leaves sound.lawful letter marker there in
      let parts = and_parts (is_visible d m.leaves marker) (is_kind_enabled d m.leaves marker.node.kind && has_link d m.leaves marker.node.kind) can in
      subst (λ b. HasActed letter marker.node.kind control.id m (if b then called d letter marker marker.node.kind m else m)) (sym parts.0)
      (called_acts m letter marker fit.standing in_it control marker.node.kind
      (record { is = refl; marked = marked; visible = parts.0; able = parts.1; goes = goes }) e)
