-- A dialog that is filled with a record, and stands some lines later, opens with that record, and ends by each command
-- that the record enables.
use Rattle.std.proofs.Common.{◌≡◌, ℕ, ◌+◌, ◌==◌, ◌&&◌, ◌||◌, not, Bool, true, false, cond, List, [], ◌∷◌, map, filter, find, Option, Some, None, option_map, refl, sym, ap, subst, ◌∙◌, All}
use Rattle.std.specs.Prelude.{nat_le, nat_lt, if◌then◌else◌}
use Rattle.std.specs.List.{cons_option}
use Rattle.std.proofs.lemmas.Bool.{eqb-true, false_from_ne_true, true≢false, false≢true}
use Rattle.std.proofs.lemmas.List.Elements.{All-head, All-map, All-tail}
use Rattle.tv_machine.proofs.EntryLemmas.{entry_with}
use Rattle.tv_machine.proofs.LeafLemmas.{IsIn, ids-apart, leaf_at-node, leaves-are, state_id, views-apart}
use Rattle.tv_machine.proofs.ListLemmas.{AreApart, All-unmap, bool_cases, find-member, find-none, has, map-map, option_cases, same-id}
use Rattle.tv_machine.proofs.MarkLemmas.{value_by}
use Rattle.tv_machine.specs.Dialog.Ending.{command, end_by, ended, entry_of, fields_of, first_invalid, is_invalid_leaf}
use Rattle.tv_machine.specs.Dialog.Focus.{is_invalid}
use Rattle.tv_machine.specs.Dialog.Modal.{Modal, content_at, with_line}
use Rattle.tv_machine.specs.Dialog.Opening.{first_focus, opened_dialog, opened_leaf, opened_leaves, unfocused}
use Rattle.tv_machine.specs.Dialog.Rules.{content_held, enables, is_among, is_command_enabled, state_of}
use Rattle.tv_machine.specs.Dialog.Sound.{IsSoundDialog}
use Rattle.tv_machine.specs.Leaves.{PlacedNode, leaf_list, leaves_in, open_after, open_at}
use Rattle.tv_machine.specs.Safe.{HasValueOf, IsSafeEntry, IsSafeRecord, IsValueOf, is_field}
use Rattle.tv_machine.specs.State.{LeafState}
use Rattle.tv_laws.proofs.OpenLemmas.{opened-open, standing_before}
use Rattle.tv_laws.proofs.RecordLaws.ShowLemmas.{fields-moved, fields-opened}
use Rattle.tv_laws.proofs.StandLemmas.{standing-leaf}
use Rattle.tv_laws.proofs.WorkLemmas.{filter_none, nothing}
use Rattle.tv_laws.specs.Steps.{IsSafeSave}
use Rattle.tv_model.specs.Controls.Contents.{Content, text_of}
use Rattle.tv_model.specs.declared.desc.Dialog.{Dialog}
use Rattle.tv_model.specs.declared.desc.Rule.{Rule}
use Rattle.tv_model.specs.declared.kind.Input.{Input}
use Rattle.tv_model.specs.declared.kind.Kind.{Kind}
use Rattle.tv_model.specs.declared.kind.Kind.TheVariants as kinds
use Rattle.tv_model.specs.declared.log.LogLine.TheVariants as lines
use Rattle.tv_model.specs.declared.node.Id.{Id}
use Rattle.tv_model.specs.declared.node.Node.{Node}
use Rattle.tv_model.specs.declared.record.Entry.{Entry}
use Rattle.tv_model.specs.declared.record.Value.{Value}
use Rattle.tv_model.specs.declared.record.Value.TheVariants as values
use Rattle.tv_model.specs.Description.Commands.{is_declared, is_end}
use Rattle.tv_model.specs.Description.Heads.{dialog_head}
use Rattle.tv_model.specs.Description.Names.{gives_name, is_option_named, meant}
use Rattle.tv_model.specs.Description.Nodes.{is_pane, node_of}
use Rattle.tv_model.specs.Description.Numbers.{natural}
use Rattle.tv_model.specs.Kinds.Cluster.{is_marked}
use Rattle.tv_model.specs.Kinds.InputLine.{is_outside_domain}
use Rattle.tv_model.specs.Log.Record.{Entries, value_of}
use Rattle.tv_valid.proofs.AskingLemmas.{domain_law}
use Rattle.tv_valid.proofs.DecidingLemmas.{in_domain_law}
use Rattle.tv_valid.specs.Asking.{domain_of}
use Rattle.tv_valid.specs.Domain.{InDomain}
use Rattle.tv_answers.specs.Filling.{with_start, with_value_found, with_value_of, with_values_of}
use Rattle.tv_answers.proofs.EnabledLemmas.{enabled_is, held_value, is_enabled_as, is_marked_as}
use Rattle.tv_answers.proofs.LaterLogLemmas.{entry_later, plus_same, same_name}
use Rattle.tv_answers.proofs.NumberedLemmas.{dialog_later, later, node_later, rule_later}
use Rattle.tv_answers.proofs.SpelledLemmas.{same_pane}

-- ---- kinds

same_invalid : (k : Kind) (v : Value) (c : Content) → is_invalid (with_start k v) c ≡ is_invalid k c
same_invalid (kinds.Input input) (values.Text text) c = refl
same_invalid (kinds.CheckBoxes boxes) (values.Marks marks) c = refl
same_invalid (kinds.RadioButtons radios) (values.Item item) c = refl
same_invalid (kinds.List list) (values.Item item) c = refl
same_invalid _ _ c = refl

text_inside : (input : Input) (text : List ℕ) → IsValueOf InDomain (kinds.Input input) (values.Text text) → is_outside_domain (domain_of input.spec) text ≡ false
text_inside input text h =
    ap (λ o. is_outside_domain o text) ((domain_law input.spec h.0).1 h.1) ∙ ap not ((in_domain_law h.0 text).1 h.2)

-- an input with a text of its domain, or another control
value_inside : (k : Kind) (v : Value) (c : Content) → c.value ≡ Some v → IsValueOf InDomain k v → is_invalid k c ≡ false
value_inside (kinds.Input input) (values.Text text) c is h = ap (λ o. is_outside_domain (domain_of input.spec) (text_of o)) is ∙ text_inside input text h
value_inside (kinds.Input input) (values.Marks marks) c is h = absurd h
value_inside (kinds.Input input) (values.Item item) c is h = absurd h
value_inside _ v c is h = refl

none_inside : (k : Kind) (c : Content) → is_field k ≡ false → is_invalid k c ≡ false
none_inside (kinds.Input input) c none = absurd (true≢false none)
none_inside _ c none = refl

-- ---- nodes of leaves

module _ (change : Node → Node) (same : (node : Node) → is_pane (change node).kind ≡ is_pane node.kind) where
  one_node : (b : Bool) (view : Node) (ps qs : List Node) (ls ms : List PlacedNode) → map (λ leaf. leaf.node) ls ≡ map change (map (λ leaf. leaf.node) ms)
      → map (λ leaf. leaf.node) (if b then ls else record { node = change view; panes = ps } ∷ ls) ≡ map change (map (λ leaf. leaf.node) (if b then ms else record { node = view; panes = qs } ∷ ms))
  one_node true view ps qs ls ms more = more
  one_node false view ps qs ls ms more = ap (λ xs. change view ∷ xs) more

  nodes_changed : (views ps qs : List Node) → map (λ leaf. leaf.node) (leaves_in ps (map change views)) ≡ map change (map (λ leaf. leaf.node) (leaves_in qs views))
  nodes_changed [] ps qs = refl
  nodes_changed (view ∷ views) ps qs =
      let begun : Node = change view in
      let ls = leaves_in (open_after ps begun) (map change views) in
      let ms = leaves_in (open_after qs view) views in
      ap (λ b. map (λ (leaf : PlacedNode). leaf.node) (if b then ls else record { node = begun; panes = open_at begun.depth ps } ∷ ls)) (same view)
      ∙ one_node (is_pane view.kind) view (open_at begun.depth ps) (open_at view.depth qs) ls ms (nodes_changed views (open_after ps begun) (open_after qs view))

-- ---- the fields as a dialog opens

none_overwritten : (dialog : Dialog) → [] ≡ filter (is_among []) (map (λ view. view.id) dialog.views)
none_overwritten dialog = sym (filter_none (map (λ view. view.id) dialog.views))

none_safe : (dialog : Dialog) → IsSafeSave dialog None
none_safe dialog entries e = absurd (nothing entries e)

saved_safe : (dialog : Dialog) (es : Entries) → IsSafeRecord dialog es → IsSafeSave dialog (Some es)
saved_safe dialog es safe entries e = (let same : es ≡ entries = cc in subst (IsSafeRecord dialog) same safe)

-- its first leaves have the fields that it has when the focus has come
opened_fields : (dialog : Dialog) → IsSoundDialog dialog → (saved : Option Entries) → IsSafeSave dialog saved → fields_of (opened_dialog dialog saved []).leaves ≡ fields_of (opened_leaves dialog saved)
opened_fields dialog sound saved safe =
    fields-moved dialog sound (unfocused dialog saved []) (first_focus dialog (opened_leaves dialog saved)) (standing_before dialog sound saved [] safe (none_overwritten dialog))

-- with a record they are the record
recorded_fields : (dialog : Dialog) → IsSoundDialog dialog → (es : Entries) → IsSafeRecord dialog es → fields_of (opened_leaves dialog (Some es)) ≡ es
recorded_fields dialog sound es safe =
    sym (opened_fields dialog sound (Some es) (saved_safe dialog es safe)) ∙ fields-opened dialog sound (Some es) [] (saved_safe dialog es safe) (none_overwritten dialog)

opened_apart : (dialog : Dialog) (sound : IsSoundDialog dialog) (saved : Option Entries) → IsSafeSave dialog saved → AreApart (map state_id (opened_dialog dialog saved []).leaves)
opened_apart dialog sound saved safe =
    subst AreApart (sym (opened-open dialog sound saved [] safe (none_overwritten dialog)).0.fit.standing.leaves) (ids-apart dialog sound.lawful)

-- ---- the values of a record

module _ (dialog : Dialog) (sound : IsSoundDialog dialog) (es : Entries) (safe : IsSafeRecord dialog es) where
  -- a leaf has one in the record if it is a field
  own_value : (leaf : PlacedNode) → IsIn dialog leaf → HasValueOf leaf.node.kind (value_of es leaf.node.id.0)
  own_value leaf at =
      let m = opened_dialog dialog (Some es) [] in
      let safely = saved_safe dialog es safe in
      let standing = (opened-open dialog sound (Some es) [] safely (none_overwritten dialog)).0.fit.standing in
      let fields = opened_fields dialog sound (Some es) safely ∙ recorded_fields dialog sound es safe in
      subst (HasValueOf leaf.node.kind)
      (value_by (is_among m.overwriting leaf.node.id) (state_of m.leaves leaf.node.id)
      ∙ held_value m.leaves (opened_apart dialog sound (Some es) safely) leaf.node.id
      ∙ ap (λ entries. value_of entries leaf.node.id.0) fields)
      (standing-leaf dialog sound m standing leaf at).safe.value

  found_value : (entries : Entries) (leaf : PlacedNode) (v : Value) → All (IsSafeEntry dialog) entries → IsIn dialog leaf → value_of entries leaf.node.id.0 ≡ Some v → IsValueOf InDomain leaf.node.kind v
  found_value [] leaf v all at is = absurd cc
  found_value (x ∷ entries) leaf v all at is =
      let first = All-head (IsSafeEntry dialog) x entries all in
      bool_cases (x.id.0 == leaf.node.id.0) (λ b. (x.id.0 == leaf.node.id.0) ≡ b → (if b then Some x.value else value_of entries leaf.node.id.0) ≡ Some v → IsValueOf InDomain leaf.node.kind v)
      (λ here e given.
      let there : node_of dialog.views leaf.node.id ≡ Some leaf.node =
      leaf_at-node (λ view. find (has (λ other. other.id) view.id) dialog.views ≡ Some view) dialog leaf.node.id leaf (find-member (λ view. view.id) dialog.views (views-apart dialog sound.lawful)) at in
      let both : Some first.node ≡ Some leaf.node = sym first.there ∙ ap (node_of dialog.views) (same-id x.id leaf.node.id e) ∙ there in
      let same : first.node ≡ leaf.node = cc in
      let value : x.value ≡ v = cc in
      subst (IsValueOf InDomain leaf.node.kind) value (subst (λ (node : Node). IsValueOf InDomain node.kind x.value) same first.value))
      (λ other e given. found_value entries leaf v (All-tail (IsSafeEntry dialog) x entries all) at given) refl is

  module _ (k : ℕ) where
    -- ---- what stands some lines later

    abbrev pub begun : Dialog
    begun = with_values_of es dialog

    abbrev pub x : Dialog
    x = dialog_later k begun

    abbrev begun_node : Node → Node
    begun_node view = node_later k (with_value_of es view)

    abbrev state_later : LeafState → LeafState
    state_later leaf = record leaf { id = later k leaf.id }

    found_id : (view : Node) (o : Option Value) → (with_value_found view o).id ≡ view.id
    found_id view None = refl
    found_id view (Some v) = refl

    found_name : (view : Node) (o : Option Value) (name : List ℕ) → gives_name name (node_later k (with_value_found view o)) ≡ gives_name name view
    found_name view None name = refl
    found_name view (Some v) name = ap (is_option_named name) (same_name view.kind v)

    found_pane : (view : Node) (o : Option Value) → is_pane (node_later k (with_value_found view o)).kind ≡ is_pane view.kind
    found_pane view None = refl
    found_pane view (Some v) = same_pane view.kind v

    -- ---- its fields as it opens

    entry_moved : (leaf : LeafState) → entry_of (state_later leaf) ≡ option_map (entry_later k) (entry_of leaf)
    entry_moved leaf = option_cases leaf.value (λ o. option_map (entry_with (later k leaf.id)) o ≡ option_map (entry_later k) (option_map (entry_with leaf.id) o)) (λ none. refl) (λ v some. refl)

    one_moved : (o : Option Entry) (entries others : Entries) → others ≡ map (entry_later k) entries → cons_option (option_map (entry_later k) o) others ≡ map (entry_later k) (cons_option o entries)
    one_moved None entries others same = same
    one_moved (Some entry) entries others same = ap (λ xs. entry_later k entry ∷ xs) same

    fields_moved : (states : List LeafState) → fields_of (map state_later states) ≡ map (entry_later k) (fields_of states)
    fields_moved [] = refl
    fields_moved (leaf ∷ states) =
        ap (λ o. cons_option o (fields_of (map state_later states))) (entry_moved leaf) ∙ one_moved (entry_of leaf) (fields_of states) (fields_of (map state_later states)) (fields_moved states)

    leaves_opened : (views : List Node) → map (λ leaf. opened_leaf None leaf.node) (leaf_list (map (node_later k) views)) ≡ map state_later (map (λ leaf. opened_leaf None leaf.node) (leaf_list views))
    leaves_opened views =
        sym (map-map (λ (leaf : PlacedNode). leaf.node) (opened_leaf None) (leaf_list (map (node_later k) views)))
        ∙ ap (map (opened_leaf None)) (nodes_changed (node_later k) (λ node. refl) views [] [])
        ∙ map-map (node_later k) (opened_leaf None) (map (λ (leaf : PlacedNode). leaf.node) (leaf_list views))
        ∙ sym (map-map (opened_leaf None) state_later (map (λ (leaf : PlacedNode). leaf.node) (leaf_list views)))
        ∙ ap (map state_later) (map-map (λ (leaf : PlacedNode). leaf.node) (opened_leaf None) (leaf_list views))

    abbrev pub m : Modal
    m = opened_dialog x None []

    module _ (sound_x : IsSoundDialog x) (opens : opened_leaves begun None ≡ opened_leaves dialog (Some es)) where
      pub fields : fields_of m.leaves ≡ map (entry_later k) es
      fields =
          opened_fields x sound_x None (none_safe x) ∙ ap fields_of (leaves_opened begun.views) ∙ fields_moved (opened_leaves begun None)
          ∙ ap (λ leaves. map (entry_later k) (fields_of leaves)) opens ∙ ap (map (entry_later k)) (recorded_fields dialog sound es safe)

      apart : AreApart (map state_id m.leaves)
      apart = opened_apart x sound_x None (none_safe x)

      value_moved : (entries : Entries) (i : ℕ) → value_of (map (entry_later k) entries) (i + k) ≡ value_of entries i
      value_moved [] i = refl
      value_moved (entry ∷ entries) i =
          ap (λ b. if b then Some entry.value else value_of (map (entry_later k) entries) (i + k)) (plus_same entry.id.0 i k)
          ∙ ap (λ o. if entry.id.0 == i then Some entry.value else o) (value_moved entries i)

      -- ---- what it enables

      marked_here : (item : ℕ) (name : List ℕ) (view : Node) (views : List Node) (b : Bool) → is_marked_as (map (entry_later k) es) item (find (gives_name name) (map (node_later k) (map (with_value_of es) views))) ≡ is_marked_as es item (find (gives_name name) views)
          → is_marked_as (map (entry_later k) es) item (cond b (Some (begun_node view)) (find (gives_name name) (map (node_later k) (map (with_value_of es) views)))) ≡ is_marked_as es item (cond b (Some view) (find (gives_name name) views))
      marked_here item name view views true more =
          ap (λ (i : Id). is_marked (value_of (map (entry_later k) es) (i.0 + k)) item) (found_id view (value_of es view.id.0)) ∙ ap (λ v. is_marked v item) (value_moved es view.id.0)
      marked_here item name view views false more = more

      marked_moved : (item : ℕ) (name : List ℕ) (views : List Node) → is_marked_as (map (entry_later k) es) item (find (gives_name name) (map (node_later k) (map (with_value_of es) views))) ≡ is_marked_as es item (find (gives_name name) views)
      marked_moved item name [] = refl
      marked_moved item name (view ∷ views) =
          let rest = find (gives_name name) (map (node_later k) (map (with_value_of es) views)) in
          ap (λ b. is_marked_as (map (entry_later k) es) item (cond b (Some (begun_node view)) rest)) (found_name view (value_of es view.id.0) name)
          ∙ marked_here item name view views (gives_name name view) (marked_moved item name views)

      rules_moved : (number : ℕ) (rules : List Rule) → is_enabled_as x.views (map (rule_later k) rules) (map (entry_later k) es) number ≡ is_enabled_as dialog.views rules es number
      rules_moved number [] = refl
      rules_moved number (rule ∷ rules) =
          ap (λ b. (not (enables number rule.effect) || (nat_lt 0 (natural rule.item) && b)) && is_enabled_as x.views (map (rule_later k) rules) (map (entry_later k) es) number) (marked_moved (natural rule.item) rule.cluster dialog.views)
          ∙ ap (λ b. (not (enables number rule.effect) || (nat_lt 0 (natural rule.item) && is_marked_as es (natural rule.item) (meant dialog.views rule.cluster))) && b) (rules_moved number rules)

      pub enabled : (number : ℕ) → is_enabled_as dialog.views dialog.rules es number ≡ true → is_command_enabled x m.leaves number ≡ true
      enabled number is =
          enabled_is x m.leaves number apart ∙ ap (λ entries. is_enabled_as x.views x.rules entries number) fields ∙ rules_moved number dialog.rules ∙ is

      -- ---- how it ends

      -- at work, whatever else it keeps
      module _ (n : Modal) (leaves : n.leaves ≡ m.leaves) where
        value_there : (i : Id) → (content_at n (later k i)).value ≡ value_of es i.0
        value_there i =
            value_by (is_among n.overwriting (later k i)) (state_of n.leaves (later k i))
            ∙ ap (λ ls. (content_held ls [] (later k i)).value) leaves
            ∙ held_value m.leaves apart (later k i) ∙ ap (λ entries. value_of entries (i.0 + k)) fields ∙ value_moved es i.0

        abbrev IsInside : Node → Type 0
        IsInside node = is_invalid node.kind (content_at n node.id) ≡ false

        inside_by : (leaf : PlacedNode) → IsIn dialog leaf → (o : Option Value) → value_of es leaf.node.id.0 ≡ o → IsInside (node_later k (with_value_found leaf.node o))
        inside_by leaf at None is = none_inside leaf.node.kind (content_at n (later k leaf.node.id)) (subst (HasValueOf leaf.node.kind) is (own_value leaf at))
        inside_by leaf at (Some v) is =
            same_invalid leaf.node.kind v (content_at n (later k leaf.node.id))
            ∙ value_inside leaf.node.kind v (content_at n (later k leaf.node.id)) (value_there leaf.node.id ∙ is) (found_value es leaf v safe.values at is)

        all_inside : All (λ leaf. IsInside leaf.node) (leaf_list x.views)
        all_inside =
            All-unmap IsInside (λ (leaf : PlacedNode). leaf.node) (leaf_list x.views)
            (subst (All IsInside)
            (sym (ap (λ views. map (λ (leaf : PlacedNode). leaf.node) (leaf_list views)) (map-map (with_value_of es) (node_later k) dialog.views)
            ∙ nodes_changed begun_node (λ node. found_pane node (value_of es node.id.0)) dialog.views [] []))
            (All-map IsInside begun_node (map (λ (leaf : PlacedNode). leaf.node) (leaf_list dialog.views))
            (All-map (λ node. IsInside (begun_node node)) (λ (leaf : PlacedNode). leaf.node) (leaf_list dialog.views)
            (leaves-are dialog sound.lawful (λ leaf. IsInside (begun_node leaf.node)) (λ leaf at. inside_by leaf at (value_of es leaf.node.id.0) refl)))))

        none_refuses : first_invalid x n ≡ None
        none_refuses = ap (option_map (λ (leaf : PlacedNode). leaf.node.id)) (find-none (is_invalid_leaf n) (leaf_list x.views) all_inside)

        is_own : (number : ℕ) → (number == 11) ≡ false → is_end (dialog_head dialog).ends number ≡ true → is_declared (dialog_head dialog).ends number ≡ true
        is_own number other is = sym (ap (λ b. (b && (dialog_head dialog).ends.cancel) || is_declared (dialog_head dialog).ends number) other) ∙ is

        not_close : (number : ℕ) → is_declared (dialog_head dialog).ends number ≡ true → (number == 4) ≡ false
        not_close number is = false_from_ne_true (number == 4) (λ close. closes number (eqb-true number 4 close) is)
          where
            closes : (n : ℕ) → n ≡ 4 → is_declared (dialog_head dialog).ends n ≡ true → ⊥
            closes n four is = false≢true (ap (is_declared (dialog_head dialog).ends) (sym four) ∙ is)

        pub ends : (number : ℕ) → (number == 11) ≡ false → is_end (dialog_head dialog).ends number ≡ true → command x number n ≡ ended x number n
        ends number other is =
            let own = is_own number other is in
            let rest : Modal = if nat_le 100 number then with_line (lines.Command number) n else n in
            let ending : Modal = if is_declared (dialog_head dialog).ends number then end_by x number (first_invalid x n) n else rest in
            ap (λ b. if b then ended x 11 n else ending) (ap (λ b. b || (number == 11)) (not_close number own) ∙ other)
            ∙ ap (λ b. if b then end_by x number (first_invalid x n) n else rest) own
            ∙ ap (λ o. end_by x number o n) none_refuses
