-- A dialog that opens: it rests, its values are set, rules are applied, and it stands.
use Rattle.std.proofs.Common.{arith, ◌≡◌, ◌≤◌, ◌<◌, ◌||◌, ℕ, true, false, List, [], ◌∷◌, map, length, Option, Some, None, is_some, slice_index_or, refl, sym, ap, subst, ◌∙◌, All, inl, ◌==◌}
use Rattle.std.specs.Prelude.{is_none, unwrap_or}
use Rattle.std.specs.Option.{option_or}
use Rattle.std.proofs.lemmas.Bool.{false≢true}
use Rattle.std.proofs.lemmas.List.{length-map}
use Rattle.tv_event.specs.declared.event.Command.{Command}
use Rattle.tv_model.specs.declared.node.Id.{Id}
use Rattle.tv_model.specs.declared.desc.Dialog.{Dialog}
use Rattle.tv_view.specs.Meaning.{Leaf, Placed}
use Rattle.tv_model.specs.Log.Record.{Entries, value_of}
use Rattle.tv_machine.specs.Controls.Declared.{declared_value}
use Rattle.tv_machine.specs.State.{LeafState}
use Rattle.tv_machine.specs.Leaves.{leaf_list}
use Rattle.tv_machine.specs.Safe.{field_ids}
use Rattle.tv_machine.specs.Dialog.Ending.{fields_of}
use Rattle.tv_machine.specs.Dialog.Focus.{first_free, focus_moved, is_free_at, stops_of}
use Rattle.tv_machine.specs.Dialog.Lawful.{IsLawfulDialog}
use Rattle.tv_machine.specs.Dialog.Modal.{Modal}
use Rattle.tv_machine.specs.Dialog.Opening.{first_focus, opened_dialog as opens, opened_leaf, opened_leaves, opened_with, unfocused}
use Rattle.tv_machine.specs.Dialog.Rules.{is_among, is_command_enabled, is_visible}
use Rattle.tv_view.specs.declared.env.Rules.{Rules}
use Rattle.tv_view.specs.Calls.{gathered}
use Rattle.tv_group.specs.Calls.{FitsAll, all_applied, all_set, first_in, gathered_within}
use Rattle.tv_group.specs.declared.focus.Dir.TheVariants.{Forward}
use Rattle.tv_group.specs.Opened.{opened}
use Rattle.tv_dialog.specs.declared.dialog.DialogOf.{DialogOf}
use Rattle.tv_dialog.specs.Fields.{in_field_order}
use Rattle.tv_dialog.specs.Head.{declared_dialog_head}
use Rattle.tv_dialog.specs.Plan.{is_enabled_in_plan, leaf_plan, plan_of, shown_by}
use Rattle.tv_dialog.specs.Resting.{AreAlike, Rests, unflagged}
use Rattle.tv_dialog.specs.Standing.{AreFields, Stands, end_number}
use Rattle.tv_group.specs.Tree.{placed_as, tree_as, tree_of}
use Rattle.tv_group.proofs.Tree.EndingLemmas.{fewer_leaves}
use Rattle.tv_dialog.proofs.FieldOrderLemmas.{ordered-fields, ordered-fits, set-ordered}
use Rattle.tv_dialog.proofs.FreshLemmas.{applied-alike, fits-alike, fresh-alike, fresh_tree, set-alike, steady-declared}
use Rattle.tv_group.proofs.Tree.GatheredLemmas.{fields-are, fields-ids, gathered-again, value-fields}
use Rattle.tv_machine.proofs.ListLemmas.{map-map}
use Rattle.tv_group.proofs.Tree.NextLemmas.{first-tree}
use Rattle.tv_group.proofs.Tree.OpeningLemmas.{content_at-unfocused, first-free, free-other, leaves-unfocused, set-tree, steady-unfocused}
use Rattle.tv_group.proofs.Tree.RuledLemmas.{AreRulesOf, applied-tree}
use Rattle.tv_machine.proofs.LeafLemmas.{leaves-same}
use Rattle.tv_dialog.proofs.WorkingLemmas.{enabled-plan, shown-plan}

-- ---- leaves that are alike

-- whatever their rules were last applied to
alike-rules : (d : Dialog) (ruled other : List LeafState) (m : Modal) → AreAlike (tree_as d ruled m) (tree_as d other m)
alike-rules d ruled other m =
    map-map (placed_as d ruled m) unflagged (leaf_list d.views) ∙ sym (map-map (placed_as d other m) unflagged (leaf_list d.views))

gathered-unflagged : (xs : List Placed) (entries : Entries) → gathered_within (map unflagged xs) entries ≡ gathered_within xs entries
unfolding gathered
gathered-unflagged [] entries = refl
gathered-unflagged (x ∷ xs) entries = gathered-unflagged xs (gathered_within (x ∷ []) entries)

-- they have the same values
pub gathered-alike : (xs ys : List Placed) (entries : Entries) → AreAlike xs ys → gathered_within xs entries ≡ gathered_within ys entries
gathered-alike xs ys entries alike =
    sym (gathered-unflagged xs entries) ∙ ap (λ zs. gathered_within zs entries) alike ∙ gathered-unflagged ys entries

-- ---- dialogs that rest

-- one that has no number of an end has no end
pub unended : (how : Option Command) → end_number how ≡ None → how ≡ None
unended None e = refl
unended (Some command) e = absurd cc

module _ {V : Type 0} (look : V → Leaf) (d : Dialog) where
  -- one that stands does, open or ended
  pub stands-rests : (ruled : List LeafState) (m : Modal) (dialog : DialogOf V) → Stands look d ruled m dialog → Rests look d m dialog
  stands-rests ruled m dialog s = record {
    head = s.head;
    plan = s.plan;
    tree = ap (map unflagged) s.tree ∙ alike-rules d ruled m.leaves m;
    steady = s.steady;
    marks = s.marks;
  }

  -- so does a new one round a fresh body
  pub fresh-rests : IsLawfulDialog d → (dialog : DialogOf V) → Some dialog.head ≡ declared_dialog_head d.node
      → dialog.plan ≡ plan_of d.views d.rules → opened look dialog.body ≡ fresh_tree d → dialog.marks ≡ []
      → Rests look d (unfocused d None []) dialog
  fresh-rests lawful dialog head plan body marks = record {
    head = head;
    plan = plan;
    tree = ap (map unflagged) body ∙ fresh-alike d lawful (unfocused d None []).leaves;
    steady = steady-declared d lawful [];
    marks = inl marks;
  }

  -- and one whose values were set, as if by the record in field order
  pub rests-set : IsLawfulDialog d → (m : Modal) (entries : Entries) → (old new : DialogOf V) → Rests look d m old → FitsAll entries (opened look old.body)
      → new.head ≡ old.head → new.plan ≡ old.plan → new.marks ≡ old.marks
      → opened look new.body ≡ all_set entries (opened look old.body)
      → Rests look d (unfocused d (Some (in_field_order d entries)) m.overwriting) new
  rests-set lawful m entries old new s fits head plan marks body =
      let ordered = in_field_order d entries in
      let suits = fits-alike entries (opened look old.body) (tree_of d m) s.tree fits in
      let fields = ordered-fields d lawful entries m.leaves m suits in
      let shut : Modal = unfocused d (Some ordered) m.overwriting in
      record {
        head = ap Some head ∙ s.head;
        plan = plan ∙ s.plan;
        tree = ap (map unflagged) body ∙ set-alike entries (opened look old.body) (tree_of d m) s.tree
            ∙ ap (map unflagged) (set-ordered d lawful entries m.leaves m s.steady)
            ∙ ap (map unflagged) (set-tree d lawful ordered fields m.overwriting m.leaves m s.steady (λ leaf e. refl))
            ∙ alike-rules d m.leaves shut.leaves shut;
        steady = steady-unfocused d lawful ordered fields m.overwriting m.leaves m (ordered-fits d lawful entries m.leaves m suits);
        marks = subst (AreFields d) (sym marks) s.marks;
      }

  -- ---- rules are applied

  -- a dialog that rests stands then
  pub stands-applied : IsLawfulDialog d → (m : Modal) (rules : Rules) (old new : DialogOf V) → m.ended ≡ None → Rests look d m old
      → old.focus ≡ m.focus → old.log.items ≡ m.log → old.is_open ≡ true → old.ended ≡ None
      → new.head ≡ old.head → new.plan ≡ old.plan → new.focus ≡ old.focus → new.log ≡ old.log → new.is_open ≡ old.is_open → new.ended ≡ old.ended
      → new.marks ≡ gathered_within (opened look old.body) old.marks
      → (length old.plan.leaves ≤ 64 → new.ruled.shown.items ≡ shown_by old.plan new.marks)
      → ((number : ℕ) → number < 256 → slice_index_or new.ruled.commands number false ≡ is_enabled_in_plan old.plan new.marks number)
      → rules.shown.now ≡ new.ruled.shown.items → rules.commands.now ≡ new.ruled.commands
      → opened look new.body ≡ all_applied rules (opened look old.body)
      → Stands look d m.leaves m new
  stands-applied lawful m rules old new going s focus log is fresh head plan same_focus same_log still unended marks shown commands shows lets body =
      let own = plan_of d.views d.rules in
      let fields : new.marks ≡ fields_of m.leaves
      = marks ∙ gathered-alike (opened look old.body) (tree_of d m) old.marks s.tree
      ∙ gathered-again d lawful m s.steady m.leaves old.marks s.marks in
      let count = lawful.count in
      let fewer = fewer_leaves [] d.views in
      let same : length own.leaves ≡ length (leaf_list d.views) = length-map (leaf_list d.views) (leaf_plan d.views d.rules) in
      let few : length old.plan.leaves ≤ 64 = omega (arith, ap (λ p. length p.leaves) s.plan, same, fewer, count) in
      let shown_now : rules.shown.now ≡ shown_by own (fields_of m.leaves)
      = shows ∙ shown few ∙ ap (λ p. shown_by p new.marks) s.plan ∙ ap (shown_by own) fields in
      let enabled : (number : ℕ) → number < 256 → slice_index_or new.ruled.commands number false ≡ is_command_enabled d m.leaves number
      = λ number less. commands number less ∙ ap (λ p. is_enabled_in_plan p new.marks number) s.plan
      ∙ ap (λ v. is_enabled_in_plan own v number) fields ∙ enabled-plan d lawful m s.steady.leaves number in
      let are : AreRulesOf d m.leaves rules = record {
        shown = subst (λ ids. All (λ leaf. is_among ids leaf.node.id ≡ is_visible d m.leaves leaf) (leaf_list d.views)) (sym shown_now)
            (shown-plan d lawful m s.steady.leaves);
        enabled = λ number less. ap (λ set. slice_index_or set number false) lets ∙ enabled number less;
      } in
      record {
        head = ap Some head ∙ s.head;
        plan = plan ∙ s.plan;
        tree = body ∙ applied-alike rules (opened look old.body) (tree_of d m) s.tree ∙ applied-tree d lawful rules m.leaves m are;
        steady = s.steady;
        focus = same_focus ∙ focus;
        log = ap (λ l. l.items) same_log ∙ log;
        «open» = still ∙ is ∙ ap is_none (sym going);
        ended = ap end_number (unended ∙ fresh) ∙ sym going;
        marks = subst (AreFields d) (sym fields) (fields-are d lawful m s.steady);
        commands = λ number less. enabled number less ∙ sym (ap (λ e. is_some e || is_command_enabled d m.leaves number) going);
      }

-- ---- the first focus

module _ (d : Dialog) (lawful : IsLawfulDialog d) (saved : Option Entries) (overwriting : List Id) where
  abbrev shut : Modal
  shut = unfocused d saved overwriting

  -- what the tree answers
  first-found : (o : Option Id) → o ≡ first_in Forward (tree_of d shut) → o ≡ first_free (stops_of d shut.leaves)
  first-found o e = e ∙ first-tree d shut.leaves shut

  module _ (i : Id) (e : Some i ≡ first_in Forward (tree_of d shut)) where
    pub found-free : is_free_at d shut.leaves i ≡ true
    found-free = first-free d lawful shut.leaves i (sym (first-found (Some i) e))

    pub found-other : (i.0 == shut.focus.0) ≡ false
    found-other = free-other d lawful shut.leaves i found-free

    pub found-opened : focus_moved d i shut ≡ opens d saved overwriting
    found-opened = ap (λ o. focus_moved d (unwrap_or o d.node.id) shut) (first-found (Some i) e)

  -- there is one
  pub none-absurd : None ≡ first_in Forward (tree_of d shut) → ⊥
  none-absurd e = false≢true (ap is_some (first-found None e) ∙ lawful.«free» shut.leaves)
  -- ---- a dialog that opened

-- ---- the declared values

or-itself : {A : Type 0} (o : Option A) → option_or o o ≡ o
or-itself None = refl
or-itself (Some x) = refl

module _ (d : Dialog) (lawful : IsLawfulDialog d) (overwriting : List Id) where
  -- the record of a new dialog's fields
  abbrev pub declared : Entries
  declared = fields_of (opened_leaves d None)

  -- it has the fields of the dialog
  pub declared-fields : map (λ entry. entry.id) declared ≡ field_ids d
  declared-fields = fields-ids d lawful (unfocused d None overwriting) (steady-declared d lawful overwriting)

  -- to open with it is to open with no record
  pub declared-leaves : opened_leaves d (Some declared) ≡ opened_leaves d None
  declared-leaves =
      leaves-same d lawful (λ leaf. opened_leaf (Some declared) leaf.node) (λ leaf. opened_leaf None leaf.node)
      (λ leaf e.
      let own = declared_value leaf.node.kind in
      let found : value_of declared leaf.node.id.0 ≡ own
      = value-fields d lawful (unfocused d None overwriting) (leaves-unfocused d None overwriting) leaf.node.id
      ∙ ap (λ c. c.value) (content_at-unfocused d None overwriting leaf e) in
      ap (opened_with leaf.node) (ap (λ o. option_or o own) found ∙ or-itself own))

  pub declared-opened : opens d (Some declared) overwriting ≡ opens d None overwriting
  declared-opened =
      ap (λ leaves. focus_moved d (first_focus d leaves) (record (unfocused d None overwriting) { leaves = leaves })) declared-leaves
