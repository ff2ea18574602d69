-- The values of a dialog: a record has room for them, and what its last end saved fits it when it opens again.
use Rattle.std.proofs.Common.{arith, ◌≡◌, ◌∙◌, List, [], map, length, get_or, Option, Some, None, is_some, refl, sym, ap, subst, All}
use Rattle.std.proofs.lemmas.Bool.{false≢true}
use Rattle.std.proofs.lemmas.Int.{ints}
use Rattle.std.specs.Prelude.{IfSome}
use Rattle.std.proofs.lemmas.List.{length-map}
use Rattle.std.proofs.lemmas.List.Elements.{All-head, All-map}
use Rattle.tv_model.specs.declared.node.Id.{Id}
use Rattle.tv_model.specs.declared.node.Node.{Node}
use Rattle.tv_model.specs.declared.kind.Kind.{Kind}
use Rattle.tv_model.specs.declared.kind.Kind.TheVariants as kinds
use Rattle.tv_model.specs.declared.record.Value.{Value}
use Rattle.tv_model.specs.declared.record.Value.TheVariants as values
use Rattle.tv_model.specs.declared.desc.Dialog.{Dialog}
use Rattle.tv_view.specs.Meaning.{Leaf}
use Rattle.tv_model.specs.Description.LawfulNodes as lawful_nodes
use Rattle.tv_model.specs.Log.Record.{Entries, value_of}
use Rattle.tv_machine.specs.Controls.Declared.{declared_value}
use Rattle.tv_machine.specs.State.{LeafState}
use Rattle.tv_machine.specs.Leaves.{PlacedNode, leaf_list}
use Rattle.tv_machine.specs.Safe.{HasValueOf, IsSafeRecord, field_ids}
use Rattle.tv_machine.specs.Dialog.Ending.{fields_of}
use Rattle.tv_machine.specs.Dialog.Lawful.{IsLawfulDialog}
use Rattle.tv_machine.specs.Dialog.Modal.{Modal}
use Rattle.tv_machine.specs.Dialog.Opening.{opened_dialog as opens, unfocused}
use Rattle.tv_machine.specs.Dialog.Sound.{IsSoundDialog}
use Rattle.tv_machine.proofs.LeafLemmas.{IsIn, leaf_at-all, leaves-all, leaves-are}
use Rattle.tv_machine.proofs.ListLemmas.{option_cases}
use Rattle.tv_view.specs.Calls.{Fits, IsFieldValue}
use Rattle.tv_group.specs.Calls.{FitsAll, HasRoomForAll, all_gathered}
use Rattle.tv_group.specs.Opened.{opened}
use Rattle.tv_group.specs.Outline.{IsFreshBody}
use Rattle.tv_group.specs.declared.group.GroupOf.{GroupOf}
use Rattle.tv_group.proofs.GatheredLemmas.{gathered-all}
use Rattle.tv_group.specs.Tree.{placed_as, tree_as, tree_of}
use Rattle.tv_group.proofs.Tree.EndingLemmas.{fewer_leaves, gathered-tree}
use Rattle.tv_group.proofs.Tree.GatheredLemmas.{value-fields}
use Rattle.tv_group.proofs.Tree.OpeningLemmas.{content_at-unfocused, leaves-unfocused, recorded-field}
use Rattle.tv_laws.specs.Steps.{IsSafeSave}
use Rattle.tv_laws.proofs.ComingLemmas.{declared-fit}
use Rattle.tv_laws.proofs.OpenLemmas.{recorded_value}
use Rattle.tv_dialog.specs.Head.{IsLimitedDialogHead, declared_dialog_head}
use Rattle.tv_dialog.specs.Resting.{Rests}
use Rattle.tv_dialog.specs.Standing.{Stands}
use Rattle.tv_dialog.specs.declared.dialog.DialogOf.{DialogOf}
use Rattle.tv_dialog.proofs.FirstRecordLemmas.{declared_record, few-room, fresh-record, fresh-room}
use Rattle.tv_dialog.proofs.FreshLemmas.{fits-alike}
use Rattle.tv_dialog.proofs.ReopenLemmas.{declared-fields, declared-opened}
use Rattle.tv_dialogs.specs.Kept.{IsKeptAs, first_values}
use Rattle.tv_dialogs.specs.declared.kept.Kept.{Kept}

-- ---- heads

head_limited : (node : Node) (k : Kind) → lawful_nodes.IsLimited (record node { kind = k }) → IfSome (declared_dialog_head (record node { kind = k })) IsLimitedDialogHead
head_limited node (kinds.Dialog own) limits =
    let w = limits.w in
    let h = limits.h in
    record {
      size = record {
        across = (omega (arith, ints, w.0), w.1);
        down = (omega (arith, ints, h.0), h.1);
      };
      title = All-head lawful_nodes.IsShort own.title [] limits.texts;
    }
head_limited node _ limits = tt

-- a lawful dialog is no larger than the largest screen, and has a title that fits
pub lawful-limited : (d : Dialog) → IsLawfulDialog d → IfSome (declared_dialog_head d.node) IsLimitedDialogHead
lawful-limited d lawful = head_limited d.node d.node.kind (All-head lawful_nodes.IsLimited d.node d.views lawful.limits)

-- ---- values

-- what the machine says of a value of its kind is what a view asks of it
value-fits : (kind : Kind) (value : Option Value) → HasValueOf kind value → IsFieldValue kind value
value-fits (kinds.Input input) (Some (values.Text text)) has = has
value-fits (kinds.Input input) (Some _) has = absurd has
value-fits (kinds.Input input) None has = absurd (false≢true (sym has))
value-fits (kinds.CheckBoxes boxes) (Some (values.Marks marks)) has = has
value-fits (kinds.CheckBoxes boxes) (Some _) has = absurd has
value-fits (kinds.CheckBoxes boxes) None has = absurd (false≢true (sym has))
value-fits (kinds.RadioButtons radios) (Some (values.Item item)) has = has
value-fits (kinds.RadioButtons radios) (Some _) has = absurd has
value-fits (kinds.RadioButtons radios) None has = absurd (false≢true (sym has))
value-fits (kinds.List list) (Some (values.Item item)) has = has
value-fits (kinds.List list) (Some _) has = absurd has
value-fits (kinds.List list) None has = absurd (false≢true (sym has))
value-fits _ value has = tt

-- ---- a dialog that stands

module _ {V : Type 0} (look : V → Leaf) (d : Dialog) (lawful : IsLawfulDialog d) (ruled : List LeafState) (m : Modal) (dialog : DialogOf V)
    (s : Stands look d ruled m dialog) where
  tree_room : HasRoomForAll (tree_as d ruled m) []
  tree_room =
      let few = fewer_leaves [] d.views in
      let count = lawful.count in
      let same : length (tree_as d ruled m) ≡ length (leaf_list d.views) = length-map (leaf_list d.views) (placed_as d ruled m) in
      few-room (tree_as d ruled m) [] (omega (arith, few, count, same))

  pub stands-room : HasRoomForAll (opened look dialog.body) []
  stands-room = subst (λ xs. HasRoomForAll xs []) (sym s.tree) tree_room

  pub stands-values : all_gathered (opened look dialog.body) [] ≡ fields_of m.leaves
  stands-values =
      ap (λ xs. all_gathered xs []) s.tree ∙ sym (gathered-all (tree_as d ruled m) [] tree_room)
      ∙ gathered-tree d lawful ruled m s.steady.leaves

-- ---- a sound dialog

module _ (d : Dialog) (sound : IsSoundDialog d) where
  valued : All (λ leaf. HasValueOf leaf.node.kind (declared_value leaf.node.kind)) (leaf_list d.views)
  valued = leaves-all (λ view. HasValueOf view.kind (declared_value view.kind)) [] d.views (λ k e h. declared-fit (get_or d.views k e).kind (sound.starts k e h))

  tree_fits : (entries : Entries) → ((leaf : PlacedNode) → IsIn d leaf → HasValueOf leaf.node.kind (value_of entries leaf.node.id.0))
      → (ruled : List LeafState) (m : Modal) → FitsAll entries (tree_as d ruled m)
  unfolding Fits
  tree_fits entries has ruled m =
      All-map (λ x. Fits entries x.leaf) (placed_as d ruled m) (leaf_list d.views)
      (leaves-are d sound.lawful (λ leaf. Fits entries (placed_as d ruled m leaf).leaf)
      (λ leaf e. value-fits leaf.node.kind (value_of entries leaf.node.id.0) (has leaf e)))

  declared_has : (leaf : PlacedNode) → IsIn d leaf → HasValueOf leaf.node.kind (value_of (declared_record d sound.lawful) leaf.node.id.0)
  declared_has leaf e =
      subst (HasValueOf leaf.node.kind)
      (sym (value-fields d sound.lawful (unfocused d None []) (leaves-unfocused d None []) leaf.node.id
      ∙ ap (λ c. c.value) (content_at-unfocused d None [] leaf e)))
      (leaf_at-all (λ other. HasValueOf other.node.kind (declared_value other.node.kind)) d leaf.node.id leaf valued e)

  saved_has : (entries : Entries) → IsSafeRecord d entries → (leaf : PlacedNode) → IsIn d leaf → HasValueOf leaf.node.kind (value_of entries leaf.node.id.0)
  saved_has entries safe leaf e =
      option_cases (value_of entries leaf.node.id.0) (λ o. HasValueOf leaf.node.kind o)
      (λ none. sym (recorded-field d sound.lawful entries safe.fields leaf e) ∙ ap is_some none)
      (λ value found. recorded_value d sound leaf e entries value safe found)

  -- ---- what it opens with

  first_has : (saved : Option Entries) → IsSafeSave d saved → (leaf : PlacedNode) → IsIn d leaf
      → HasValueOf leaf.node.kind (value_of (first_values d saved) leaf.node.id.0)
  first_has None safe leaf e = declared_has leaf e
  first_has (Some entries) safe leaf e = saved_has entries (safe entries refl) leaf e

  -- the dialog's fields
  pub first-fields : (saved : Option Entries) → IsSafeSave d saved → map (λ entry. entry.id) (first_values d saved) ≡ field_ids d
  first-fields None safe = declared-fields d sound.lawful []
  first-fields (Some entries) safe = (safe entries refl).fields

  -- with it the dialog opens as the machine's does
  pub first-opened : (saved : Option Entries) (overwriting : List Id) → opens d (Some (first_values d saved)) overwriting ≡ opens d saved overwriting
  first-opened None overwriting = declared-opened d sound.lawful overwriting
  first-opened (Some entries) overwriting = refl

  module _ {V : Type 0} (look : V → Leaf) where
    -- and it fits the dialog
    pub first-fits : (saved : Option Entries) (overwriting : List Id) (kept : Kept V) → IsSafeSave d saved → IsKeptAs look d saved overwriting kept
        → FitsAll kept.values (opened look kept.dialog.body)
    first-fits saved overwriting kept safe is =
        subst (λ entries. FitsAll entries (opened look kept.dialog.body)) (sym is.values)
        (fits-alike (first_values d saved) (tree_of d is.modal) (opened look kept.dialog.body) (sym is.rests.tree)
        (tree_fits (first_values d saved) (first_has saved safe) is.modal.leaves is.modal))

    -- ---- a new one

    module _ (body : GroupOf V) (fresh : IsFreshBody look d.node d.views body) where
      pub new-room : HasRoomForAll (opened look body) []
      new-room = fresh-room d sound.lawful valued look body fresh

      pub new-kept : (kept : Kept V) → Rests look d (unfocused d None []) kept.dialog → kept.dialog.body ≡ body
          → kept.values ≡ all_gathered (opened look kept.dialog.body) [] → IsKeptAs look d None [] kept
      new-kept kept rests same values = record {
        values = values ∙ ap (λ g. all_gathered (opened look g) []) same ∙ fresh-record d sound.lawful valued look body fresh;
        modal = unfocused d None [];
        overwrites = refl;
        rests = rests;
      }
