-- The values of a fresh body: a record has room for them, and they fit it again.
use Rattle.std.proofs.Common.{arith, inr, ◌≡◌, ◌≤◌, ◌<◌, ◌+◌, ◌∙◌, ◌==◌, if◌then◌else◌, suc, List, [], ◌∷◌, length, Option, Some, None, sym, ap, subst, All}
use Rattle.std.proofs.lemmas.Bool.{false≢true}
use Rattle.std.proofs.lemmas.List.{length-map}
use Rattle.std.proofs.lemmas.List.Elements.{All-map}
use Rattle.tv_model.specs.declared.node.Id.{Id}
use Rattle.tv_model.specs.declared.kind.Kind.{Kind}
use Rattle.tv_model.specs.declared.kind.Kind.TheVariants as kinds
use Rattle.tv_model.specs.declared.record.Entry.{Entry}
use Rattle.tv_model.specs.declared.record.Value.{Value}
use Rattle.tv_model.specs.declared.record.Value.TheVariants as values
use Rattle.tv_model.specs.declared.desc.Dialog.{Dialog}
use Rattle.tv_view.specs.Meaning.{Leaf, Placed}
use Rattle.tv_model.specs.Log.Record.{Entries, value_of, with_value}
use Rattle.tv_machine.specs.Controls.Declared.{declared_value}
use Rattle.tv_machine.specs.Leaves.{PlacedNode, leaf_list}
use Rattle.tv_machine.specs.Safe.{HasValueOf}
use Rattle.tv_machine.specs.Dialog.Ending.{fields_of}
use Rattle.tv_machine.specs.Dialog.Lawful.{IsLawfulDialog}
use Rattle.tv_machine.specs.Dialog.Opening.{opened_leaves, unfocused}
use Rattle.tv_view.specs.Calls.{Fits, HasRoom, HasRoomFor, IsFieldValue, gathered, with_field}
use Rattle.tv_group.specs.Calls.{FitsAll, HasRoomForAll, all_gathered}
use Rattle.tv_group.specs.Opened.{opened}
use Rattle.tv_group.specs.Outline.{IsFreshBody}
use Rattle.tv_group.specs.declared.group.GroupOf.{GroupOf}
use Rattle.tv_group.proofs.GatheredLemmas.{gathered-all}
use Rattle.tv_group.proofs.TreeLemmas.{opened-fresh}
use Rattle.tv_group.specs.Tree.{tree_of}
use Rattle.tv_group.proofs.Tree.EndingLemmas.{fewer_leaves, gathered-tree}
use Rattle.tv_dialog.proofs.FreshLemmas.{fresh-alike, fresh_leaf, fresh_tree}
use Rattle.tv_group.proofs.Tree.GatheredLemmas.{value-fields}
use Rattle.tv_machine.proofs.ListLemmas.{bool_cases}
use Rattle.tv_group.proofs.Tree.OpeningLemmas.{content_at-unfocused, leaves-unfocused}
use Rattle.tv_dialog.proofs.ReopenLemmas.{gathered-alike}
use Rattle.tv_machine.proofs.LeafLemmas.{IsIn, leaf_at-all, leaves-are}

-- ---- room

-- one more value is one more entry at most
with_value-grows : (entries : Entries) (i : Id) (value : Value) → length (with_value entries i value) ≤ suc (length entries)
with_value-grows [] i value = omega arith
with_value-grows (e ∷ es) i value =
    let more = with_value-grows es i value in
    let put : Entry = record { id = e.id; value = value } in
    bool_cases (e.id.0 == i.0) (λ b. length (if b then put ∷ es else e ∷ with_value es i value) ≤ suc (suc (length es)))
    (λ is. omega arith) (λ is. omega (arith, more))

field-grows : (o : Option Value) (i : Id) (entries : Entries) → length (with_field o i entries) ≤ suc (length entries)
field-grows None i entries = omega arith
field-grows (Some value) i entries = with_value-grows entries i value

room_for : (o : Option Value) (i : Id) (entries : Entries) → length entries < 64 → HasRoomFor o i entries
room_for None i entries h = tt
room_for (Some value) i entries h = inr h

-- a record has room for so few leaves
pub few-room : (xs : List Placed) (entries : Entries) → length entries + length xs ≤ 64 → HasRoomForAll xs entries
unfolding HasRoom gathered
few-room [] entries h = tt
few-room (x ∷ xs) entries h =
    let more = field-grows x.leaf.value x.leaf.node.id entries in
    (room_for x.leaf.value x.leaf.node.id entries (omega (arith, h)), few-room xs (gathered x.leaf entries) (omega (arith, h, more)))

-- ---- values

-- what the machine says of a value of its kind is what a view asks of it
value-fits : (kind : Kind) (value : Option Value) → HasValueOf kind value → IsFieldValue kind value
value-fits (kinds.Input input) (Some (values.Text text)) has = has
value-fits (kinds.Input input) (Some (values.Marks marks)) has = has
value-fits (kinds.Input input) (Some (values.Item item)) has = has
value-fits (kinds.Input input) None has = absurd (false≢true (sym has))
value-fits (kinds.CheckBoxes boxes) (Some (values.Text text)) has = has
value-fits (kinds.CheckBoxes boxes) (Some (values.Marks marks)) has = has
value-fits (kinds.CheckBoxes boxes) (Some (values.Item item)) has = has
value-fits (kinds.CheckBoxes boxes) None has = absurd (false≢true (sym has))
value-fits (kinds.RadioButtons radios) (Some (values.Text text)) has = has
value-fits (kinds.RadioButtons radios) (Some (values.Marks marks)) has = has
value-fits (kinds.RadioButtons radios) (Some (values.Item item)) has = has
value-fits (kinds.RadioButtons radios) None has = absurd (false≢true (sym has))
value-fits (kinds.List list) (Some (values.Text text)) has = has
value-fits (kinds.List list) (Some (values.Marks marks)) has = has
value-fits (kinds.List list) (Some (values.Item item)) has = has
value-fits (kinds.List list) None has = absurd (false≢true (sym has))
value-fits _ value has = tt

-- ---- a fresh body

module _ (d : Dialog) (lawful : IsLawfulDialog d) where
  -- the record of its declared values
  abbrev pub declared_record : Entries
  declared_record = fields_of (opened_leaves d None)

  declared-found : (leaf : PlacedNode) → IsIn d leaf → value_of declared_record leaf.node.id.0 ≡ declared_value leaf.node.kind
  declared-found leaf e =
      value-fields d lawful (unfocused d None []) (leaves-unfocused d None []) leaf.node.id
      ∙ ap (λ c. c.value) (content_at-unfocused d None [] leaf e)

  tree-room : HasRoomForAll (fresh_tree d) []
  tree-room =
      let few = fewer_leaves [] d.views in
      let count = lawful.count in
      let same : length (fresh_tree d) ≡ length (leaf_list d.views) = length-map (leaf_list d.views) (fresh_leaf d) in
      few-room (fresh_tree d) [] (omega (arith, few, count, same))

  tree-record : all_gathered (fresh_tree d) [] ≡ declared_record
  tree-record =
      sym (gathered-all (fresh_tree d) [] tree-room)
      ∙ gathered-alike (fresh_tree d) (tree_of d (unfocused d None [])) [] (fresh-alike d lawful (unfocused d None []).leaves)
      ∙ gathered-tree d lawful (unfocused d None []).leaves (unfocused d None []) (leaves-unfocused d None [])

  module _ (valued : All (λ leaf. HasValueOf leaf.node.kind (declared_value leaf.node.kind)) (leaf_list d.views)) where
    tree-fits : FitsAll declared_record (fresh_tree d)
    unfolding Fits
    tree-fits =
        All-map (λ x. Fits declared_record x.leaf) (fresh_leaf d) (leaf_list d.views)
        (leaves-are d lawful (λ leaf. Fits declared_record (fresh_leaf d leaf).leaf)
        (λ leaf e. subst (IsFieldValue leaf.node.kind) (sym (declared-found leaf e))
        (value-fits leaf.node.kind (declared_value leaf.node.kind)
        (leaf_at-all (λ other. HasValueOf other.node.kind (declared_value other.node.kind)) d leaf.node.id leaf valued e))))

    module _ {V : Type 0} (look : V → Leaf) (g : GroupOf V) (fresh : IsFreshBody look d.node d.views g) where
      -- a record has room for the values of the body
      pub fresh-room : HasRoomForAll (opened look g) []
      fresh-room = subst (λ xs. HasRoomForAll xs []) (sym (opened-fresh look d.node d.views g fresh)) tree-room

      -- they are those declared
      pub fresh-record : all_gathered (opened look g) [] ≡ declared_record
      fresh-record = ap (λ xs. all_gathered xs []) (opened-fresh look d.node d.views g fresh) ∙ tree-record
