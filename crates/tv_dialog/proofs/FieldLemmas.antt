-- What the record of a dialog's fields has for each leaf, and the lines of the fields.
use Rattle.std.proofs.Common.{◌≡◌, true, false, ◌||◌, ◌==◌, if◌then◌else◌, List, [], ◌∷◌, map, filter_map, get_or, Option, Some, None, option_map, refl, sym, ap, subst, ◌∙◌, All}
use Rattle.std.specs.List.{cons_option}
use Rattle.std.proofs.lemmas.List.Elements.{All-head, All-tail}
use Rattle.tv_model.specs.declared.node.Id.{Id}
use Rattle.tv_model.specs.declared.record.Value.{Value}
use Rattle.tv_model.specs.declared.desc.Dialog.{Dialog}
use Rattle.tv_model.specs.declared.log.LogLine.{LogLine}
use Rattle.tv_model.specs.declared.log.LogLine.TheVariants as lines
use Rattle.tv_model.specs.Log.Record.{Entries, value_of}
use Rattle.tv_machine.specs.State.{LeafState}
use Rattle.tv_machine.specs.Leaves.{leaf_list}
use Rattle.tv_machine.specs.Dialog.Ending.{field_line, fields_of}
use Rattle.tv_machine.specs.Dialog.Rules.{content_by, is_among, state_of}
use Rattle.tv_machine.specs.Dialog.Modal.{Modal}
use Rattle.tv_machine.specs.Dialog.Lawful.{IsLawfulDialog}
use Rattle.tv_dialog.specs.Fields.{field_lines, line_by}
use Rattle.tv_dialog.specs.Plan.{leaf_plan, plan_of}
use Rattle.tv_machine.proofs.ListLemmas.{AreApart, bool_cases, find-member, map-map, same-id}
use Rattle.tv_machine.proofs.LeafLemmas.{HasLeaves, ids-apart, state_id}
use Rattle.tv_machine.proofs.EntryLemmas.{entry_with}

-- ---- what a record has for an id

abbrev in_front : Option Value → Id → Entries → Entries
in_front o j fields = cons_option (option_map (entry_with j) o) fields

front_here : (o : Option Value) (i j : Id) (fields : Entries) → (j.0 == i.0) ≡ true → value_of fields i.0 ≡ None → value_of (in_front o j fields) i.0 ≡ o
front_here None i j fields e rest = rest
front_here (Some value) i j fields e rest = ap (λ b. if b then Some value else value_of fields i.0) e

front_there : (o : Option Value) (i j : Id) (fields : Entries) → (j.0 == i.0) ≡ false → value_of (in_front o j fields) i.0 ≡ value_of fields i.0
front_there None i j fields e = refl
front_there (Some value) i j fields e = ap (λ b. if b then Some value else value_of fields i.0) e

value-absent : (i : Id) (leaves : List LeafState) → is_among (map state_id leaves) i ≡ false → value_of (fields_of leaves) i.0 ≡ None
value-absent i [] e = refl
value-absent i (s ∷ leaves) e =
    bool_cases (s.id.0 == i.0) (λ b. (s.id.0 == i.0) ≡ b → (b || is_among (map state_id leaves) i) ≡ false → value_of (fields_of (s ∷ leaves)) i.0 ≡ None)
    (λ is here f. absurd cc)
    (λ is there f. front_there s.value i s.id (fields_of leaves) there ∙ value-absent i leaves f) refl e

-- the value of the leaf of the id
pub value-fields : (leaves : List LeafState) → AreApart (map state_id leaves) → (i : Id) → value_of (fields_of leaves) i.0 ≡ (content_by false (state_of leaves i)).value
value-fields [] apart i = refl
value-fields (s ∷ leaves) apart i =
    bool_cases (s.id.0 == i.0) (λ b. (s.id.0 == i.0) ≡ b → value_of (fields_of (s ∷ leaves)) i.0 ≡ (content_by false (if b then Some s else state_of leaves i)).value)
    (λ is here. front_here s.value i s.id (fields_of leaves) here (value-absent i leaves (ap (is_among (map state_id leaves)) (sym (same-id s.id i here)) ∙ apart.0)))
    (λ is there. front_there s.value i s.id (fields_of leaves) there ∙ value-fields leaves apart.1 i) refl

-- ---- lines

filter_map-map : {A B C : Type 0} (f : A → B) (h : B → Option C) (xs : List A) → filter_map (λ x. h (f x)) xs ≡ filter_map h (map f xs)
filter_map-map f h [] = refl
filter_map-map f h (x ∷ xs) = ap (cons_option (h (f x))) (filter_map-map f h xs)

line_front : (o : Option Value) (i : Id) (rest : List LogLine) (fields : Entries) → rest ≡ map field_line fields
    → cons_option (option_map (λ value. lines.Field i value) o) rest ≡ map field_line (in_front o i fields)
line_front None i rest fields e = e
line_front (Some value) i rest fields e = ap (λ ls. lines.Field i value ∷ ls) e

lines-states : (fields : Entries) (leaves : List LeafState) → All (λ s. value_of fields s.id.0 ≡ s.value) leaves
    → filter_map (λ s. line_by fields s.id) leaves ≡ map field_line (fields_of leaves)
lines-states fields [] all = refl
lines-states fields (s ∷ leaves) all =
    ap (λ o. cons_option (option_map (λ value. lines.Field s.id value) o) (filter_map (λ other. line_by fields other.id) leaves))
    (All-head (λ other. value_of fields other.id.0 ≡ other.value) s leaves all)
    ∙ line_front s.value s.id _ (fields_of leaves) (lines-states fields leaves (All-tail (λ other. value_of fields other.id.0 ≡ other.value) s leaves all))

module _ (d : Dialog) (lawful : IsLawfulDialog d) (m : Modal) (leaves : HasLeaves d m) where
  pub states-apart : AreApart (map state_id m.leaves)
  states-apart = subst AreApart (sym leaves) (ids-apart d lawful)

  -- the lines of the plan's leaves are those of the machine's fields
  pub lines-fields : field_lines (fields_of m.leaves) (plan_of d.views d.rules).leaves ≡ map field_line (fields_of m.leaves)
  lines-fields =
      let fields = fields_of m.leaves in
      filter_map-map (λ leaf. leaf.id) (line_by fields) (map (leaf_plan d.views d.rules) (leaf_list d.views))
      ∙ ap (filter_map (line_by fields)) (map-map (leaf_plan d.views d.rules) (λ leaf. leaf.id) (leaf_list d.views) ∙ sym leaves)
      ∙ sym (filter_map-map state_id (line_by fields) m.leaves)
      ∙ lines-states fields m.leaves
      (λ k e h. let s = get_or m.leaves k e in
      value-fields m.leaves states-apart s.id ∙ ap (λ o. (content_by false o).value) (find-member state_id m.leaves states-apart k e h))
