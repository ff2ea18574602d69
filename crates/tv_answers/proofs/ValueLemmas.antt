-- The values that a log answers can be spelled.
use Rattle.std.proofs.Common.{◌≡◌, ℕ, zero, suc, ◌≤◌, ◌&&◌, ◌==◌, Bool, true, false, List, [], ◌∷◌, map, min, encode_utf8_all, Option, Some, None, pos, negsuc, refl, subst, arith, ℤ}
use Rattle.std.specs.Prelude.{IfSome, length, int_le, option_and_then, option_map, if◌then◌else◌}
use Rattle.std.specs.List.{AllByRecursion}
use Rattle.std.proofs.lemmas.Bool.{leb-true, and_parts}
use Rattle.tv_model.specs.declared.desc.Desc.{Desc}
use Rattle.tv_model.specs.declared.desc.Dialog.{Dialog}
use Rattle.tv_model.specs.declared.kind.Kind.{Kind}
use Rattle.tv_model.specs.declared.kind.Kind.TheVariants as kinds
use Rattle.tv_model.specs.declared.node.Id.{Id}
use Rattle.tv_model.specs.declared.record.Value.{Value}
use Rattle.tv_model.specs.declared.record.Value.TheVariants as values
use Rattle.tv_model.specs.Description.Rules.{is_item}
use Rattle.tv_model.specs.Log.Record.{Entries, with_value}
use Rattle.tv_valid.specs.declared.input.InputSpec.{InputSpec}
use Rattle.tv_model.specs.Faults.Domains.{any_text, may_stand}
use Rattle.tv_words.specs.declared.word.Word.{Word}
use Rattle.tv_words.specs.declared.word.Word.TheVariants.{Bare, Quoted}
use Rattle.tv_words.specs.Canonical.{canonical_line}
use Rattle.tv_words.specs.Fields.{IsNumber, text_in}
use Rattle.tv_words.specs.Reading.Numbers.{number_in}
use Rattle.tv_words.proofs.CanonicalLineLemmas.{Stands, line_of_words}
use Rattle.tv_answers.specs.declared.answers.Answer.{Answer}
use Rattle.tv_answers.specs.declared.answers.Answers.{Answers}
use Rattle.tv_answers.specs.FieldValues.{item_among, item_in, marks_in, text_for, value_for}
use Rattle.tv_answers.specs.Filling.{HaveSpelledValues, IsSpelledText, IsSpelledValue}
use Rattle.tv_answers.specs.ReadLogs.{answers_in, changed_at, no_answer}
use Rattle.tv_answers.proofs.KeptLemmas.{IsKept, answers_keep}

-- ---- values

item_if : (b : Bool) (m count : ℕ) → count ≤ 255 → is_item (pos m) count ≡ b → IfSome (if b then Some m else None) (λ item. IsNumber (pos item))
item_if true m count small is =
    let high : m ≤ count = leb-true m count (and_parts (int_le (pos 1) (pos m)) (int_le (pos m) (pos count)) is).1 in
    record { sfits = omega arith }
item_if false m count small is = tt

item_numbered : (count : ℕ) → count ≤ 255 → (o : Option ℤ) → IfSome (option_and_then (item_among count) o) (λ item. IsNumber (pos item))
item_numbered count small None = tt
item_numbered count small (Some (pos m)) = item_if (is_item (pos m) count) m count small refl
item_numbered count small (Some (negsuc m)) = tt

as_item : (o : Option ℕ) → IfSome o (λ item. IsNumber (pos item)) → IfSome (option_map values.Item o) IsSpelledValue
as_item None has = tt
as_item (Some item) has = has

as_marks : (o : Option ℕ) → IfSome (option_map values.Marks o) IsSpelledValue
as_marks None = tt
as_marks (Some marks) = tt

small_count : (count : ℕ) → min count 255 ≤ 255
small_count count = omega arith

choice : (count : ℕ) (word : Word) → IfSome (option_map values.Item (item_in (min count 255) word)) IsSpelledValue
choice count word = as_item (item_in (min count 255) word) (item_numbered (min count 255) (small_count count) (number_in word))

text_if : (b : Bool) (text : List ℕ) → IsSpelledText text → IfSome (if b then Some (values.Text text) else None) IsSpelledValue
text_if true text spelled = spelled
text_if false text spelled = tt

text_spelled : (spec : InputSpec) (word : Word) → Stands word → IfSome (option_and_then (text_for spec) (text_in word)) IsSpelledValue
text_spelled spec (Bare text) stands = tt
text_spelled spec (Quoted text) stands =
    text_if (any_text spec && may_stand text spec) text (encode_utf8_all (canonical_line (Quoted text ∷ [])), line_of_words (Quoted text) [] (stands, tt) refl)

value_spelled : (k : Kind) (ws : List Word) → AllByRecursion Stands ws → IfSome (value_for k ws) IsSpelledValue
value_spelled (kinds.Input input) (word ∷ []) stand = text_spelled input.spec word stand.0
value_spelled (kinds.CheckBoxes boxes) ws stand = as_marks (marks_in (length boxes.items) ws)
value_spelled (kinds.RadioButtons radios) (word ∷ []) stand = choice (length radios.items) word
value_spelled (kinds.List list) (word ∷ []) stand = choice (length list.items) word
value_spelled _ _ stand = tt

-- ---- answers

abbrev AreSpelled : Entries → Type 0
AreSpelled es = AllByRecursion (λ entry. IsSpelledValue entry.value) es

abbrev AllSpelled : List Answer → Type 0
AllSpelled given = AllByRecursion (λ answer. AreSpelled answer.entries) given

changed : (place : ℕ) (change : Answer → Answer) → ((answer : Answer) → AreSpelled answer.entries → AreSpelled (change answer).entries) → (given : List Answer) → AllSpelled given → AllSpelled (changed_at place change given)
changed place change keeps [] all = tt
changed zero change keeps (answer ∷ given) all = (keeps answer all.0, all.1)
changed (suc place) change keeps (answer ∷ given) all = (all.0, changed place change keeps given all.1)

module _ (id : Id) (v : Value) (has : IsSpelledValue v) where
  put_if : (es more : Entries) (e : _) (b : Bool) → AreSpelled (e ∷ es) → AreSpelled more → AreSpelled (if b then record { id = e.id; value = v } ∷ es else e ∷ more)
  put_if es more e true all later = (has, all.1)
  put_if es more e false all later = (all.0, later)

  put : (es : Entries) → AreSpelled es → AreSpelled (with_value es id v)
  put [] all = (has, tt)
  put (e ∷ es) all = put_if es (with_value es id v) e (e.id.0 == id.0) all (put es all.1)

none_spelled : (ds : List Dialog) → AllSpelled (map (λ dialog. no_answer) ds)
none_spelled [] = tt
none_spelled (d ∷ ds) = (tt, none_spelled ds)

-- ---- logs

spelled_kept : (d : Desc) → IsKept d HaveSpelledValues
spelled_kept d = record {
  misfits = λ n kind a has. has;
  commands = λ place command a has. changed place (λ answer. record answer { command = Some command }) (λ answer all. all) a.dialogs has;
  entries = λ place view v a e has.
      changed place (λ answer. record answer { entries = with_value answer.entries view.id v }) (λ answer all. put view.id v (subst (λ o. IfSome o IsSpelledValue) e.valued (value_spelled view.kind e.words e.stand)) answer.entries all) a.dialogs has;
}

pub answers_spelled : (d : Desc) (text : List ℕ) (a : Answers) → answers_in d text ≡ Some a → HaveSpelledValues a
answers_spelled d text a is = answers_keep d HaveSpelledValues (spelled_kept d) text a (none_spelled d.dialogs) is
