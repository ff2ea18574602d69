-- A field begins with the value that words give it.
use Rattle.std.proofs.Common.{◌≡◌, ℕ, ◌+◌, ◌-◌, ◌^◌, ◌<◌, ◌≤◌, ◌&&◌, Bool, true, false, List, [], ◌∷◌, length, min, Option, Some, None, option_map, pos, negsuc, refl, ap, ℤ, arith}
use Rattle.std.specs.Prelude.{IfSome, int_le, nat_lt, option_and_then, if◌then◌else◌}
use Rattle.std.proofs.lemmas.Bool.{leb-true, and_parts}
use Rattle.std.proofs.lemmas.Bool.Decides.{nat_tests}
use Rattle.std.proofs.Math.Pow.{pow_mono}
use Rattle.tv_model.specs.declared.kind.CheckBoxes.{CheckBoxes}
use Rattle.tv_model.specs.declared.kind.Input.{Input}
use Rattle.tv_model.specs.declared.kind.Kind.{Kind}
use Rattle.tv_model.specs.declared.kind.Kind.TheVariants as kinds
use Rattle.tv_model.specs.declared.record.Value.{Value}
use Rattle.tv_model.specs.declared.record.Value.TheVariants as values
use Rattle.tv_model.specs.Description.Rules.{is_item}
use Rattle.tv_model.specs.Faults.Domains.{any_text, may_stand}
use Rattle.tv_machine.specs.Controls.Declared.{declared_value, opened_private}
use Rattle.tv_words.specs.declared.word.Word.{Word}
use Rattle.tv_words.specs.declared.word.Word.TheVariants.{Bare, Quoted}
use Rattle.tv_words.specs.Fields.{text_in}
use Rattle.tv_words.specs.Reading.Numbers.{number_in}
use Rattle.tv_words.specs.Reading.Steps.{steps}
use Rattle.tv_answers.specs.FieldValues.{is_dash, item_among, item_in, marks_among, marks_in, text_for, value_for, with_mark, with_marked}
use Rattle.tv_answers.specs.Filling.{with_start}
use Rattle.tv_answers.proofs.MarkedLemmas.{marks_again}

-- the declared value of the kind that begins with the value is that
abbrev pub Begins : Kind → Value → Type 0
Begins kind value = declared_value (with_start kind value) ≡ Some value

-- ---- items

abbrev IsWithin : ℕ → ℕ → Type 0
IsWithin count item = (1 ≤ item) × (item ≤ count)

within_if : (b : Bool) (m count : ℕ) → is_item (pos m) count ≡ b → IfSome (if b then Some m else None) (IsWithin count)
within_if true m count is =
    let both = and_parts (int_le (pos 1) (pos m)) (int_le (pos m) (pos count)) is in
    (leb-true 1 m both.0, leb-true m count both.1)
within_if false m count is = tt

among : (count : ℕ) (o : Option ℤ) → IfSome (option_and_then (item_among count) o) (IsWithin count)
among count None = tt
among count (Some (pos m)) = within_if (is_item (pos m) count) m count refl
among count (Some (negsuc m)) = tt

pub item_within : (count : ℕ) (word : Word) → IfSome (item_in count word) (IsWithin count)
item_within count word = among count (number_in word)

-- ---- marks

abbrev IsSmall : ℕ → Type 0
IsSmall marks = marks < 2 ^ 16

sum_small : (a b : ℕ) → a < b → b ≤ 2 ^ 15 → a + b < 2 ^ 16
sum_small a b less low = omega (arith, less, low)

mark_if : (b : Bool) (marks item : ℕ) → item ≤ 16 → nat_lt marks (2 ^ (item - 1)) ≡ b → IfSome (if b then Some (marks + 2 ^ (item - 1)) else None) IsSmall
mark_if true marks item few e = sum_small marks (2 ^ (item - 1)) (below marks (2 ^ (item - 1)) e) (pow_mono {i = item - 1} {j = 15} (omega (arith, few)))
  where
    below : (a b : ℕ) → nat_lt a b ≡ true → a < b
    below a b h = grind (arith, nat_tests, h)
mark_if false marks item few e = tt

marked_item : (count marks : ℕ) → count ≤ 16 → (o : Option ℕ) → IfSome o (IsWithin count) → IfSome (option_and_then (with_mark marks) o) IsSmall
marked_item count marks few None is = tt
marked_item count marks few (Some item) is = mark_if (nat_lt marks (2 ^ (item - 1))) marks item (omega (arith, few, is.1)) refl

then_small : (o : Option ℕ) (next : ℕ → Option ℕ) → IfSome o IsSmall → ((marks : ℕ) → IsSmall marks → IfSome (next marks) IsSmall) → IfSome (option_and_then next o) IsSmall
then_small None next small later = tt
then_small (Some marks) next small later = later marks small

marked_words : (count : ℕ) → count ≤ 16 → (ws : List Word) (marks : ℕ) → IsSmall marks → IfSome (steps (with_marked count) marks ws) IsSmall
marked_words count few [] marks small = small
marked_words count few (w ∷ ws) marks small =
    then_small (with_marked count marks w) (λ more. steps (with_marked count) more ws) (marked_item count marks few (item_in count w) (item_within count w)) (marked_words count few ws)

few_items : (count : ℕ) → min count 16 ≤ 16
few_items count = omega arith

none_small : 0 < 2 ^ 16
none_small = omega arith

pub marks_small : (count : ℕ) (ws : List Word) → IfSome (marks_in count ws) IsSmall
marks_small count [] = tt
marks_small count (w ∷ ws) = dashed (is_dash (w ∷ ws))
  where
    dashed : (b : Bool) → IfSome (if b then Some 0 else marks_among (min count 16) (w ∷ ws)) IsSmall
    dashed true = none_small
    dashed false = marked_words (min count 16) (few_items count) (w ∷ ws) 0 none_small

-- ---- values

module _ (input : Input) where
  text_begins : (b : Bool) (text : List ℕ) → IfSome (if b then Some (values.Text text) else None) (Begins (kinds.Input input))
  text_begins true text = refl
  text_begins false text = tt

  word_begins : (w : Word) → IfSome (option_and_then (text_for input.spec) (text_in w)) (Begins (kinds.Input input))
  word_begins (Bare text) = tt
  word_begins (Quoted text) = text_begins (any_text input.spec && may_stand text input.spec) text

marks_begin : (boxes : CheckBoxes) (o : Option ℕ) → IfSome o IsSmall → IfSome (option_map values.Marks o) (Begins (kinds.CheckBoxes boxes))
marks_begin boxes None small = tt
marks_begin boxes (Some marks) small = ap (λ m. Some (values.Marks m)) (marks_again marks small)

item_begins : (k : Kind) → ((item : ℕ) → Begins k (values.Item item)) → (o : Option ℕ) → IfSome (option_map values.Item o) (Begins k)
item_begins k begins None = tt
item_begins k begins (Some item) = begins item

pub value_begins : (k : Kind) (ws : List Word) → IfSome (value_for k ws) (Begins k)
value_begins (kinds.Input input) (w ∷ []) = word_begins input w
value_begins (kinds.CheckBoxes boxes) ws = marks_begin boxes (marks_in (length boxes.items) ws) (marks_small (length boxes.items) ws)
value_begins (kinds.RadioButtons radios) (w ∷ []) = item_begins (kinds.RadioButtons radios) (λ item. refl) (item_in (min (length radios.items) 255) w)
value_begins (kinds.List list) (w ∷ []) = item_begins (kinds.List list) (λ item. refl) (item_in (min (length list.items) 255) w)
value_begins _ _ = tt

-- what it keeps beside its value stays as it is
pub private_begun : (k : Kind) (v : Value) (w : Option Value) → opened_private (with_start k v) w ≡ opened_private k w
private_begun (kinds.Input input) (values.Text text) w = refl
private_begun (kinds.CheckBoxes boxes) (values.Marks marks) w = refl
private_begun (kinds.RadioButtons radios) (values.Item item) w = refl
private_begun (kinds.List list) (values.Item item) w = refl
private_begun _ _ w = refl
