-- The words of a value that a field may have are read as that value.
use Rattle.std.proofs.Common.{◌≡◌, ℕ, zero, suc, ◌+◌, ◌-◌, ◌*◌, ◌%◌, ◌^◌, ◌<◌, ◌≤◌, ◌==◌, ◌&&◌, ◌||◌, Bool, true, false, List, [], ◌∷◌, cond, length, map, filter, min, Some, None, option_map, pos, IsTrue, refl, sym, ap, ◌∙◌, arith}
use Rattle.std.specs.Prelude.{codes, nat_le, nat_lt, option_and_then, is_some, if◌then◌else◌}
use Rattle.std.specs.Int.{bit_at}
use Rattle.std.specs.List.{AllByRecursion, list_all, range_with_len}
use Rattle.std.proofs.Math.Pow.{pow_mono}
use Rattle.std.proofs.lemmas.Bool.{and_from, and_parts}
use Rattle.std.proofs.lemmas.Bool.Decides.{nat_tests}
use Rattle.std.proofs.lemmas.Nat.{mod-pow-add, pow_pos}
use Rattle.std.proofs.lemmas.Nat.Bits.{bit_at-lt, bit_at_above}
use Rattle.tv_valid.specs.Domain.{IsViableText}
use Rattle.tv_machine.proofs.ListLemmas.{bool_cases}
use Rattle.tv_machine.specs.Safe.{IsValueOf}
use Rattle.tv_model.proofs.DomainLemmas.{any_text_law, may_stand_law}
use Rattle.tv_model.specs.declared.kind.Kind.{Kind}
use Rattle.tv_model.specs.declared.kind.Kind.TheVariants as kinds
use Rattle.tv_model.specs.declared.record.Value.{Value}
use Rattle.tv_model.specs.declared.record.Value.TheVariants as values
use Rattle.tv_model.specs.Controls.Contents.{is_item_place}
use Rattle.tv_model.specs.Description.LawfulNodes.{HasLawfulCount, HasLawfulDomain}
use Rattle.tv_model.specs.Description.Rules.{is_item}
use Rattle.tv_model.specs.Faults.Domains.{any_text, may_stand}
use Rattle.tv_model.specs.Log.LogText.{has_bit}
use Rattle.tv_words.specs.declared.word.Word.{Word}
use Rattle.tv_words.specs.Fields.{IsNumber, is_bare_word, number_word}
use Rattle.tv_words.specs.Reading.Numbers.{number_in}
use Rattle.tv_words.specs.Reading.Steps.{steps}
use Rattle.tv_words.proofs.FieldLemmas.{read_number_word, word_is}
use Rattle.tv_answers.specs.FieldValues.{item_among, item_in, marks_among, marks_in, value_for, with_mark, with_marked}
use Rattle.tv_answers.specs.LogLines.{is_number, is_value}
use Rattle.tv_answers.proofs.LogTextLemmas.{items_words, value_words}

abbrev item_word : ℕ → Word
item_word item = number_word (pos item)

-- ---- items

small_number : (n : ℕ) → n ≤ 255 → IsNumber (pos n)
small_number n few = record { sfits = omega (arith, few) }

item_read : (count item : ℕ) → count ≤ 255 → 1 ≤ item → item ≤ count → item_in count (item_word item) ≡ Some item
item_read count item few some most =
    ap (option_and_then (item_among count)) (read_number_word (pos item) (small_number item (omega (arith, few, most))))
    ∙ ap (λ b. if b then Some item else None) (holds item count some most)
  where
    holds : (n m : ℕ) → 1 ≤ n → n ≤ m → is_item (pos n) m ≡ true
    holds n m a b = grind (arith, nat_tests, a, b)

-- ---- marks

low_mark : (m item : ℕ) → m % 2 ^ (item - 1) < 2 ^ (item - 1)
low_mark m item = omega (arith, pow_pos (item - 1))

bit_more : (m k : ℕ) → m % 2 ^ (1 + k) ≡ bit_at m k * 2 ^ k + m % 2 ^ k
bit_more m k = mod-pow-add m 1 k

-- the marks of items up to one that is marked, or isn't
marked_more : (m k : ℕ) → bit_at m k ≡ 1 → m % 2 ^ k + 2 ^ k ≡ m % 2 ^ (1 + k)
marked_more m k e = sum (2 ^ k) (m % 2 ^ k) ∙ sym (bit_more m k ∙ ap (λ b. b * 2 ^ k + m % 2 ^ k) e)
  where
    sum : (a b : ℕ) → b + a ≡ 1 * a + b
    sum a b = omega arith

unmarked_more : (m k : ℕ) → bit_at m k ≡ 0 → m % 2 ^ k ≡ m % 2 ^ (1 + k)
unmarked_more m k e = none (2 ^ k) (m % 2 ^ k) ∙ sym (bit_more m k ∙ ap (λ b. b * 2 ^ k + m % 2 ^ k) e)
  where
    none : (a b : ℕ) → b ≡ 0 * a + b
    none a b = omega arith

module _ (m count : ℕ) (few : count ≤ 16) (small : m < 2 ^ count) where
  -- an item that is marked is one of them
  marked_within : (item : ℕ) → 1 ≤ item → bit_at m (item - 1) ≡ 1 → item ≤ count
  marked_within item some e =
      bool_cases (nat_le item count) (λ b. nat_le item count ≡ b → item ≤ count) (λ t is. within item count is)
      (λ f is. absurd (clash (bit_at m (item - 1)) e (bit_at_above m count (item - 1) small (above item count is)))) refl
    where
      within : (a b : ℕ) → nat_le a b ≡ true → a ≤ b
      within a b h = grind (arith, nat_tests, h)

      above : (a b : ℕ) → nat_le a b ≡ false → b ≤ a - 1
      above a b h = grind (arith, nat_tests, h)

      clash : (b : ℕ) → b ≡ 1 → b ≡ 0 → ⊥
      clash b one none = omega (arith, one, none)

  bit_is : (item : ℕ) → has_bit m item ≡ true → bit_at m (item - 1) ≡ 1
  bit_is item is = one (bit_at m (item - 1)) is
    where
      one : (b : ℕ) → (b == 1) ≡ true → b ≡ 1
      one b h = grind (arith, nat_tests, h)

  bit_not : (item : ℕ) → has_bit m item ≡ false → bit_at m (item - 1) ≡ 0
  bit_not item is = none (bit_at m (item - 1)) is (bit_at-lt m (item - 1))
    where
      none : (b : ℕ) → (b == 1) ≡ false → b < 2 → b ≡ 0
      none b h less = grind (arith, nat_tests, h, less)

  one_item : (item : ℕ) → 1 ≤ item → has_bit m item ≡ true → with_marked count (m % 2 ^ (item - 1)) (item_word item) ≡ Some (m % 2 ^ (1 + (item - 1)))
  one_item item some is =
      ap (option_and_then (with_mark (m % 2 ^ (item - 1)))) (item_read count item (omega (arith, few)) some (marked_within item some (bit_is item is)))
      ∙ ap (λ b. if b then Some (m % 2 ^ (item - 1) + 2 ^ (item - 1)) else None) (less (m % 2 ^ (item - 1)) (2 ^ (item - 1)) (low_mark m item))
      ∙ ap (λ n. Some n) (marked_more m (item - 1) (bit_is item is))
    where
      less : (a b : ℕ) → a < b → nat_lt a b ≡ true
      less a b h = grind (arith, nat_tests, h)

  abbrev items_from : ℕ → ℕ → List ℕ
  items_from item n = filter (has_bit m) (range_with_len item n)

  abbrev Reads : ℕ → ℕ → List ℕ → Type 0
  Reads k last items = steps (with_marked count) (m % 2 ^ k) (map item_word items) ≡ Some (m % 2 ^ last)

  reads : (n item : ℕ) → 1 ≤ item → Reads (item - 1) (item - 1 + n) (items_from item n)
  reads zero item some = ap (λ k. Some (m % 2 ^ k)) (same (item - 1))
    where
      same : (a : ℕ) → a ≡ a + 0
      same a = omega arith
  reads (suc n) item some =
      let later : Reads (item + 1 - 1) (item + 1 - 1 + n) (items_from (item + 1) n) = reads n (item + 1) (omega arith) in
      let next : item + 1 - 1 ≡ 1 + (item - 1) = omega (arith, some) in
      let last : item + 1 - 1 + n ≡ item - 1 + suc n = omega (arith, some) in
      let more : Reads (1 + (item - 1)) (item - 1 + suc n) (items_from (item + 1) n) = rw (← next, ← last) later in
      bool_cases (has_bit m item) (λ b. has_bit m item ≡ b → Reads (item - 1) (item - 1 + suc n) (cond b (item ∷ items_from (item + 1) n) (items_from (item + 1) n)))
      (λ t is. ap (option_and_then (λ acc. steps (with_marked count) acc (map item_word (items_from (item + 1) n)))) (one_item item some is) ∙ more)
      (λ f is. ap (λ acc. steps (with_marked count) acc (map item_word (items_from (item + 1) n))) (unmarked_more m (item - 1) (bit_not item is)) ∙ more)
      refl

  below : m < 2 ^ 16
  below = omega (arith, small, pow_mono {i = count} {j = 16} few)

  all_read : steps (with_marked count) 0 (map item_word (items_from 1 16)) ≡ Some m
  all_read = ap (λ acc. steps (with_marked count) acc (map item_word (items_from 1 16))) (none m) ∙ reads 16 1 (omega arith) ∙ ap (λ n. Some n) (whole m below)
    where
      none : (n : ℕ) → 0 ≡ n % 2 ^ (1 - 1)
      none n = omega arith

      whole : (n : ℕ) → n < 2 ^ 16 → n % 2 ^ (1 - 1 + 16) ≡ n
      whole n h = omega (arith, h)

-- a number is no dash
no_dash : (item : ℕ) → item ≤ 255 → is_bare_word (item_word item) (codes "-") ≡ false
no_dash item few =
    bool_cases (is_bare_word (item_word item) (codes "-")) (λ b. is_bare_word (item_word item) (codes "-") ≡ b → b ≡ false)
    (λ t is. absurd (clash (sym (read_number_word (pos item) (small_number item few)) ∙ ap number_in (word_is (item_word item) (codes "-") is)))) (λ f is. refl) refl
  where
    clash : Some (pos item) ≡ None → ⊥
    clash e = cc

abbrev pub Few : List ℕ → Type 0
Few items = AllByRecursion (λ n. n ≤ 255) items

marked_read : (count m : ℕ) (items : List ℕ) → count ≤ 16 → Few items → steps (with_marked count) 0 (map item_word items) ≡ Some m → marks_in count (items_words items) ≡ Some m
marked_read count m [] most few is = is
marked_read count m (item ∷ []) most few is =
    ap (λ b. if b then Some 0 else marks_among (min count 16) (item_word item ∷ [])) (no_dash item few.0)
    ∙ ap (λ c. marks_among c (item_word item ∷ [])) (least count most) ∙ is
  where
    least : (c : ℕ) → c ≤ 16 → min c 16 ≡ c
    least c h = omega (arith, h)
marked_read count m (item ∷ other ∷ items) most few is = ap (λ c. marks_among c (map item_word (item ∷ other ∷ items))) (least count most) ∙ is
  where
    least : (c : ℕ) → c ≤ 16 → min c 16 ≡ c
    least c h = omega (arith, h)

kept_few : (p : ℕ → Bool) (xs : List ℕ) → Few xs → Few (filter p xs)
kept_few p [] few = tt
kept_few p (x ∷ xs) few =
    bool_cases (p x) (λ b. Few (cond b (x ∷ filter p xs) (filter p xs))) (λ is. (few.0, kept_few p xs few.1)) (λ is. kept_few p xs few.1)

range_few : (n a : ℕ) → a + n ≤ 100 → Few (range_with_len a n)
range_few zero a most = tt
range_few (suc n) a most = (omega (arith, most), range_few n (a + 1) (omega (arith, most)))

pub few_marked : (m : ℕ) → Few (filter (has_bit m) (range_with_len 1 16))
few_marked m = kept_few (has_bit m) (range_with_len 1 16) (range_few 16 1 (omega arith))

-- ---- values

choice_read : (count item : ℕ) → count ≤ 255 → IsTrue (is_item_place count item) → option_map values.Item (item_in (min count 255) (item_word item)) ≡ Some (values.Item item)
choice_read count item few is =
    let both = and_parts (nat_le 1 item) (nat_le item count) is in
    ap (λ c. option_map values.Item (item_in c (item_word item))) (least count few)
    ∙ ap (option_map values.Item) (item_read count item few (le 1 item both.0) (le item count both.1))
  where
    least : (c : ℕ) → c ≤ 255 → min c 255 ≡ c
    least c h = omega (arith, h)

    le : (a b : ℕ) → nat_le a b ≡ true → a ≤ b
    le a b h = grind (arith, nat_tests, h)

pub value_read : (k : Kind) (v : Value) → IsValueOf IsViableText k v → HasLawfulCount k → HasLawfulDomain k → value_for k (value_words v) ≡ Some v
value_read (kinds.Input input) (values.Text text) is count domain =
    ap (λ b. if b then Some (values.Text text) else None)
    (and_from (any_text input.spec) (may_stand text input.spec) ((any_text_law input.spec).1 domain) ((may_stand_law text input.spec).1 is))
value_read (kinds.CheckBoxes boxes) (values.Marks marks) is count domain =
    ap (option_map values.Marks)
    (marked_read (length boxes.items) marks (filter (has_bit marks) (range_with_len 1 16)) count.1 (few_marked marks) (all_read marks (length boxes.items) count.1 is))
value_read (kinds.RadioButtons radios) (values.Item item) is count domain = choice_read (length radios.items) item (omega (arith, count.1)) is
value_read (kinds.List list) (values.Item item) is count domain = choice_read (length list.items) item (omega (arith, count.1)) is
value_read k (values.Text text) is count domain = absurd is
value_read k (values.Marks marks) is count domain = absurd is
value_read k (values.Item item) is count domain = absurd is

-- ---- what is a value

item_number : (item : ℕ) → item ≤ 255 → is_number (item_word item) ≡ true
item_number item few = ap is_some (read_number_word (pos item) (small_number item few))

or_true : (a b : Bool) → b ≡ true → (a || b) ≡ true
or_true true b e = refl
or_true false b e = e

item_is_value : (item : ℕ) → item ≤ 255 → is_value (item_word item ∷ []) ≡ true
item_is_value item few = or_true (is_bare_word (item_word item) (codes "-")) (is_number (item_word item)) (item_number item few)

items_are_numbers : (items : List ℕ) → Few items → list_all is_number (map item_word items) ≡ true
items_are_numbers [] few = refl
items_are_numbers (item ∷ items) few = ap (λ b. b && list_all is_number (map item_word items)) (item_number item few.0) ∙ items_are_numbers items few.1

items_are_value : (items : List ℕ) → Few items → is_value (items_words items) ≡ true
items_are_value [] few = refl
items_are_value (item ∷ []) few = item_is_value item few.0
items_are_value (item ∷ other ∷ items) few = items_are_numbers (item ∷ other ∷ items) few

-- a value of a kind that has few items
pub value_is_value : (k : Kind) (v : Value) → IsValueOf IsViableText k v → HasLawfulCount k → is_value (value_words v) ≡ true
value_is_value k (values.Text text) is count = refl
value_is_value k (values.Marks marks) is count = items_are_value (filter (has_bit marks) (range_with_len 1 16)) (few_marked marks)
value_is_value (kinds.RadioButtons radios) (values.Item item) is count = item_is_value item (few_items (length radios.items) item is count.1)
  where
    few_items : (c i : ℕ) → IsTrue (is_item_place c i) → c ≤ 16 → i ≤ 255
    few_items c i h le = grind (arith, nat_tests, h, le)
value_is_value (kinds.List list) (values.Item item) is count = item_is_value item (few_items (length list.items) item is count.1)
  where
    few_items : (c i : ℕ) → IsTrue (is_item_place c i) → c ≤ 100 → i ≤ 255
    few_items c i h le = grind (arith, nat_tests, h, le)
value_is_value k (values.Item item) is count = absurd is
