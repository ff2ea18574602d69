-- Items of clusters and lists: what keys and rows come to are items that there are.
use Rattle.std.proofs.Common.{◌≡◌, Bool, true, false, cond, ◌==◌, ◌+◌, ◌-◌, ◌<◌, ◌≤◌, ℕ, if◌then◌else◌, List, [], ◌∷◌, length, Some, None, option_map, subst, All, IsTrue, arith}
use Rattle.std.specs.Prelude.{ℤ, pos, negsuc, ◌≤ℤ◌, ◌^◌, bit_xor, nat_le, nat_lt, position, max, min}
use Rattle.std.specs.List.{position_or_len}
use Rattle.std.proofs.lemmas.Bool.{and_parts, and_from}
use Rattle.std.proofs.lemmas.Bool.Decides.{nat_tests}
use Rattle.std.proofs.lemmas.Int.{ints}
use Rattle.std.proofs.lemmas.List.Elements.{All-head, All-tail}
use Rattle.std.proofs.lemmas.Nat.{or_lt, xor_lt}
use Rattle.std.proofs.Math.Pow.{ones_lt, pow-lt}
use Rattle.tv_event.specs.declared.event.Key.{Key}
use Rattle.tv_event.specs.declared.event.Key.TheVariants as keys
use Rattle.tv_model.specs.declared.kind.MarkedText.{MarkedText}
use Rattle.tv_model.specs.Controls.Shortcut.{item_marking}
use Rattle.tv_model.specs.Kinds.Cluster.{ClusterKey, Passed, Presses, Selects, cluster_key, item_after, item_before, of_letter, marks_of}
use Rattle.tv_model.specs.Controls.Contents.{is_item_place, IsItem}
use Rattle.tv_model.specs.Kinds.ListBox.{within}
use Rattle.tv_model.specs.Description.Marks.{marks, upper}
use Rattle.tv_model.specs.Description.Numbers.{natural}
use Rattle.tv_machine.proofs.ListLemmas.{bool_cases, option_cases}

-- an item that there is
abbrev pub Item : ℕ → ℕ → Type 0
Item count item = IsTrue (is_item_place count item)

pub item-parts : (count item : ℕ) → Item count item → (1 ≤ item) × (item ≤ count)
item-parts count item e =
    let both = and_parts (nat_le 1 item) (nat_le item count) e in
    (at_most 1 item both.0, at_most item count both.1)
  where
    at_most : (a b : ℕ) → nat_le a b ≡ true → a ≤ b
    at_most a b h = grind (arith, nat_tests)

pub item-from : (count item : ℕ) → 1 ≤ item → item ≤ count → Item count item
item-from count item some few = and_from (nat_le 1 item) (nat_le item count) (holds 1 item some) (holds item count few)
  where
    holds : (a b : ℕ) → a ≤ b → nat_le a b ≡ true
    holds a b h = grind (arith, nat_tests)

-- ---- the next item and the one before

before-item : (count item : ℕ) → Item count item → Item count (item_before count item)
before-item count item is =
    let both = item-parts count item is in
    bool_cases (nat_le item 1) (λ b. Item count (if b then count else item - 1))
    (λ first. item-from count count (omega (arith, both.0, both.1)) (omega arith))
    (λ later. item-from count (item - 1) (more item later) (omega (arith, both.1)))
  where
    more : (n : ℕ) → nat_le n 1 ≡ false → 1 ≤ n - 1
    more n h = grind (arith, nat_tests)

after-item : (count item : ℕ) → Item count item → Item count (item_after count item)
after-item count item is =
    let both = item-parts count item is in
    bool_cases (nat_le count item) (λ b. Item count (if b then 1 else item + 1))
    (λ last. item-from count 1 (omega arith) (omega (arith, both.0, both.1)))
    (λ within. item-from count (item + 1) (omega arith) (less count item within))
  where
    less : (n m : ℕ) → nat_le n m ≡ false → m + 1 ≤ n
    less n m h = grind (arith, nat_tests)

-- ---- what is found by a letter

position-less : {A : Type 0} (p : A → Bool) (xs : List A) (i : ℕ) → position p xs ≡ Some i → i < length xs
position-less p xs i e =
    bool_cases (nat_lt (position_or_len p xs) (length xs)) (λ b. cond b (Some (position_or_len p xs)) None ≡ Some i → i < length xs)
    (λ is f. let same : position_or_len p xs ≡ i = cc in subst (λ (n : ℕ). n < length xs) same (less (position_or_len p xs) (length xs) is))
    (λ is f. absurd cc) e
  where
    less : (a b : ℕ) → nat_lt a b ≡ true → a < b
    less a b h = grind (arith, nat_tests)

pub marking-item : (items : List MarkedText) (letter item : ℕ) → item_marking items letter ≡ Some item → Item (length items) item
marking-item items letter item e =
    option_cases (position (marks (upper letter)) items) (λ o. option_map (λ place. place + 1) o ≡ Some item → Item (length items) item)
    (λ none f. absurd cc)
    (λ place found f.
    let same : place + 1 ≡ item = cc in
    subst (Item (length items)) same (item-from (length items) (place + 1) (omega arith) (omega (arith, position-less (marks (upper letter)) items place found)))) e

-- the item of a cluster's key is one that there is
abbrev pub KeyItem : ℕ → ClusterKey → Type 0
KeyItem count Passed = Unit {0}
KeyItem count (Selects item) = Item count item
KeyItem count (Presses item) = Item count item

letter_key : (items : List MarkedText) (ch : ℕ) → KeyItem (length items) (of_letter (item_marking items ch))
letter_key items ch = option_cases (item_marking items ch) (λ o. KeyItem (length items) (of_letter o)) (λ none. tt) (λ item found. marking-item items ch item found)

pub key-item : (items : List MarkedText) (at : ℕ) (k : Key) → Item (length items) at
    → KeyItem (length items) (cluster_key items (length items) at k)
key-item items at keys.Up is = before-item (length items) at is
key-item items at keys.Down is = after-item (length items) at is
key-item items at (keys.Char ch) is =
    bool_cases (ch == 32) (λ b. KeyItem (length items) (if b then Presses at else of_letter (item_marking items ch))) (λ space. is) (λ other. letter_key items ch)
key-item items at _ is = tt

-- ---- lists

pub within-item : (count item : ℕ) → 1 ≤ count → Item count (within count item)
within-item count item some = item-from count (within count item) (least (min item count)) (most item count some)
  where
    least : (n : ℕ) → 1 ≤ max 1 n
    least n = grind arith

    most : (n m : ℕ) → 1 ≤ m → max 1 (min n m) ≤ m
    most n m h = grind arith

-- ---- marks

pub bit-below : (count item : ℕ) → Item count item → 2 ^ (item - 1) < 2 ^ count
bit-below count item is = let both = item-parts count item is in pow-lt {i = item - 1} {j = count} (omega (arith, both.0, both.1))

pub flip-below : (count item m : ℕ) → Item count item → m < 2 ^ count → bit_xor m (2 ^ (item - 1)) < 2 ^ count
flip-below count item m is less = xor_lt count m (2 ^ (item - 1)) less (bit-below count item is)

pub declared-item : (count : ℕ) (z : ℤ) → IsItem z count → Item count (natural z)
declared-item count (pos n) is = item-from count n (lower n is.0) (lower_to n count is.1)
  where
    lower : (n : ℕ) → pos 1 ≤ℤ pos n → 1 ≤ n
    lower n h = omega (arith, ints)

    lower_to : (n m : ℕ) → pos n ≤ℤ pos m → n ≤ m
    lower_to n m h = omega (arith, ints)
declared-item count (negsuc n) is = absurd (none is.0)
  where
    none : pos 1 ≤ℤ negsuc n → ⊥
    none h = omega (arith, ints)

pub declared-marks : (count : ℕ) (items : List ℤ) → All (λ item. IsItem item count) items → marks_of items < 2 ^ count
declared-marks count [] all = some count
  where
    some : (n : ℕ) → 0 < 2 ^ n
    some n = omega (arith, ones_lt n)
declared-marks count (item ∷ items) all =
    or_lt count (2 ^ (natural item - 1)) (marks_of items)
    (bit-below count (natural item) (declared-item count item (All-head (λ z. IsItem z count) item items all)))
    (declared-marks count items (All-tail (λ z. IsItem z count) item items all))
