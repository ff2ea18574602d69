-- Ctrl-C and Ctrl-\ are heard, whatever is unfinished before them.
use Rattle.std.proofs.Common.{ℕ, ◌≡◌, ◌-◌, ◌+◌, ◌*◌, refl, ap, Bool, true, false, List, [], ◌∷◌, ◌++◌, Option, Some, None, nat_lt}
use Rattle.std.specs.Prelude.{if◌then◌else◌}
use Rattle.std.specs.Int.{is_in_range}
use Rattle.tv_event.specs.declared.event.Key.TheVariants as keys
use Rattle.tv_terminal.specs.declared.action.Action.{Action}
use Rattle.tv_terminal.specs.declared.action.Action.TheVariants.{Quit}
use Rattle.tv_terminal.specs.declared.numbers.Numbers.{Numbers}
use Rattle.tv_terminal.specs.declared.numbers.Numbers.TheVariants.{One}
use Rattle.tv_terminal.specs.declared.reading.Reading.{Reading}
use Rattle.tv_terminal.specs.declared.reading.Reading.TheVariants.{Broken}
use Rattle.tv_terminal.specs.declared.reading.Kind.{Kind}
use Rattle.tv_terminal.specs.declared.reading.Kind.TheVariants.{Keys, Mouse}
use Rattle.tv_terminal.specs.Table.{key_action, old_mouse}
use Rattle.tv_terminal.specs.Sequences.{only, meaning, with_byte, numbers_from, old_report, console_from, bracketed, string_from, last_from, two_more, three_more, character, meaningless, after_escape, reading_of}
use Rattle.tv_terminal.specs.Decoding.{given_as, given}

-- the two bytes, Ctrl-\ where the test holds
abbrev heard : Bool → ℕ
heard is_quit = if is_quit then 28 else 3

-- nothing goes on with them
record IsBroken (reading : Reading) : Type 0 where
  pub is : reading ≡ Broken

broken : IsBroken Broken
broken = record { is = refl }

if_broken : (test : Bool) {a b : Reading} → IsBroken a → IsBroken b → IsBroken (if test then a else b)
if_broken true chosen other = chosen
if_broken false chosen other = other

only_broken : (action : Option Action) (bs : List ℕ) (b : ℕ) → IsBroken (only action (bs ++ b ∷ []))
only_broken action [] b = broken
only_broken action (c ∷ bs) b = broken

numbers_broken : (kind : Kind) (numbers : Numbers) (bs : List ℕ) (q : Bool) → IsBroken (numbers_from kind numbers (bs ++ heard q ∷ []))
numbers_broken kind numbers [] true = broken
numbers_broken kind numbers [] false = broken
numbers_broken kind numbers (b ∷ bs) q =
    if_broken _ (numbers_broken kind (with_byte numbers b) bs q) (if_broken _ (only_broken (meaning kind numbers b) bs (heard q)) broken)

old_broken : (bs : List ℕ) (q : Bool) → IsBroken (old_report (bs ++ heard q ∷ []))
old_broken [] true = broken
old_broken [] false = broken
old_broken (n ∷ []) true = if_broken (nat_lt n 32) broken broken
old_broken (n ∷ []) false = if_broken (nat_lt n 32) broken broken
old_broken (n ∷ x ∷ []) true = if_broken (nat_lt n 32) broken (if_broken (nat_lt x 32) broken broken)
old_broken (n ∷ x ∷ []) false = if_broken (nat_lt n 32) broken (if_broken (nat_lt x 32) broken broken)
old_broken (n ∷ x ∷ y ∷ bs) q =
    if_broken (nat_lt n 32) broken (if_broken (nat_lt x 32) broken
    (if_broken (nat_lt y 32) broken (only_broken (old_mouse (n - 32) (x - 32) (y - 32)) bs (heard q))))

console_broken : (bs : List ℕ) (q : Bool) → IsBroken (console_from (bs ++ heard q ∷ []))
console_broken [] true = broken
console_broken [] false = broken
console_broken (b ∷ bs) q = if_broken _ (only_broken _ bs (heard q)) broken

bracketed_broken : (bs : List ℕ) (q : Bool) → IsBroken (bracketed (bs ++ heard q ∷ []))
bracketed_broken [] true = broken
bracketed_broken [] false = broken
bracketed_broken (b ∷ bs) q =
    if_broken _ (numbers_broken Mouse (One 0) bs q) (if_broken _ (old_broken bs q)
    (if_broken _ (console_broken bs q) (numbers_broken Keys (One 0) (b ∷ bs) q)))

string_broken : (bs : List ℕ) (q : Bool) → IsBroken (string_from (bs ++ heard q ∷ []))
string_broken [] true = broken
string_broken [] false = broken
string_broken (b ∷ bs) q = if_broken _ (only_broken None bs (heard q)) (if_broken _ broken (string_broken bs q))

last_broken : (c : ℕ) (bs : List ℕ) (q : Bool) → IsBroken (last_from c (bs ++ heard q ∷ []))
last_broken c [] true = broken
last_broken c [] false = broken
last_broken c (b ∷ bs) q = if_broken _ (only_broken _ bs (heard q)) broken

-- their bounds leave the two out
two_broken : (low high c : ℕ) (bs : List ℕ) (q : Bool) → is_in_range low high 28 ≡ false → is_in_range low high 3 ≡ false
    → IsBroken (two_more low high c (bs ++ heard q ∷ []))
two_broken low high c [] true e f = record { is = ap (λ test. if test then last_from (64 * c + (28 - 128)) [] else Broken) e }
two_broken low high c [] false e f = record { is = ap (λ test. if test then last_from (64 * c + (3 - 128)) [] else Broken) f }
two_broken low high c (b ∷ bs) q e f = if_broken _ (last_broken (64 * c + (b - 128)) bs q) broken

three_broken : (low high c : ℕ) (bs : List ℕ) (q : Bool) → is_in_range low high 28 ≡ false → is_in_range low high 3 ≡ false
    → IsBroken (three_more low high c (bs ++ heard q ∷ []))
three_broken low high c [] true e f = record { is = ap (λ test. if test then two_more 128 191 (64 * c + (28 - 128)) [] else Broken) e }
three_broken low high c [] false e f = record { is = ap (λ test. if test then two_more 128 191 (64 * c + (3 - 128)) [] else Broken) f }
three_broken low high c (b ∷ bs) q e f = if_broken _ (two_broken 128 191 (64 * c + (b - 128)) bs q refl refl) broken

character_broken : (b : ℕ) (bs : List ℕ) (q : Bool) → IsBroken (character b (bs ++ heard q ∷ []))
character_broken b bs q =
    if_broken _ (only_broken _ bs (heard q)) (if_broken _ broken (if_broken _ (last_broken (b - 192) bs q)
    (if_broken _ (two_broken 160 191 0 bs q refl refl) (if_broken _ (two_broken 128 159 13 bs q refl refl)
    (if_broken _ (two_broken 128 191 (b - 224) bs q refl refl)
    (if_broken _ (three_broken 144 191 0 bs q refl refl) (if_broken _ (three_broken 128 191 (b - 240) bs q refl refl)
    (if_broken _ (three_broken 128 143 4 bs q refl refl) broken))))))))

meaningless_broken : (reading : Reading) → IsBroken reading → IsBroken (meaningless reading)
meaningless_broken reading b = record { is = ap meaningless b.is }

after_escape_broken : (bs : List ℕ) (q : Bool) → IsBroken (after_escape (bs ++ heard q ∷ []))
after_escape_broken [] true = broken
after_escape_broken [] false = broken
after_escape_broken (b ∷ bs) q =
    if_broken _ broken (if_broken _ (numbers_broken Keys (One 0) bs q) (if_broken _ (bracketed_broken bs q)
    (if_broken _ (string_broken bs q) (if_broken _ (only_broken _ bs (heard q))
    (meaningless_broken (character b (bs ++ heard q ∷ [])) (character_broken b bs q))))))

reading_broken : (b : ℕ) (bs : List ℕ) (q : Bool) → IsBroken (reading_of (b ∷ bs ++ heard q ∷ []))
reading_broken b bs q = if_broken _ (after_escape_broken bs q) (character_broken b bs q)

pub quit_heard : (bytes : List ℕ) → given bytes 28 ≡ Some Quit
quit_heard [] = refl
quit_heard (b ∷ bs) = ap (λ r. given_as r (b ∷ bs) 28) (reading_broken b bs true).is

pub interrupt_heard : (bytes : List ℕ) → given bytes 3 ≡ Some (key_action (keys.Ctrl 67))
interrupt_heard [] = refl
interrupt_heard (b ∷ bs) = ap (λ r. given_as r (b ∷ bs) 3) (reading_broken b bs false).is
