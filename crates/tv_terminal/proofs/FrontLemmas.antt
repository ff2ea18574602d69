-- No sequence is the front of another.
use Rattle.std.proofs.Common.{ℕ, ◌≡◌, ◌-◌, ◌+◌, ◌*◌, refl, ap, subst, Bool, true, false, List, [], ◌∷◌, ◌++◌, Option, None, nat_lt}
use Rattle.std.specs.Prelude.{◌==◌, if◌then◌else◌, option_map}
use Rattle.std.specs.Int.{is_in_range}
use Rattle.tv_terminal.specs.declared.action.Action.{Action}
use Rattle.tv_terminal.specs.declared.numbers.Numbers.{Numbers}
use Rattle.tv_terminal.specs.declared.numbers.Numbers.TheVariants.{One}
use Rattle.tv_terminal.specs.declared.reading.Reading.{Reading}
use Rattle.tv_terminal.specs.declared.reading.Reading.TheVariants.{Unfinished, Whole, Broken}
use Rattle.tv_terminal.specs.declared.reading.Kind.{Kind}
use Rattle.tv_terminal.specs.declared.reading.Kind.TheVariants.{Keys, Mouse}
use Rattle.tv_terminal.specs.Table.{key_action, typed_code, ascii, alt, console, old_mouse}
use Rattle.tv_terminal.specs.Sequences.{only, meaning, with_byte, numbers_from, old_row, old_column, old_report, console_from, bracketed, string_from, last_from, two_more, three_more, character, meaningless, is_heard, after_escape, reading_of}

abbrev pub IsEnded : Reading → Type 0
IsEnded Unfinished = ⊥
IsEnded (Whole action) = Unit {0}
IsEnded Broken = Unit {0}

-- what a front is, and what more bytes are: behind a whole sequence and behind what is none they are none
pub record Front (short long : Reading) : Type 0 where
  pub ends : IsEnded short → long ≡ Broken

unfinished_front : (long : Reading) → Front Unfinished long
unfinished_front long = record { ends = λ e. absurd e }

broken_front : Front Broken Broken
broken_front = record { ends = λ e. refl }

front_if : (test : Bool) {a b c d : Reading} → Front a c → Front b d → Front (if test then a else b) (if test then c else d)
front_if true chosen other = chosen
front_if false chosen other = other

only_front : (action : Option Action) (bs : List ℕ) (y : ℕ) (ys : List ℕ) → Front (only action bs) (only action (bs ++ y ∷ ys))
only_front action [] y ys = record { ends = λ e. refl }
only_front action (b ∷ bs) y ys = broken_front

numbers_front : (kind : Kind) (numbers : Numbers) (bs : List ℕ) (y : ℕ) (ys : List ℕ)
    → Front (numbers_from kind numbers bs) (numbers_from kind numbers (bs ++ y ∷ ys))
numbers_front kind numbers [] y ys = unfinished_front _
numbers_front kind numbers (b ∷ bs) y ys =
    front_if (is_in_range 32 63 b) (numbers_front kind (with_byte numbers b) bs y ys)
    (front_if (is_in_range 64 126 b) (only_front (meaning kind numbers b) bs y ys) broken_front)

old_row_front : (n x : ℕ) (bs : List ℕ) (y : ℕ) (ys : List ℕ) → Front (old_row n x bs) (old_row n x (bs ++ y ∷ ys))
old_row_front n x [] y ys = unfinished_front _
old_row_front n x (b ∷ bs) y ys = front_if (nat_lt b 32) broken_front (only_front (old_mouse (n - 32) (x - 32) (b - 32)) bs y ys)

old_column_front : (n : ℕ) (bs : List ℕ) (y : ℕ) (ys : List ℕ) → Front (old_column n bs) (old_column n (bs ++ y ∷ ys))
old_column_front n [] y ys = unfinished_front _
old_column_front n (b ∷ bs) y ys = front_if (nat_lt b 32) broken_front (old_row_front n b bs y ys)

old_front : (bs : List ℕ) (y : ℕ) (ys : List ℕ) → Front (old_report bs) (old_report (bs ++ y ∷ ys))
old_front [] y ys = unfinished_front _
old_front (b ∷ bs) y ys = front_if (nat_lt b 32) broken_front (old_column_front b bs y ys)

console_front : (bs : List ℕ) (y : ℕ) (ys : List ℕ) → Front (console_from bs) (console_from (bs ++ y ∷ ys))
console_front [] y ys = unfinished_front _
console_front (b ∷ bs) y ys =
    front_if (is_in_range 64 126 b) (only_front (option_map key_action (console b)) bs y ys) broken_front

bracketed_front : (bs : List ℕ) (y : ℕ) (ys : List ℕ) → Front (bracketed bs) (bracketed (bs ++ y ∷ ys))
bracketed_front [] y ys = unfinished_front _
bracketed_front (b ∷ bs) y ys =
    front_if (b == 60) (numbers_front Mouse (One 0) bs y ys)
    (front_if (b == 77) (old_front bs y ys)
    (front_if (b == 91) (console_front bs y ys) (numbers_front Keys (One 0) (b ∷ bs) y ys)))

string_front : (bs : List ℕ) (y : ℕ) (ys : List ℕ) → Front (string_from bs) (string_from (bs ++ y ∷ ys))
string_front [] y ys = unfinished_front _
string_front (b ∷ bs) y ys =
    front_if (b == 7) (only_front None bs y ys) (front_if (nat_lt b 32) broken_front (string_front bs y ys))

last_front : (c : ℕ) (bs : List ℕ) (y : ℕ) (ys : List ℕ) → Front (last_from c bs) (last_from c (bs ++ y ∷ ys))
last_front c [] y ys = unfinished_front _
last_front c (b ∷ bs) y ys =
    front_if (is_in_range 128 191 b) (only_front (typed_code (64 * c + (b - 128))) bs y ys) broken_front

two_front : (low high c : ℕ) (bs : List ℕ) (y : ℕ) (ys : List ℕ)
    → Front (two_more low high c bs) (two_more low high c (bs ++ y ∷ ys))
two_front low high c [] y ys = unfinished_front _
two_front low high c (b ∷ bs) y ys = front_if (is_in_range low high b) (last_front (64 * c + (b - 128)) bs y ys) broken_front

three_front : (low high c : ℕ) (bs : List ℕ) (y : ℕ) (ys : List ℕ)
    → Front (three_more low high c bs) (three_more low high c (bs ++ y ∷ ys))
three_front low high c [] y ys = unfinished_front _
three_front low high c (b ∷ bs) y ys =
    front_if (is_in_range low high b) (two_front 128 191 (64 * c + (b - 128)) bs y ys) broken_front

character_front : (b : ℕ) (bs : List ℕ) (y : ℕ) (ys : List ℕ) → Front (character b bs) (character b (bs ++ y ∷ ys))
character_front b bs y ys =
    front_if (nat_lt b 128) (only_front (ascii b) bs y ys)
    (front_if (nat_lt b 194) broken_front
    (front_if (nat_lt b 224) (last_front (b - 192) bs y ys)
    (front_if (b == 224) (two_front 160 191 0 bs y ys)
    (front_if (b == 237) (two_front 128 159 13 bs y ys)
    (front_if (nat_lt b 240) (two_front 128 191 (b - 224) bs y ys)
    (front_if (b == 240) (three_front 144 191 0 bs y ys)
    (front_if (nat_lt b 244) (three_front 128 191 (b - 240) bs y ys)
    (front_if (b == 244) (three_front 128 143 4 bs y ys) broken_front))))))))

meaningless_front : (short long : Reading) → Front short long → Front (meaningless short) (meaningless long)
meaningless_front Unfinished long f = unfinished_front _
meaningless_front (Whole action) long f = record { ends = λ e. ap meaningless (f.ends tt) }
meaningless_front Broken long f = record { ends = λ e. ap meaningless (f.ends tt) }

after_escape_front : (bs : List ℕ) (y : ℕ) (ys : List ℕ) → Front (after_escape bs) (after_escape (bs ++ y ∷ ys))
after_escape_front [] y ys = unfinished_front _
after_escape_front (b ∷ bs) y ys =
    front_if (is_heard b) broken_front
    (front_if (b == 79) (numbers_front Keys (One 0) bs y ys)
    (front_if (b == 91) (bracketed_front bs y ys)
    (front_if (b == 93) (string_front bs y ys)
    (front_if (nat_lt b 128) (only_front (alt b) bs y ys)
    (meaningless_front (character b bs) (character b (bs ++ y ∷ ys)) (character_front b bs y ys))))))

pub reading_front : (bs : List ℕ) (y : ℕ) (ys : List ℕ) → Front (reading_of bs) (reading_of (bs ++ y ∷ ys))
reading_front [] y ys = unfinished_front _
reading_front (b ∷ bs) y ys = front_if (b == 27) (after_escape_front bs y ys) (character_front b bs y ys)

whole_broken : {action : Option Action} → Whole action ≡ Broken → ⊥
whole_broken e = cc

before_whole : (short : Reading) (action : Option Action) → Front short (Whole action) → short ≡ Unfinished
before_whole Unfinished action f = refl
before_whole (Whole other) action f = absurd (whole_broken (f.ends tt))
before_whole Broken action f = absurd (whole_broken (f.ends tt))

-- a proper front of a sequence is unfinished
pub front_unfinished : (bs : List ℕ) (y : ℕ) (ys : List ℕ) (action : Option Action)
    → reading_of (bs ++ y ∷ ys) ≡ Whole action → reading_of bs ≡ Unfinished
front_unfinished bs y ys action whole =
    before_whole (reading_of bs) action (subst (λ long. Front (reading_of bs) long) whole (reading_front bs y ys))
