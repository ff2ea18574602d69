-- What some bytes of a terminal are: the front of a sequence, a whole one, or neither.
use Rattle.std.specs.Prelude.{ℕ, ◌+◌, ◌-◌, ◌*◌, min, Bool, ◌||◌, nat_lt, ◌==◌, List, [], ◌∷◌}
use Rattle.std.specs.Prelude.{Option, None, option_map, if◌then◌else◌}
use Rattle.std.specs.Char.{is_ascii_digit}
use Rattle.std.specs.Int.{is_in_range}
use Rattle.tv_terminal.specs.declared.action.Action.{Action}
use Rattle.tv_terminal.specs.declared.numbers.Numbers.{Numbers}
use Rattle.tv_terminal.specs.declared.numbers.Numbers.TheVariants.{One, Two, Three, Other}
use Rattle.tv_terminal.specs.declared.reading.Reading.{Reading}
use Rattle.tv_terminal.specs.declared.reading.Reading.TheVariants.{Unfinished, Whole, Broken}
use Rattle.tv_terminal.specs.declared.reading.Kind.{Kind}
use Rattle.tv_terminal.specs.declared.reading.Kind.TheVariants.{Keys, Mouse}
use Rattle.tv_terminal.specs.Table.{key_action, typed_code, ascii, alt, console, of_keys, of_mouse, old_mouse}

-- whole with what came so far: nothing may follow
abbrev pub only : Option Action → List ℕ → Reading
only action [] = Whole action
only action (b ∷ bs) = Broken

-- one digit more. No number that means something is above 2,000,000
abbrev pub with_digit : ℕ → ℕ → ℕ
with_digit n b = min 2000000 (10 * n + (b - 48))

-- the numbers between `;`, of which one without digits is 0; with one byte more
abbrev pub with_byte : Numbers → ℕ → Numbers
with_byte (One x) b =
    if b == 59 then Two x 0 else if is_ascii_digit b then One (with_digit x b) else Other
with_byte (Two x y) b =
    if b == 59 then Three x y 0 else if is_ascii_digit b then Two x (with_digit y b) else Other
with_byte (Three x y z) b = if is_ascii_digit b then Three x y (with_digit z b) else Other
with_byte Other b = Other

-- numbers and a last byte
abbrev pub meaning : Kind → Numbers → ℕ → Option Action
meaning Keys numbers last = of_keys numbers last
meaning Mouse numbers last = of_mouse numbers last

-- the numbers of a sequence (bytes 32 to 63), and its last byte (64 to 126)
abbrev pub numbers_from : Kind → Numbers → List ℕ → Reading
numbers_from kind numbers [] = Unfinished
numbers_from kind numbers (b ∷ bs) =
    if is_in_range 32 63 b then numbers_from kind (with_byte numbers b) bs
    else if is_in_range 64 126 b then only (meaning kind numbers b) bs
    else Broken

-- behind ESC [ M: three bytes
abbrev pub old_row : (n x : ℕ) → List ℕ → Reading
old_row n x [] = Unfinished
old_row n x (b ∷ bs) = if nat_lt b 32 then Broken else only (old_mouse (n - 32) (x - 32) (b - 32)) bs

abbrev pub old_column : ℕ → List ℕ → Reading
old_column n [] = Unfinished
old_column n (b ∷ bs) = if nat_lt b 32 then Broken else old_row n b bs

abbrev pub old_report : List ℕ → Reading
old_report [] = Unfinished
old_report (b ∷ bs) = if nat_lt b 32 then Broken else old_column b bs

-- behind ESC [ [: a letter
abbrev pub console_from : List ℕ → Reading
console_from [] = Unfinished
console_from (b ∷ bs) = if is_in_range 64 126 b then only (option_map key_action (console b)) bs else Broken

-- behind ESC [
abbrev pub bracketed : List ℕ → Reading
bracketed [] = Unfinished
bracketed (b ∷ bs) =
    if b == 60 then numbers_from Mouse (One 0) bs
    else if b == 77 then old_report bs
    else if b == 91 then console_from bs
    else numbers_from Keys (One 0) (b ∷ bs)

-- behind ESC ]: a text up to BEL, which nothing here asks for
abbrev pub string_from : List ℕ → Reading
string_from [] = Unfinished
string_from (b ∷ bs) = if b == 7 then only None bs else if nat_lt b 32 then Broken else string_from bs

-- the bytes of a character after its first: one, two or three. `c` is the character's number so far
abbrev pub last_from : ℕ → List ℕ → Reading
last_from c [] = Unfinished
last_from c (b ∷ bs) = if is_in_range 128 191 b then only (typed_code (64 * c + (b - 128))) bs else Broken

abbrev pub two_more : (low high c : ℕ) → List ℕ → Reading
two_more low high c [] = Unfinished
two_more low high c (b ∷ bs) = if is_in_range low high b then last_from (64 * c + (b - 128)) bs else Broken

abbrev pub three_more : (low high c : ℕ) → List ℕ → Reading
three_more low high c [] = Unfinished
three_more low high c (b ∷ bs) =
    if is_in_range low high b then two_more 128 191 (64 * c + (b - 128)) bs else Broken

-- behind the first byte of a character in UTF-8. Its second byte is bounded where a shorter form or no
-- character would follow
abbrev pub character : ℕ → List ℕ → Reading
character b bs =
    if nat_lt b 128 then only (ascii b) bs
    else if nat_lt b 194 then Broken
    else if nat_lt b 224 then last_from (b - 192) bs
    else if b == 224 then two_more 160 191 0 bs
    else if b == 237 then two_more 128 159 13 bs
    else if nat_lt b 240 then two_more 128 191 (b - 224) bs
    else if b == 240 then three_more 144 191 0 bs
    else if nat_lt b 244 then three_more 128 191 (b - 240) bs
    else if b == 244 then three_more 128 143 4 bs
    else Broken

-- without a meaning
abbrev pub meaningless : Reading → Reading
meaningless (Whole action) = Whole None
meaningless Unfinished = Unfinished
meaningless Broken = Broken

-- Ctrl-C and Ctrl-\, and ESC, with which a sequence begins
abbrev pub is_heard : ℕ → Bool
is_heard b = b == 3 || b == 27 || b == 28

-- behind ESC. ESC and any other character is Alt with it
abbrev pub after_escape : List ℕ → Reading
after_escape [] = Unfinished
after_escape (b ∷ bs) =
    if is_heard b then Broken
    else if b == 79 then numbers_from Keys (One 0) bs
    else if b == 91 then bracketed bs
    else if b == 93 then string_from bs
    else if nat_lt b 128 then only (alt b) bs
    else meaningless (character b bs)

-- what the bytes are
abbrev pub reading_of : List ℕ → Reading
reading_of [] = Unfinished
reading_of (b ∷ bs) = if b == 27 then after_escape bs else character b bs
