-- What is heard of a terminal is what one sends.
use Rattle.std.proofs.Common.{ℕ, ◌≡◌, ◌<◌, ◌≤◌, lit≤, refl, sym, subst, ◌-◌, ◌+◌, ◌*◌, ◌%◌, pos, arith, Bool, true, false, List, [], ◌∷◌, ◌++◌, Option, Some, None, nat_lt, length}
use Rattle.std.specs.Prelude.{◌==◌, ◌&&◌, ◌||◌, nat_le, if◌then◌else◌, option_map, IfSome, not}
use Rattle.std.specs.Char.{is_ascii_digit, is_ascii_lowercase, is_ascii_uppercase, is_control}
use Rattle.std.proofs.lemmas.Bool.Decides.{nat_tests}
use Rattle.std.proofs.lemmas.Grind.{common_steps}
use Rattle.unicode_width.specs.Width.{char_width}
use Rattle.std.specs.Int.{is_in_range}
use lib.Utf8.{scalar}
use Rattle.tv_cells.specs.Glyph.{is_narrow}
use Rattle.std.proofs.lemmas.Int.{ints}
use Rattle.tv_event.specs.declared.event.Event.TheVariants as events
use Rattle.tv_event.specs.declared.event.Key.{Key}
use Rattle.tv_event.specs.declared.event.Key.TheVariants as keys
use Rattle.tv_terminal.specs.declared.action.Action.{Action}
use Rattle.tv_terminal.specs.declared.action.Size.{Size}
use Rattle.tv_terminal.specs.declared.action.Action.TheVariants.{Event, Quit, Ready, Resized}
use Rattle.tv_terminal.specs.declared.numbers.Numbers.{Numbers}
use Rattle.tv_terminal.specs.declared.numbers.Numbers.TheVariants.{One, Two, Three, Other}
use Rattle.tv_terminal.specs.declared.reading.Reading.{Reading}
use Rattle.tv_terminal.specs.declared.reading.Reading.TheVariants.{Unfinished, Whole, Broken}
use Rattle.tv_terminal.specs.declared.reading.Kind.{Kind}
use Rattle.tv_terminal.specs.declared.reading.Kind.TheVariants.{Keys, Mouse}
use Rattle.tv_terminal.specs.Points.{IsMousePlace, HasPlaces}
use Rattle.tv_terminal.specs.Sent.{IsSentAction, IsSentKey}
use Rattle.tv_terminal.specs.Table.{key_action, typed_char, typed_code, ascii, alt, ctrl_coded, plain_code, coded, key_of_number, ctrl_key_of_number, lettered, bare, console, by_tilde, by_code, by_letter, corner_report, size_report, ready_report, of_keys, near_place, point, is_left, held, mouse, of_mouse, old_mouse}
use Rattle.tv_terminal.specs.Sequences.{only, meaning, with_byte, numbers_from, old_report, console_from, bracketed, string_from, last_from, two_more, three_more, character, meaningless, is_heard, after_escape, reading_of}
use Rattle.tv_terminal.specs.Decoding.{Listening, most, at_pause, given_as, given, anew_given, heard, heard_while, is_pasted}

-- no action, or one that a terminal sends
pub record Sent (action : Option Action) : Type 0 where
  pub sent : IfSome action IsSentAction

if_sent : (test : Bool) {a b : Option Action} → (test ≡ true → Sent a) → Sent b → Sent (if test then a else b)
if_sent true chosen other = chosen refl
if_sent false chosen other = other

none_sent : Sent None
none_sent = record { sent = tt }

quit_sent : Sent (Some Quit)
quit_sent = record { sent = tt }

ready_is_sent : Sent (Some Ready)
ready_is_sent = record { sent = tt }

resized_is_sent : (size : Size) → Sent (Some (Resized size))
resized_is_sent size = record { sent = tt }

-- ---- keys

key_sent : (key : Key) → IsSentKey key → Sent (Some (key_action key))
key_sent key is = record { sent = is }

-- no key, or one that a terminal sends
record SentKey (key : Option Key) : Type 0 where
  sent : IfSome key IsSentKey

if_key : (test : Bool) {a b : Option Key} → (test ≡ true → SentKey a) → SentKey b → SentKey (if test then a else b)
if_key true chosen other = chosen refl
if_key false chosen other = other

no_key : SentKey None
no_key = record { sent = tt }

some_key : (key : Key) → IsSentKey key → SentKey (Some key)
some_key key is = record { sent = is }

maybe_key_sent : (key : Option Key) → SentKey key → Sent (option_map key_action key)
maybe_key_sent None is = none_sent
maybe_key_sent (Some key) is = key_sent key is.sent

-- a character that takes a column is no control character
narrow_shown : (c : ℕ) → is_narrow c ≡ true → is_control c ≡ false
unfolding char_width
narrow_shown c narrow = grind (arith, nat_tests, common_steps)

small_scalar : (b : ℕ) → b < 128 → scalar b ≡ true
small_scalar b small = grind (arith, nat_tests)

typed_sent : (c : ℕ) → scalar c ≡ true → Sent (typed_char c)
typed_sent c is = if_sent (is_narrow c) (λ narrow. key_sent (keys.Char c) (is, narrow_shown c narrow)) none_sent

code_sent : (c : ℕ) → Sent (typed_code c)
code_sent c = if_sent (scalar c) (λ is. typed_sent c is) none_sent

ctrl_letter : (b : ℕ) → is_in_range 1 26 b ≡ true → is_ascii_uppercase (b + 64) ≡ true
ctrl_letter b e = grind (arith, nat_tests)

raised : (b : ℕ) → is_ascii_lowercase b ≡ true → is_ascii_uppercase (b - 32) ≡ true
raised b e = grind (arith, nat_tests)

either_left : (a b : Bool) → a ≡ true → (a || b) ≡ true
either_left true b e = refl
either_left false b e = absurd cc

ascii_sent : (b : ℕ) → b < 128 → Sent (ascii b)
ascii_sent b small =
    if_sent (b == 9) (λ _. key_sent keys.Tab tt)
    (if_sent (b == 10 || b == 13) (λ _. key_sent keys.Enter tt)
    (if_sent (b == 8 || b == 127) (λ _. key_sent keys.Backspace tt)
    (if_sent (b == 28) (λ _. quit_sent)
    (if_sent (is_in_range 1 26 b) (λ e. key_sent (keys.Ctrl (b + 64)) (ctrl_letter b e)) (typed_sent b (small_scalar b small))))))

alt_sent : (b : ℕ) → Sent (alt b)
alt_sent b =
    if_sent (is_ascii_lowercase b)
    (λ e. key_sent (keys.Alt (b - 32)) (either_left (is_ascii_uppercase (b - 32)) (is_ascii_digit (b - 32)) (raised b e)))
    (if_sent (is_ascii_uppercase b || is_ascii_digit b) (λ e. key_sent (keys.Alt b) e) none_sent)

ctrl_sent : (c : ℕ) → Sent (ctrl_coded c)
ctrl_sent c =
    if_sent (is_ascii_lowercase c) (λ e. key_sent (keys.Ctrl (c - 32)) (raised c e))
    (if_sent (is_ascii_uppercase c) (λ e. key_sent (keys.Ctrl c) e) (if_sent (c == 92) (λ _. quit_sent) none_sent))

below : (c n : ℕ) → nat_lt c n ≡ true → c < n
below c n e = grind (arith, nat_tests)

plain_sent : (c : ℕ) → Sent (plain_code c)
plain_sent c =
    if_sent (c == 27) (λ _. key_sent keys.Esc tt) (if_sent (nat_lt c 128) (λ e. ascii_sent c (below c 128 e)) (code_sent c))

coded_sent : (c held : ℕ) → Sent (coded c held)
coded_sent c held =
    if_sent (c == 9 && held == 2) (λ _. key_sent keys.ShiftTab tt)
    (if_sent (nat_le held 2) (λ _. plain_sent c)
    (if_sent (held == 3) (λ _. alt_sent c) (if_sent (held == 5) (λ _. ctrl_sent c) none_sent)))

-- a number from one to another, less what stands before the first
function_sent : (low high less n : ℕ) → less < low → high ≤ less + 12 → is_in_range low high n ≡ true → SentKey (Some (keys.Function (n - less)))
function_sent low high less n above within e =
    let first : low ≤ n = grind (arith, nat_tests) in
    let last : n ≤ high = grind (arith, nat_tests) in
    some_key (keys.Function (n - less)) (omega (arith, first, above), omega (arith, last, within, first, above))

number_sent : (n : ℕ) → SentKey (key_of_number n)
number_sent n =
    if_key (n == 1 || n == 7) (λ _. some_key keys.Home tt)
    (if_key (n == 2) (λ _. some_key keys.Insert tt)
    (if_key (n == 3) (λ _. some_key keys.Delete tt)
    (if_key (n == 4 || n == 8) (λ _. some_key keys.End tt)
    (if_key (n == 5) (λ _. some_key keys.PageUp tt)
    (if_key (n == 6) (λ _. some_key keys.PageDown tt)
    (if_key (is_in_range 11 15 n) (λ e. function_sent 11 15 10 n (lit≤ tt) (lit≤ tt) e)
    (if_key (is_in_range 17 21 n) (λ e. function_sent 17 21 11 n (lit≤ tt) (lit≤ tt) e)
    (if_key (is_in_range 23 24 n) (λ e. function_sent 23 24 12 n (lit≤ tt) (lit≤ tt) e) no_key))))))))

ctrl_number_sent : (n : ℕ) → SentKey (ctrl_key_of_number n)
ctrl_number_sent n = if_key (n == 5) (λ _. some_key keys.CtrlPageUp tt) (if_key (n == 6) (λ _. some_key keys.CtrlPageDown tt) no_key)

lettered_sent : (b : ℕ) → SentKey (lettered b)
lettered_sent b =
    if_key (b == 65) (λ _. some_key keys.Up tt)
    (if_key (b == 66) (λ _. some_key keys.Down tt)
    (if_key (b == 67) (λ _. some_key keys.Right tt)
    (if_key (b == 68) (λ _. some_key keys.Left tt)
    (if_key (b == 70) (λ _. some_key keys.End tt) (if_key (b == 72) (λ _. some_key keys.Home tt) no_key)))))

bare_sent : (b : ℕ) → SentKey (bare b)
bare_sent b =
    if_key (is_in_range 80 83 b) (λ e. function_sent 80 83 79 b (lit≤ tt) (lit≤ tt) e)
    (if_key (b == 90) (λ _. some_key keys.ShiftTab tt) (if_key (b == 77) (λ _. some_key keys.Enter tt) (lettered_sent b)))

console_sent : (b : ℕ) → SentKey (console b)
console_sent b = if_key (is_in_range 65 69 b) (λ e. function_sent 65 69 64 b (lit≤ tt) (lit≤ tt) e) no_key

letter_sent : (numbers : Numbers) (last : ℕ) → SentKey (by_letter numbers last)
letter_sent (One n) last = if_key (n == 0) (λ _. bare_sent last) (if_key (n == 1) (λ _. lettered_sent last) no_key)
letter_sent (Two n held) last = if_key (nat_le n 1 && nat_le held 1) (λ _. lettered_sent last) no_key
letter_sent (Three x y z) last = no_key
letter_sent Other last = no_key

tilde_sent : (numbers : Numbers) → Sent (by_tilde numbers)
tilde_sent (One n) = maybe_key_sent (key_of_number n) (number_sent n)
tilde_sent (Two n held) =
    if_sent (nat_le held 1) (λ _. maybe_key_sent (key_of_number n) (number_sent n))
    (if_sent (held == 5) (λ _. maybe_key_sent (ctrl_key_of_number n) (ctrl_number_sent n)) none_sent)
tilde_sent (Three n held c) = if_sent (n == 27) (λ _. coded_sent c held) none_sent
tilde_sent Other = none_sent

by_code_sent : (numbers : Numbers) → Sent (by_code numbers)
by_code_sent (One c) = coded_sent c 1
by_code_sent (Two c held) = coded_sent c held
by_code_sent (Three x y z) = none_sent
by_code_sent Other = none_sent

size_sent : (numbers : Numbers) → Sent (size_report numbers)
size_sent (Three n rows columns) = if_sent (n == 8) (λ _. resized_is_sent (record { columns = columns; rows = rows })) none_sent
size_sent _ = none_sent

ready_sent : (numbers : Numbers) → Sent (ready_report numbers)
ready_sent (One n) = if_sent (n == 0) (λ _. ready_is_sent) none_sent
ready_sent _ = none_sent

corner_sent : (numbers : Numbers) → Sent (corner_report numbers)
corner_sent (One n) = maybe_key_sent (by_letter (One n) 82) (letter_sent (One n) 82)
corner_sent (Two row column) = if_sent (nat_lt 1 row) (λ _. resized_is_sent (record { columns = column; rows = row })) (maybe_key_sent (by_letter (Two row column) 82) (letter_sent (Two row column) 82))
corner_sent (Three x y z) = none_sent
corner_sent Other = none_sent

of_keys_sent : (numbers : Numbers) (last : ℕ) → Sent (of_keys numbers last)
of_keys_sent numbers last =
    if_sent (last == 126) (λ _. tilde_sent numbers)
    (if_sent (last == 117) (λ _. by_code_sent numbers)
    (if_sent (last == 116) (λ _. size_sent numbers)
    (if_sent (last == 110) (λ _. ready_sent numbers)
    (if_sent (last == 82) (λ _. corner_sent numbers) (maybe_key_sent (by_letter numbers last) (letter_sent numbers last))))))

-- ---- the mouse

is_place : (n : ℕ) → IsMousePlace (pos (near_place n))
is_place n = record { low = omega (arith, ints); high = omega (arith, ints) }

point_placed : (x y : ℕ) → HasPlaces (point x y)
point_placed x y = record { x = is_place x; y = is_place y }

held_sent : (n x y : ℕ) → Sent (Some (held n (point x y)))
held_sent n x y =
    elim (nat_lt n 32) as (λ test. Sent (Some (if test then Event (events.Down (point x y)) else Event (events.Move (point x y)))))
    [ true ↦ record { sent = point_placed x y } | false ↦ record { sent = point_placed x y } ]

up_sent : (x y : ℕ) → Sent (Some (Event (events.Up (point x y))))
up_sent x y = record { sent = point_placed x y }

mouse_sent : (n x y last : ℕ) → Sent (mouse n (point x y) last)
mouse_sent n x y last =
    if_sent (not (is_left n)) (λ _. none_sent)
    (if_sent (last == 77) (λ _. held_sent n x y) (if_sent (last == 109 && nat_lt n 32) (λ _. up_sent x y) none_sent))

of_mouse_sent : (numbers : Numbers) (last : ℕ) → Sent (of_mouse numbers last)
of_mouse_sent (One x) last = none_sent
of_mouse_sent (Two x y) last = none_sent
of_mouse_sent (Three n x y) last = mouse_sent n x y last
of_mouse_sent Other last = none_sent

old_sent : (n x y : ℕ) → Sent (old_mouse n x y)
old_sent n x y = if_sent (nat_lt n 32 && n % 4 == 3) (λ _. up_sent x y) (mouse_sent n x y 77)

-- a whole sequence means none, or such a one
pub record Sends (reading : Reading) : Type 0 where
  pub action : Sent (anew_given reading)

if_sends : (test : Bool) {a b : Reading} → Sends a → Sends b → Sends (if test then a else b)
if_sends true chosen other = chosen
if_sends false chosen other = other

if_so_sends : (test : Bool) {a b : Reading} → (test ≡ true → Sends a) → Sends b → Sends (if test then a else b)
if_so_sends true chosen other = chosen refl
if_so_sends false chosen other = other

unfinished : Sends Unfinished
unfinished = record { action = none_sent }

broken : Sends Broken
broken = record { action = none_sent }

only_sends : (action : Option Action) (bs : List ℕ) → Sent action → Sends (only action bs)
only_sends action [] sent = record { action = sent }
only_sends action (b ∷ bs) sent = broken

meaning_sent : (kind : Kind) (numbers : Numbers) (last : ℕ) → Sent (meaning kind numbers last)
meaning_sent Keys numbers last = of_keys_sent numbers last
meaning_sent Mouse numbers last = of_mouse_sent numbers last

numbers_sends : (kind : Kind) (numbers : Numbers) (bs : List ℕ) → Sends (numbers_from kind numbers bs)
numbers_sends kind numbers [] = unfinished
numbers_sends kind numbers (b ∷ bs) =
    if_sends (is_in_range 32 63 b) (numbers_sends kind (with_byte numbers b) bs)
    (if_sends (is_in_range 64 126 b) (only_sends (meaning kind numbers b) bs (meaning_sent kind numbers b)) broken)

old_sends : (bs : List ℕ) → Sends (old_report bs)
old_sends [] = unfinished
old_sends (n ∷ []) = if_sends (nat_lt n 32) broken unfinished
old_sends (n ∷ x ∷ []) = if_sends (nat_lt n 32) broken (if_sends (nat_lt x 32) broken unfinished)
old_sends (n ∷ x ∷ y ∷ bs) =
    if_sends (nat_lt n 32) broken (if_sends (nat_lt x 32) broken (if_sends (nat_lt y 32) broken
    (only_sends (old_mouse (n - 32) (x - 32) (y - 32)) bs (old_sent (n - 32) (x - 32) (y - 32)))))

console_sends : (bs : List ℕ) → Sends (console_from bs)
console_sends [] = unfinished
console_sends (b ∷ bs) = if_sends (is_in_range 64 126 b) (only_sends (option_map key_action (console b)) bs (maybe_key_sent (console b) (console_sent b))) broken

bracketed_sends : (bs : List ℕ) → Sends (bracketed bs)
bracketed_sends [] = unfinished
bracketed_sends (b ∷ bs) =
    if_sends (b == 60) (numbers_sends Mouse (One 0) bs) (if_sends (b == 77) (old_sends bs)
    (if_sends (b == 91) (console_sends bs) (numbers_sends Keys (One 0) (b ∷ bs))))

string_sends : (bs : List ℕ) → Sends (string_from bs)
string_sends [] = unfinished
string_sends (b ∷ bs) = if_sends (b == 7) (only_sends None bs none_sent) (if_sends (nat_lt b 32) broken (string_sends bs))

last_sends : (c : ℕ) (bs : List ℕ) → Sends (last_from c bs)
last_sends c [] = unfinished
last_sends c (b ∷ bs) =
    if_sends (is_in_range 128 191 b) (only_sends (typed_code (64 * c + (b - 128))) bs (code_sent (64 * c + (b - 128)))) broken

two_sends : (low high c : ℕ) (bs : List ℕ) → Sends (two_more low high c bs)
two_sends low high c [] = unfinished
two_sends low high c (b ∷ bs) = if_sends (is_in_range low high b) (last_sends (64 * c + (b - 128)) bs) broken

three_sends : (low high c : ℕ) (bs : List ℕ) → Sends (three_more low high c bs)
three_sends low high c [] = unfinished
three_sends low high c (b ∷ bs) = if_sends (is_in_range low high b) (two_sends 128 191 (64 * c + (b - 128)) bs) broken

character_sends : (b : ℕ) (bs : List ℕ) → Sends (character b bs)
character_sends b bs =
    if_so_sends (nat_lt b 128) (λ e. only_sends (ascii b) bs (ascii_sent b (below b 128 e))) (if_sends (nat_lt b 194) broken
    (if_sends (nat_lt b 224) (last_sends (b - 192) bs)
    (if_sends (b == 224) (two_sends 160 191 0 bs) (if_sends (b == 237) (two_sends 128 159 13 bs)
    (if_sends (nat_lt b 240) (two_sends 128 191 (b - 224) bs)
    (if_sends (b == 240) (three_sends 144 191 0 bs) (if_sends (nat_lt b 244) (three_sends 128 191 (b - 240) bs)
    (if_sends (b == 244) (three_sends 128 143 4 bs) broken))))))))

meaningless_sends : (reading : Reading) → Sends (meaningless reading)
meaningless_sends Unfinished = unfinished
meaningless_sends (Whole action) = record { action = none_sent }
meaningless_sends Broken = broken

after_escape_sends : (bs : List ℕ) → Sends (after_escape bs)
after_escape_sends [] = unfinished
after_escape_sends (b ∷ bs) =
    if_sends (is_heard b) broken (if_sends (b == 79) (numbers_sends Keys (One 0) bs) (if_sends (b == 91) (bracketed_sends bs)
    (if_sends (b == 93) (string_sends bs) (if_sends (nat_lt b 128) (only_sends (alt b) bs (alt_sent b))
    (meaningless_sends (character b bs))))))

reading_sends : (bs : List ℕ) → Sends (reading_of bs)
reading_sends [] = unfinished
reading_sends (b ∷ bs) = if_sends (b == 27) (after_escape_sends bs) (character_sends b bs)

pub at_pause_sent : (bytes : List ℕ) → Sent (at_pause bytes)
at_pause_sent [] = none_sent
at_pause_sent (a ∷ []) = if_sent (a == 27) (λ _. key_sent keys.Esc tt) none_sent
at_pause_sent (a ∷ b ∷ []) = if_sent (a == 27 && b == 79) (λ _. key_sent (keys.Alt 79) refl) none_sent
at_pause_sent (a ∷ b ∷ c ∷ bs) = none_sent

given_as_sent : (reading : Reading) → Sends reading → (bytes : List ℕ) (b : ℕ) → Sent (given_as reading bytes b)
given_as_sent Unfinished sends bytes b = none_sent
given_as_sent (Whole action) sends bytes b = if_sent (nat_lt (length bytes) most) (λ _. sends.action) none_sent
given_as_sent Broken sends bytes b = if_sent (b == 27) (λ _. at_pause_sent bytes) (reading_sends (b ∷ [])).action

pub given_sent : (bytes : List ℕ) (b : ℕ) → Sent (given bytes b)
given_sent bytes b = given_as_sent (reading_of (bytes ++ b ∷ [])) (reading_sends (bytes ++ b ∷ [])) bytes b

-- and so is what is heard of it
heard_sent : (is_pasting : Bool) (meant : Option Action) → Sent meant → Sent (heard_while is_pasting meant)
heard_sent is_pasting None sent = none_sent
heard_sent is_pasting (Some action) sent = if_sent (is_pasted action || not is_pasting) (λ _. sent) none_sent

pub byte_is_sent : (l : Listening) (b : ℕ) (result : Option Action) → result ≡ heard l b → IfSome result IsSentAction
byte_is_sent l b result e = (subst Sent (sym e) (heard_sent l.is_pasting (given l.bytes b) (given_sent l.bytes b))).sent

pub pause_is_sent : (is_pasting : Bool) (bytes : List ℕ) (meant result : Option Action) → meant ≡ at_pause bytes
    → result ≡ heard_while is_pasting meant → IfSome result IsSentAction
pause_is_sent is_pasting bytes meant result e is =
    (subst Sent (sym is) (heard_sent is_pasting meant (subst Sent (sym e) (at_pause_sent bytes)))).sent
