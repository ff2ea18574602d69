-- A word names a key just where it is its spelling.
use Rattle.std.proofs.Common.{◌≡◌, ℕ, ◌≤◌, ◌==◌, nat_le, Bool, true, false, ◌&&◌, ◌||◌, cond, List, [], ◌∷◌, Option, Some, None, refl, sym, ap, ◌∙◌, subst, arith}
use Rattle.std.specs.Prelude.{ℤ, pos, negsuc}
use Rattle.std.specs.List.{AllByRecursion}
use Rattle.std.specs.Char.{is_ascii_uppercase, is_ascii_digit}
use Rattle.std.proofs.lemmas.Bool.{eqb-true}
use Rattle.std.proofs.lemmas.Bool.Decides.{nat_tests}
use Rattle.tv_event.specs.declared.event.Key.{Key}
use Rattle.tv_event.specs.declared.event.Key.TheVariants as keys
use Rattle.tv_words.specs.declared.word.Word.{Word}
use Rattle.tv_words.specs.declared.word.Word.TheVariants.{Bare, Quoted}
use Rattle.tv_words.specs.Fields.{is_bare_word}
use Rattle.tv_words.specs.Reading.Numbers.{number_of}
use Rattle.tv_declarations.specs.Reading.Keys.{key_named, named_keys, named_key, is_control_prefix, control_letter, is_alt, alt_letter, function_key, function_in, key_by, key_by_name, lettered_key, key_from, key_in}
use Rattle.std.specs.Fmt.{signed_decimal}
use Rattle.tv_words.specs.Fields.{IsNumber}
use Rattle.tv_declarations.specs.Spelling.Keys.{key_name, key_text, key_word, IsKey}
use Rattle.tv_words.proofs.FieldLemmas.{word_is}
use Rattle.tv_words.proofs.NumberLemmas.{number_read, read_number}

abbrev Names : Word → Key → Type 0
Names w key = (w ≡ key_word key) × IsKey key

named_if : (w : Word) (keyword : List ℕ) (c d : Key) (rest : Option Key) (b : Bool) → is_bare_word w keyword ≡ b → Bare keyword ≡ key_word c → IsKey c → (rest ≡ Some d → Names w d) → cond b (Some c) rest ≡ Some d → Names w d
named_if w keyword c d rest true eb spelled is other e = let same : c ≡ d = cc in subst (Names w) same (word_is w keyword eb ∙ spelled, is)
named_if w keyword c d rest false eb spelled is other e = other e

-- a key with a name of its own
abbrev IsNamed : Key → Type 0
IsNamed key = (Bare (key_name key) ≡ key_word key) × IsKey key

first_read : (ks : List Key) (w : Word) (d : Key) → AllByRecursion IsNamed ks → key_named ks w ≡ Some d → Names w d
first_read [] w d are e = absurd cc
first_read (k ∷ ks) w d are e = named_if w (key_name k) k d (key_named ks w) (is_bare_word w (key_name k)) refl are.0.0 are.0.1 (first_read ks w d are.1) e

named_read : (w : Word) (d : Key) → named_key w ≡ Some d → Names w d
named_read w d e = first_read named_keys w d ((refl, tt), ((refl, tt), ((refl, tt), ((refl, tt), ((refl, tt), ((refl, tt), ((refl, tt), ((refl, tt), ((refl, tt), ((refl, tt), ((refl, tt), ((refl, tt), ((refl, tt), ((refl, tt), ((refl, tt), ((refl, tt), ((refl, tt), tt))))))))))))))))) e

-- keys with a letter, a digit or a number
abbrev NamesText : List ℕ → Key → Type 0
NamesText text key = (text ≡ key_text key) × IsKey key

control_if : (c : ℕ) (d : Key) (b : Bool) → is_ascii_uppercase c ≡ b → cond b (Some (keys.Ctrl c)) None ≡ Some d → NamesText (67 ∷ 116 ∷ 114 ∷ 108 ∷ 45 ∷ c ∷ []) d
control_if c d true eb e = let same : keys.Ctrl c ≡ d = cc in subst (NamesText (67 ∷ 116 ∷ 114 ∷ 108 ∷ 45 ∷ c ∷ [])) same (refl, eb)
control_if c d false eb e = absurd cc

alt_if : (c : ℕ) (d : Key) (b : Bool) → (is_ascii_uppercase c || is_ascii_digit c) ≡ b → cond b (Some (keys.Alt c)) None ≡ Some d → NamesText (65 ∷ 108 ∷ 116 ∷ 45 ∷ c ∷ []) d
alt_if c d true eb e = let same : keys.Alt c ≡ d = cc in subst (NamesText (65 ∷ 108 ∷ 116 ∷ 45 ∷ c ∷ [])) same (refl, eb)
alt_if c d false eb e = absurd cc

function_if : (digits : List ℕ) (n : ℕ) (d : Key) (a b : Bool) → number_of digits ≡ Some (pos n) → nat_le 1 n ≡ a → nat_le n 12 ≡ b → cond (a && b) (Some (keys.Function n)) None ≡ Some d → NamesText (70 ∷ digits) d
function_if digits n d true true en ea eb e =
    let same : keys.Function n ≡ d = cc in
    subst (NamesText (70 ∷ digits)) same (ap (λ x. 70 ∷ x) (sym (number_read digits (pos n) en).0), (grind (arith, nat_tests), grind (arith, nat_tests)))
function_if digits n d true false en ea eb e = absurd cc
function_if digits n d false b en ea eb e = absurd cc

function_from : (digits : List ℕ) (d : Key) (o : Option ℤ) → number_of digits ≡ o → function_key o ≡ Some d → NamesText (70 ∷ digits) d
function_from digits d None en e = absurd cc
function_from digits d (Some (negsuc n)) en e = absurd cc
function_from digits d (Some (pos n)) en e = function_if digits n d (nat_le 1 n) (nat_le n 12) en refl refl e

function_at : (c : ℕ) (digits : List ℕ) (d : Key) (b : Bool) → c == 70 ≡ b → cond b (function_key (number_of digits)) None ≡ Some d → NamesText (c ∷ digits) d
function_at c digits d true eb e = rw (eqb-true c 70 eb) (function_from digits d (number_of digits) refl e)
function_at c digits d false eb e = absurd cc

function_read : (text : List ℕ) (d : Key) → function_in text ≡ Some d → NamesText text d
function_read [] d e = absurd cc
function_read (c ∷ digits) d e = function_at c digits d (c == 70) refl e

and_true : (a b : Bool) → (a && b) ≡ true → (a ≡ true) × (b ≡ true)
and_true true b e = (refl, e)
and_true false b e = absurd cc

control_at : (a b c d e k l : ℕ) (q : Bool) → is_control_prefix a b c d e ≡ q → cond q (Some k) None ≡ Some l → a ∷ b ∷ c ∷ d ∷ e ∷ k ∷ [] ≡ 67 ∷ 116 ∷ 114 ∷ 108 ∷ 45 ∷ l ∷ []
control_at a b c d e k l true eq found =
    let same : k ≡ l = cc in
    let ta = and_true (a == 67) (b == 116 && (c == 114 && (d == 108 && e == 45))) eq in
    let tb = and_true (b == 116) (c == 114 && (d == 108 && e == 45)) ta.1 in
    let td = and_true (c == 114) (d == 108 && e == 45) tb.1 in
    let te = and_true (d == 108) (e == 45) td.1 in
    rw (eqb-true a 67 ta.0, eqb-true b 116 tb.0, eqb-true c 114 td.0, eqb-true d 108 te.0, eqb-true e 45 te.1, same) refl
control_at a b c d e k l false eq found = absurd cc

control_read : (text : List ℕ) (l : ℕ) → control_letter text ≡ Some l → text ≡ 67 ∷ 116 ∷ 114 ∷ 108 ∷ 45 ∷ l ∷ []
control_read [] l h = absurd cc
control_read (a ∷ []) l h = absurd cc
control_read (a ∷ b ∷ []) l h = absurd cc
control_read (a ∷ b ∷ c ∷ []) l h = absurd cc
control_read (a ∷ b ∷ c ∷ d ∷ []) l h = absurd cc
control_read (a ∷ b ∷ c ∷ d ∷ e ∷ []) l h = absurd cc
control_read (a ∷ b ∷ c ∷ d ∷ e ∷ k ∷ []) l h = control_at a b c d e k l (is_control_prefix a b c d e) refl h
control_read (a ∷ b ∷ c ∷ d ∷ e ∷ k ∷ m ∷ ns) l h = absurd cc

alt_at : (a b c d k l : ℕ) (q : Bool) → is_alt a b c d ≡ q → cond q (Some k) None ≡ Some l → a ∷ b ∷ c ∷ d ∷ k ∷ [] ≡ 65 ∷ 108 ∷ 116 ∷ 45 ∷ l ∷ []
alt_at a b c d k l true eq found =
    let same : k ≡ l = cc in
    let ta = and_true (a == 65) (b == 108 && (c == 116 && d == 45)) eq in
    let tb = and_true (b == 108) (c == 116 && d == 45) ta.1 in
    let td = and_true (c == 116) (d == 45) tb.1 in
    rw (eqb-true a 65 ta.0, eqb-true b 108 tb.0, eqb-true c 116 td.0, eqb-true d 45 td.1, same) refl
alt_at a b c d k l false eq found = absurd cc

alt_read : (text : List ℕ) (l : ℕ) → alt_letter text ≡ Some l → text ≡ 65 ∷ 108 ∷ 116 ∷ 45 ∷ l ∷ []
alt_read [] l h = absurd cc
alt_read (a ∷ []) l h = absurd cc
alt_read (a ∷ b ∷ []) l h = absurd cc
alt_read (a ∷ b ∷ c ∷ []) l h = absurd cc
alt_read (a ∷ b ∷ c ∷ d ∷ []) l h = absurd cc
alt_read (a ∷ b ∷ c ∷ d ∷ k ∷ []) l h = alt_at a b c d k l (is_alt a b c d) refl h
alt_read (a ∷ b ∷ c ∷ d ∷ k ∷ m ∷ ns) l h = absurd cc

text_by : (text : List ℕ) (d : Key) (control alt : Option ℕ) → control_letter text ≡ control → alt_letter text ≡ alt → key_by control alt (function_in text) ≡ Some d → NamesText text d
text_by text d (Some l) alt ec ea e = rw (control_read text l ec) (control_if l d (is_ascii_uppercase l) refl e)
text_by text d None (Some l) ec ea e = rw (alt_read text l ea) (alt_if l d (is_ascii_uppercase l || is_ascii_digit l) refl e)
text_by text d None None ec ea e = function_read text d e

text_read : (text : List ℕ) (d : Key) → key_by_name text ≡ Some d → NamesText text d
text_read text d e = text_by text d (control_letter text) (alt_letter text) refl refl e

lettered_read : (w : Word) (d : Key) → lettered_key w ≡ Some d → Names w d
lettered_read (Bare text) d e = let r = text_read text d e in (ap (λ x. Bare x) r.0, r.1)
lettered_read (Quoted text) d e = absurd cc

key_if : (w : Word) (d : Key) (o : Option Key) → lettered_key w ≡ o → key_from o w ≡ Some d → Names w d
key_if w d (Some k) eo e = lettered_read w d (eo ∙ e)
key_if w d None eo e = named_read w d e

pub key_read : (w : Word) (d : Key) → key_in w ≡ Some d → (w ≡ key_word d) × IsKey d
key_read w d e = key_if w d (lettered_key w) refl e

-- F1 to F12
function_text : (cs : List ℕ) → key_by_name (70 ∷ cs) ≡ function_in (70 ∷ cs)
function_text [] = refl
function_text (a ∷ []) = refl
function_text (a ∷ b ∷ []) = refl
function_text (a ∷ b ∷ c ∷ []) = refl
function_text (a ∷ b ∷ c ∷ d ∷ []) = refl
function_text (a ∷ b ∷ c ∷ d ∷ e ∷ []) = refl
function_text (a ∷ b ∷ c ∷ d ∷ e ∷ f ∷ gs) = refl

is_le : (m n : ℕ) → m ≤ n → nat_le m n ≡ true
is_le m n h = grind (arith, nat_tests)

function_fits : (n : ℕ) → n ≤ 12 → IsNumber (pos n)
function_fits n high = grind arith

function_again : (n : ℕ) → 1 ≤ n → n ≤ 12 → key_in (key_word (keys.Function n)) ≡ Some (keys.Function n)
function_again n low high =
    ap (λ o. key_from o (key_word (keys.Function n))) (function_text (signed_decimal (pos n))
    ∙ ap function_key (read_number (pos n) (function_fits n high)))
    ∙ rw (is_le 1 n low, is_le n 12 high) refl

pub read_key : (d : Key) → IsKey d → key_in (key_word d) ≡ Some d
read_key keys.Tab is = refl
read_key keys.ShiftTab is = refl
read_key keys.Enter is = refl
read_key keys.Esc is = refl
read_key keys.Up is = refl
read_key keys.Down is = refl
read_key keys.Left is = refl
read_key keys.Right is = refl
read_key keys.Home is = refl
read_key keys.End is = refl
read_key keys.PageUp is = refl
read_key keys.PageDown is = refl
read_key keys.CtrlPageUp is = refl
read_key keys.CtrlPageDown is = refl
read_key keys.Backspace is = refl
read_key keys.Delete is = refl
read_key keys.Insert is = refl
read_key (keys.Ctrl c) is = rw is refl
read_key (keys.Alt c) is = rw is refl
read_key (keys.Function n) is = function_again n is.0 is.1
read_key (keys.Char c) is = absurd is
