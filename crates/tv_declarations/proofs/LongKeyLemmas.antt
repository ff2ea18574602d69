-- A bare word of more than 12 characters names no key.
use Rattle.std.proofs.Common.{◌≡◌, ℕ, ◌<◌, ◌==◌, nat_le, Bool, true, false, ◌&&◌, cond, List, [], ◌∷◌, length, Option, Some, None, refl, ap, arith}
use Rattle.std.specs.List.{list_all}
use Rattle.std.specs.Str.{bytes_eq}
use Rattle.std.proofs.lemmas.Bool.Decides.{nat_tests}
use Rattle.std.proofs.lemmas.Slice.Eq.{bytes_eq-Decides}
use Rattle.tv_event.specs.declared.event.Key.{Key}
use Rattle.tv_words.specs.declared.word.Word.TheVariants.{Bare}
use Rattle.tv_words.specs.Reading.Numbers.{number_of}
use Rattle.tv_words.proofs.TokenLemmas.{long_number}
use Rattle.tv_declarations.specs.Reading.Keys.{key_named, named_keys, function_key, key_by_name, key_in}
use Rattle.tv_declarations.specs.Spelling.Keys.{key_name}

-- a name that is short
abbrev is_short : Key → Bool
is_short key = nat_le (length (key_name key)) 12

other_if : (text name : List ℕ) (b : Bool) → bytes_eq text name ≡ b → nat_le (length name) 12 ≡ true → 12 < length text → b ≡ false
other_if text name false e short long = refl
other_if text name true e short long =
    let same : text ≡ name = (bytes_eq-Decides text name).0 e in
    absurd (grind (arith, nat_tests, short, long, ap length same))

none_if : (b c d : Bool) (key : Key) (rest : Option Key) → (c && d) ≡ true → (c ≡ true → b ≡ false) → (d ≡ true → rest ≡ None) → cond b (Some key) rest ≡ None
none_if b true true key rest e other later = rw (other refl) (later refl)
none_if b false d key rest e other later = absurd cc
none_if b true false key rest e other later = absurd cc

none_named : (ks : List Key) (text : List ℕ) → list_all is_short ks ≡ true → 12 < length text → key_named ks (Bare text) ≡ None
none_named [] text e long = refl
none_named (k ∷ ks) text e long = none_if (bytes_eq text (key_name k)) (is_short k) (list_all is_short ks) k (key_named ks (Bare text)) e (λ short. other_if text (key_name k) (bytes_eq text (key_name k)) refl short long) (λ all. none_named ks text all long)

function_if : (b : Bool) (digits : List ℕ) → 11 < length digits → cond b (function_key (number_of digits)) None ≡ None
function_if false digits long = refl
function_if true digits long = rw (long_number digits long) refl

none_lettered : (text : List ℕ) → 12 < length text → key_by_name text ≡ None
none_lettered [] long = absurd (omega (arith, long))
none_lettered (a ∷ []) long = absurd (omega (arith, long))
none_lettered (a ∷ b ∷ []) long = absurd (omega (arith, long))
none_lettered (a ∷ b ∷ c ∷ []) long = absurd (omega (arith, long))
none_lettered (a ∷ b ∷ c ∷ d ∷ []) long = absurd (omega (arith, long))
none_lettered (a ∷ b ∷ c ∷ d ∷ e ∷ []) long = absurd (omega (arith, long))
none_lettered (a ∷ b ∷ c ∷ d ∷ e ∷ f ∷ []) long = absurd (omega (arith, long))
none_lettered (a ∷ b ∷ c ∷ d ∷ e ∷ f ∷ g ∷ more) long = function_if (a == 70) (b ∷ c ∷ d ∷ e ∷ f ∷ g ∷ more) (omega (arith, long))

pub long_key : (text : List ℕ) → 12 < length text → key_in (Bare text) ≡ None
long_key text long = rw (none_lettered text long) (none_named named_keys text refl long)
