-- Reading the keys that words name.
use Rattle.std.specs.Prelude.{ℕ, ℤ, pos, negsuc, Bool, List, [], ◌∷◌, ◌&&◌, ◌||◌, nat_le, Option, Some, None}
use Rattle.std.specs.Prelude.{◌==◌, find, if◌then◌else◌}
use Rattle.std.specs.Char.{is_ascii_uppercase, is_ascii_digit}
use Rattle.tv_event.specs.declared.event.Key.{Key}
use Rattle.tv_event.specs.declared.event.Key.TheVariants as keys
use Rattle.tv_words.specs.declared.word.Word.{Word}
use Rattle.tv_words.specs.declared.word.Word.TheVariants.{Bare, Quoted}
use Rattle.tv_words.specs.Fields.{is_bare_word}
use Rattle.tv_words.specs.Reading.Numbers.{number_of}
use Rattle.tv_declarations.specs.Spelling.Keys.{key_name}

-- the keys that have a name of their own
abbrev pub named_keys : List Key
named_keys =
    keys.Tab ∷ keys.ShiftTab ∷ keys.Enter ∷ keys.Esc ∷ keys.Up ∷ keys.Down ∷ keys.Left ∷ keys.Right
    ∷ keys.Home ∷ keys.End ∷ keys.PageUp ∷ keys.PageDown ∷ keys.CtrlPageUp ∷ keys.CtrlPageDown
    ∷ keys.Backspace ∷ keys.Delete ∷ keys.Insert ∷ []

-- the first of the keys whose name it is
abbrev pub key_named : List Key → Word → Option Key
key_named ks w = find (λ key. is_bare_word w (key_name key)) ks

-- the key whose own name it is
abbrev pub named_key : Word → Option Key
named_key w = key_named named_keys w

-- Ctrl with a capital letter
abbrev pub control_key : ℕ → Option Key
control_key c = if is_ascii_uppercase c then Some (keys.Ctrl c) else None

-- Alt with a capital letter or a digit
abbrev pub alt_key : ℕ → Option Key
alt_key c = if is_ascii_uppercase c || is_ascii_digit c then Some (keys.Alt c) else None

-- F1 to F12
abbrev pub function_key : Option ℤ → Option Key
function_key None = None
function_key (Some (negsuc n)) = None
function_key (Some (pos n)) = if nat_le 1 n && nat_le n 12 then Some (keys.Function n) else None

-- `F` and a number
abbrev pub function_in : List ℕ → Option Key
function_in [] = None
function_in (c ∷ digits) = if c == 70 then function_key (number_of digits) else None

-- the characters of `Ctrl-`
abbrev pub is_control_prefix : (a b c d e : ℕ) → Bool
is_control_prefix a b c d e = a == 67 && (b == 116 && (c == 114 && (d == 108 && e == 45)))

-- what follows `Ctrl-`
abbrev pub control_letter : List ℕ → Option ℕ
control_letter (a ∷ b ∷ c ∷ d ∷ e ∷ letter ∷ []) = if is_control_prefix a b c d e then Some letter else None
control_letter _ = None

-- the characters of `Alt-`
abbrev pub is_alt : (a b c d : ℕ) → Bool
is_alt a b c d = a == 65 && (b == 108 && (c == 116 && d == 45))

-- what follows `Alt-`
abbrev pub alt_letter : List ℕ → Option ℕ
alt_letter (a ∷ b ∷ c ∷ d ∷ letter ∷ []) = if is_alt a b c d then Some letter else None
alt_letter _ = None

-- the key of what follows `Ctrl-` or `Alt-`, or else another
abbrev pub key_by : Option ℕ → Option ℕ → Option Key → Option Key
key_by (Some letter) alt other = control_key letter
key_by None (Some letter) other = alt_key letter
key_by None None other = other

-- `Ctrl-` or `Alt-` and a letter or digit, or `F` and a number
abbrev pub key_by_name : List ℕ → Option Key
key_by_name text = key_by (control_letter text) (alt_letter text) (function_in text)

-- the key with a letter, a digit or a number that a bare word names
abbrev pub lettered_key : Word → Option Key
lettered_key (Bare text) = key_by_name text
lettered_key (Quoted text) = None

-- that key, or else the one whose own name it is
abbrev pub key_from : Option Key → Word → Option Key
key_from (Some key) w = Some key
key_from None w = named_key w

-- the key that a word names
abbrev pub key_in : Word → Option Key
key_in w = key_from (lettered_key w) w
