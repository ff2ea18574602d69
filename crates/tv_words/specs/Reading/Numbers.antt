-- Reading a number digit by digit.
use Rattle.std.specs.Prelude.{ℕ, zero, suc, ◌+◌, ◌*◌, ◌^◌, ℤ, pos, negsuc, List, [], ◌∷◌, ◌&&◌, nat_lt}
use Rattle.std.specs.Prelude.{nat_le, Option, Some, None, option_and_then, ◌==◌, if◌then◌else◌}
use Rattle.std.specs.Char.{digit_value}
use Rattle.tv_words.specs.declared.word.Word.{Word}
use Rattle.tv_words.specs.declared.word.Word.TheVariants.{Bare, Quoted}
use Rattle.tv_words.specs.Reading.Steps.{steps}

-- one digit more, where the number stays below 2 ^ 32
abbrev pub add_digit : ℕ → ℕ → Option ℕ
add_digit n c =
    if nat_lt (digit_value c) 10 && nat_lt (n * 10 + digit_value c) (2 ^ 32)
    then Some (n * 10 + digit_value c)
    else None

-- the number of these digits
abbrev pub digits_in : List ℕ → Option ℕ
digits_in cs = steps add_digit 0 cs

-- digits that begin with no zero
abbrev pub magnitude : List ℕ → Option ℕ
magnitude [] = None
magnitude (c ∷ cs) = if c == 48 then None else digits_in (c ∷ cs)

-- a number below 0, or 0, by its magnitude
abbrev pub minus : ℕ → ℤ
minus zero = pos zero
minus (suc n) = negsuc n

-- the number of this magnitude behind a minus, where it is one of 32 bits
abbrev pub negative : ℕ → Option ℤ
negative n = if nat_le n (2 ^ 31) then Some (minus n) else None

-- the number of this magnitude, where it is one of 32 bits
abbrev pub positive : ℕ → Option ℤ
positive n = if nat_lt n (2 ^ 31) then Some (pos n) else None

-- 0, where nothing follows its digit
abbrev pub zero_only : List ℕ → Option ℤ
zero_only [] = Some (pos 0)
zero_only (c ∷ cs) = None

-- the number of which this is the text
abbrev pub number_of : List ℕ → Option ℤ
number_of [] = None
number_of (c ∷ cs) =
    if c == 45 then option_and_then negative (magnitude cs)
    else if c == 48 then zero_only cs else option_and_then positive (magnitude (c ∷ cs))

-- the number of a bare word
abbrev pub number_in : Word → Option ℤ
number_in (Bare text) = number_of text
number_in (Quoted text) = None
