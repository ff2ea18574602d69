-- What a word of a declaration can be.
use Rattle.std.specs.Prelude.{ℕ, ℤ, List, Bool, false, Option, Some, None, IsTrue, FitsSigned, if◌then◌else◌}
use Rattle.std.specs.Str.{bytes_eq}
use Rattle.std.specs.Fmt.{signed_decimal}
use Rattle.std.specs.Int.{w32}
use Rattle.tv_words.specs.declared.word.Word.{Word}
use Rattle.tv_words.specs.declared.word.Word.TheVariants.{Bare, Quoted}
use Rattle.tv_words.specs.Names.{is_name}

-- the bare word of these characters
abbrev pub is_bare_word : Word → List ℕ → Bool
is_bare_word (Bare text) keyword = bytes_eq text keyword
is_bare_word (Quoted text) keyword = false

-- the name that a word can be
abbrev pub name_in : Word → Option (List ℕ)
name_in (Bare text) = if is_name text then Some text else None
name_in (Quoted text) = None

-- the text of a quoted word
abbrev pub text_in : Word → Option (List ℕ)
text_in (Bare text) = None
text_in (Quoted text) = Some text

-- a number stands in decimal
abbrev pub number_word : ℤ → Word
number_word n = Bare (signed_decimal n)

-- a number of 32 bits with a sign
abbrev pub IsNumber : ℤ → Type 0
IsNumber n = FitsSigned w32 n

-- a name as Names has it
abbrev pub IsName : List ℕ → Type 0
IsName text = IsTrue (is_name text)
