-- What is wrong with arguments, in words.
use Rattle.std.specs.Prelude.{ℕ, ◌+◌, ◌-◌, ◌&&◌, Bool, List, ◌++◌, Option, Some, None, if◌then◌else◌}
use Rattle.std.specs.Prelude.{bytes_eq, codes, decimal, encode_utf8_all, length, slice_get, take}
use Rattle.std.specs.Char.{is_ascii_graphic}
use Rattle.std.specs.List.{list_all}
use Rattle.tv_boxes.specs.declared.misuse.Misuse.{Misuse}
use Rattle.tv_boxes.specs.declared.misuse.Misuse.TheVariants.{NoMemory, NoBox, Missing, NoNumber, Extra, NoOption}

-- of the argument of the number, counted from 1
abbrev pub argument_text : (number : ℕ) → List ℕ → List ℕ
argument_text number text = codes "argument " ++ (decimal number ++ text)

-- two `-` first, and nothing but letters, digits and signs
abbrev pub is_option : List ℕ → Bool
is_option word = bytes_eq (codes "--") (take 2 word) && list_all is_ascii_graphic word

-- of the argument of the number, which is no option of a box
abbrev pub option_text : (number : ℕ) → Option (List ℕ) → List ℕ
option_text number None = argument_text number (codes " is no option")
option_text number (Some word) =
    if is_option word then encode_utf8_all word ++ codes " can't be had"
    else argument_text number (codes " is no option")

-- the misuse of these arguments
abbrev pub misuse_text : List (List ℕ) → Misuse → List ℕ
misuse_text words NoMemory = codes "out of memory"
misuse_text words NoBox = codes "no box is asked for"
misuse_text words Missing = argument_text (length words + 1) (codes " is missing")
misuse_text words (NoNumber behind) = argument_text (length words - behind) (codes " is no number from 0 to 255")
misuse_text words (Extra behind) = argument_text (length words - behind) (codes " is one too many")
misuse_text words (NoOption behind) =
    option_text (length words - behind) (slice_get words (length words - behind - 1))
