-- What a domain asks of a text, and whether it has one, as functions that compute.
use Rattle.std.specs.Prelude.{ℕ, ◌-◌, ◌^◌, min, List, [], ◌∷◌, length, Bool, true, false, ◌&&◌, ◌||◌, ◌==◌}
use Rattle.std.specs.Prelude.{nat_le, nat_lt, ℤ, pos, neg_ℤ, int_le, int_lt, unsigned_abs}
use Rattle.std.specs.Char.{char_set_contains, is_ascii_digit}
use Rattle.std.specs.List.{list_all}
use Rattle.tv_cells.specs.Glyph.{is_narrow}
use Rattle.tv_picture.specs.Matching.{matches, begins_some, shortest_length}
use Rattle.tv_valid.specs.declared.domain.Kind.{Kind}
use Rattle.tv_valid.specs.declared.domain.Kind.TheVariants.{Any, Filter, Range, Picture}
use Rattle.tv_valid.specs.declared.domain.Domain.{Domain}
use Rattle.tv_valid.specs.Domain.{number_of_digits}

-- ---- numbers of a range

-- one or more digits
abbrev pub are_digits : List ℕ → Bool
are_digits cs = nat_le 1 (length cs) && list_all is_ascii_digit cs

-- the number lies between the two, either of them included
abbrev pub is_from_to : ℤ → ℤ → ℤ → Bool
is_from_to least z greatest = int_le least z && int_le z greatest

-- the digits of a number of the range
abbrev pub are_digits_within : ℤ → ℤ → List ℕ → Bool
are_digits_within least greatest cs = are_digits cs && is_from_to least (pos (number_of_digits cs)) greatest

-- the digits after the `-` of a number of the range
abbrev pub are_negative_within : ℤ → ℤ → List ℕ → Bool
are_negative_within least greatest cs =
    are_digits cs && (int_lt least (pos 0) && is_from_to least (neg_ℤ (pos (number_of_digits cs))) greatest)

-- the text is the sign, and what is right after it
abbrev pub is_after : ℕ → (List ℕ → Bool) → List ℕ → Bool
is_after sign right [] = false
is_after sign right (c ∷ cs) = (c == sign) && right cs

-- an optional sign and digits whose value is in the range; a `-` only where the least value is negative
abbrev pub in_range : ℤ → ℤ → List ℕ → Bool
in_range least greatest text =
    are_digits_within least greatest text
    || (is_after 43 (are_digits_within least greatest) text
    || is_after 45 (are_negative_within least greatest) text)

-- a character of such a text
abbrev pub is_range_char : ℤ → ℕ → Bool
is_range_char least c = (c == 43) || (is_ascii_digit c || ((c == 45) && int_lt least (pos 0)))

-- ---- texts

-- what the kind of the domain asks of a whole text
abbrev pub in_kind : Kind → List ℕ → Bool
in_kind Any text = true
in_kind (Filter set) text = list_all (char_set_contains set) text
in_kind (Range least greatest) text = in_range least greatest text
in_kind (Picture p) text = matches p text

-- and of a text while it is typed
abbrev pub may_become : Kind → List ℕ → Bool
may_become Any text = true
may_become (Filter set) text = list_all (char_set_contains set) text
may_become (Range least greatest) text = list_all (is_range_char least) text
may_become (Picture p) text = begins_some p text

-- at most so many characters, and never more than 120, each of one column
abbrev pub fits_in : ℤ → List ℕ → Bool
fits_in max text = int_le (pos (length text)) max && (nat_le (length text) 120 && list_all is_narrow text)

-- a text of the domain
abbrev pub in_domain : Domain → List ℕ → Bool
in_domain d text = fits_in d.max text && (in_kind d.kind text || (d.optional && (length text == 0)))

-- a text that may stand in the input while it is typed
abbrev pub viable : Domain → List ℕ → Bool
viable d text = fits_in d.max text && may_become d.kind text

-- ---- whether there is a text

-- a number of the range, whose bounds are in order, is written by so many characters, where there is room for
-- one
abbrev pub has_number_within : ℤ → ℤ → ℕ → Bool
has_number_within least greatest room =
    elim (int_lt (pos 0) least) [
      | true ↦ nat_lt (unsigned_abs least) (10 ^ room)
      | false ↦ elim (int_lt greatest (pos 0)) [
        | true ↦ nat_lt (unsigned_abs greatest) (10 ^ (room - 1))
        | false ↦ true
      ]
    ]

-- a number of the range is written by so many narrow characters
abbrev pub has_number : ℤ → ℤ → ℕ → Bool
has_number least greatest room =
    int_le least greatest && (nat_le 1 room && has_number_within least greatest room)

-- a text of the kind is written by so many narrow characters
abbrev pub has_own : Kind → ℕ → Bool
has_own Any room = true
has_own (Filter set) room = true
has_own (Range least greatest) room = has_number least greatest room
has_own (Picture p) room = nat_le (shortest_length p) room

-- some text lies in the domain
abbrev pub has_text : Domain → Bool
has_text d = int_le (pos 0) d.max && (d.optional || has_own d.kind (min (unsigned_abs d.max) 120))
