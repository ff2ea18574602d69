-- A text, cut into rows.
use Rattle.std.specs.Prelude.{ℕ, Bool, nat_le, List, [], ◌∷◌, ◌++◌, ◌+◌, ◌-◌, ◌==◌, length, take, if◌then◌else◌, fold}
use Rattle.tv_boxes.specs.declared.wrap.Rows.{Rows}

-- no row yet
abbrev pub nothing_added : Rows
nothing_added = record { done = []; row = []; word = [] }

-- a row of this width has no room for one more character
abbrev pub is_full : ℕ → Rows → Bool
is_full width rows = nat_le width (length rows.row + length rows.word)

-- the row ends behind the word
abbrev pub broken : Rows → Rows
broken rows = record { done = rows.done ++ (rows.row ++ rows.word) ∷ []; row = []; word = [] }

-- the word ends; a space that the row has no room for ends the row too
abbrev pub space_added : ℕ → Rows → Rows
space_added width rows =
    if is_full width rows then broken rows
    else record { done = rows.done; row = rows.row ++ (rows.word ++ 32 ∷ []); word = [] }

-- the words without the space behind the last one
abbrev pub without_last : List ℕ → List ℕ
without_last row = take (length row - 1) row

-- where a row ends that has no room: before the word, or in it if that has the row for itself
abbrev pub turned : Rows → Rows
turned rows =
    if length rows.row == 0 then broken rows
    else record { done = rows.done ++ without_last rows.row ∷ []; row = []; word = rows.word }

-- the word has a character more
abbrev pub lengthened : ℕ → Rows → Rows
lengthened c rows = record { done = rows.done; row = rows.row; word = rows.word ++ c ∷ [] }

-- a character of a word
abbrev pub letter_added : ℕ → ℕ → Rows → Rows
letter_added width c rows = lengthened c (if is_full width rows then turned rows else rows)

-- one character more; a line feed ends the row
abbrev pub added : ℕ → Rows → ℕ → Rows
added width rows c =
    if c == 10 then broken rows else if c == 32 then space_added width rows else letter_added width c rows

-- the rows of a text
abbrev pub rows_of : ℕ → List ℕ → List (List ℕ)
rows_of width text = (broken (fold (added width) nothing_added text)).done
