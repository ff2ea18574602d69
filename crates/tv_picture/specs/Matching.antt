-- Texts and patterns, as functions that compute. A set of places says of each place of a text, from the first
-- on,
-- whether it is in the set; a place past the list's end isn't.
use Rattle.std.specs.Prelude.{ℕ, zero, suc, ◌+◌, ◌*◌, min, List, [], ◌∷◌, length, Option, Some, None, Bool}
use Rattle.std.specs.Prelude.{true, false, not, if◌then◌else◌, ◌&&◌, ◌||◌, ◌==◌, nat_le}
use Rattle.std.specs.Char.{is_ascii_digit, is_ascii_alphabetic, is_ascii_uppercase, is_ascii_lowercase}
use Rattle.std.proofs.Math.Utf8.{scalar}
use Rattle.tv_cells.specs.Glyph.{is_narrow}
use Rattle.tv_picture.specs.declared.code.Mark.{Mark}
use Rattle.tv_picture.specs.declared.code.Mark.TheVariants.{Digit, Letter, Capital, Any, NotLower, Literal}
use Rattle.tv_picture.specs.declared.code.Mark.TheVariants.{Quoted}
use Rattle.tv_picture.specs.declared.picture.Status.{Status}
use Rattle.tv_picture.specs.declared.picture.Status.TheVariants.{Complete, Viable, Error}
use Rattle.tv_picture.specs.declared.row.Next.{Next}
use Rattle.tv_picture.specs.declared.row.Next.TheVariants.{Nothing, Only, Several}
use Rattle.tv_picture.specs.Pattern.{Pattern, empty, one, sequence, either, optional, group, many, times}
use Rattle.tv_picture.specs.Table.{either_next}

-- the mark stands for the character
abbrev pub allows : Mark → ℕ → Bool
allows Digit c = is_ascii_digit c
allows Letter c = is_ascii_alphabetic c
allows Capital c = is_ascii_uppercase c
allows Any c = scalar c
allows NotLower c = scalar c && not (is_ascii_lowercase c)
allows (Literal d) c = c == d
allows (Quoted d) c = c == d

-- the characters that a mark stands for: the one, or several
abbrev pub names_of : Mark → Next
names_of Digit = Several
names_of Letter = Several
names_of Capital = Several
names_of Any = Several
names_of NotLower = Several
names_of (Literal d) = Only d
names_of (Quoted d) = Only d

-- ---- sets of places

-- the places of either set
abbrev pub union : List Bool → List Bool → List Bool
union [] ys = ys
union (x ∷ xs) [] = x ∷ xs
union (x ∷ xs) (y ∷ ys) = (x || y) ∷ union xs ys

-- the two sets are written alike
abbrev pub are_alike : List Bool → List Bool → Bool
are_alike [] [] = true
are_alike (true ∷ xs) (true ∷ ys) = are_alike xs ys
are_alike (false ∷ xs) (false ∷ ys) = are_alike xs ys
are_alike _ _ = false

-- the places after one character for which the mark stands; the first is in the set where `before` says so
abbrev pub after_one : Mark → Bool → List ℕ → List Bool → List Bool
after_one m before t [] = before ∷ []
after_one m before [] (x ∷ xs) = before ∷ []
after_one m before (c ∷ t) (x ∷ xs) = before ∷ after_one m (x && allows m c) t xs

-- the end of the text is in the set
abbrev pub has_end : List ℕ → List Bool → Bool
has_end t [] = false
has_end [] (x ∷ xs) = x
has_end (c ∷ t) (x ∷ xs) = has_end t xs

-- a step taken n times; it stops where a step changes nothing, which `elim` finds before it looks further
abbrev pub repeated : ℕ → (List Bool → List Bool) → List Bool → List Bool
repeated zero f s = s
repeated (suc n) f s = let s' = f s in elim (are_alike s' s) [ true ↦ s | false ↦ repeated n f s' ]

-- the places that n steps or fewer reach
abbrev pub places_reached : ℕ → (List Bool → List Bool) → List Bool → List Bool
places_reached n f s = repeated n (λ x. union x (f x)) s

-- ---- members

-- the places at which members end that begin in the set
abbrev pub ends : Pattern → List ℕ → List Bool → List Bool
ends empty t s = s
ends (one m) t s = after_one m false t s
ends (sequence a b) t s = ends b t (ends a t s)
ends (either a b) t s = union (ends a t s) (ends b t s)
ends (optional a) t s = union s (ends a t s)
ends (group a) t s = ends a t s
ends (many a) t s = places_reached (length t) (ends a t) s
ends (times n a) t s = repeated n (ends a t) s

-- the characters that may follow the text in members that begin in the set
abbrev pub nexts : Pattern → List ℕ → List Bool → Next
nexts empty t s = Nothing
nexts (one m) t s = elim (has_end t s) [ true ↦ names_of m | false ↦ Nothing ]
nexts (sequence a b) t s = either_next (nexts a t s) (nexts b t (ends a t s))
nexts (either a b) t s = either_next (nexts a t s) (nexts b t s)
nexts (optional a) t s = nexts a t s
nexts (group a) t s = nexts a t s
nexts (many a) t s = nexts a t (places_reached (length t) (ends a t) s)
nexts (times zero a) t s = Nothing
nexts (times (suc n) a) t s = nexts a t (places_reached n (ends a t) s)

-- the text is in the language of the pattern
abbrev pub matches : Pattern → List ℕ → Bool
matches p t = has_end t (ends p t (true ∷ []))

-- the characters that may follow the text
abbrev pub follows : Pattern → List ℕ → Next
follows p t = nexts p t (true ∷ [])

-- a character may follow
abbrev pub is_some_next : Next → Bool
is_some_next Nothing = false
is_some_next (Only c) = true
is_some_next Several = true

-- the text is a prefix of a member
abbrev pub begins_some : Pattern → List ℕ → Bool
begins_some p t = matches p t || is_some_next (follows p t)

-- what the text is to the pattern
abbrev pub match_status : Pattern → List ℕ → Status
match_status p t =
    elim (matches p t)
    [ true ↦ Complete | false ↦ elim (is_some_next (follows p t)) [ true ↦ Viable | false ↦ Error ] ]

-- the one character that may follow, where it is one alone
abbrev pub only_next : Next → Option ℕ
only_next Nothing = None
only_next (Only c) = Some c
only_next Several = None

-- the only character with which a viable text can go on, where there is room for it
abbrev pub next_literal_of : Pattern → List ℕ → Option ℕ
next_literal_of p t =
    elim (matches p t || nat_le 120 (length t)) [ true ↦ None | false ↦ only_next (follows p t) ]

-- ---- lengths

-- the least length of a text of one column for the mark, or 121
abbrev pub mark_length : Mark → ℕ
mark_length Digit = 1
mark_length Letter = 1
mark_length Capital = 1
mark_length Any = 1
mark_length NotLower = 1
mark_length (Literal c) = if is_narrow c then 1 else 121
mark_length (Quoted c) = if is_narrow c then 1 else 121

-- the least length of a member whose characters all take one column, or 121 where none has 120 or fewer
abbrev pub shortest_length : Pattern → ℕ
shortest_length empty = 0
shortest_length (one m) = mark_length m
shortest_length (sequence a b) = min (shortest_length a + shortest_length b) 121
shortest_length (either a b) = min (shortest_length a) (shortest_length b)
shortest_length (optional a) = 0
shortest_length (group a) = shortest_length a
shortest_length (many a) = 0
shortest_length (times n a) = min (n * shortest_length a) 121
