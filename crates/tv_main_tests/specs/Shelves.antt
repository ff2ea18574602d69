-- What files in memory hold.
use Rattle.std.specs.Prelude.{ℕ, List, Bool, true, false, Option, Some, None, bytes_eq, codes}

-- the text of the description or of the file beside it, by which of the two is asked for
abbrev pub text_if : (is_description is_beside : Bool) → (description beside : List ℕ) → Option (List ℕ)
text_if true is_beside description beside = Some description
text_if false true description beside = Some beside
text_if false false description beside = None

-- the text at a path
abbrev pub text_at : (description beside path : List ℕ) → Option (List ℕ)
text_at description beside path =
    text_if (bytes_eq path (codes "FILE")) (bytes_eq path (codes "BESIDE")) description beside
