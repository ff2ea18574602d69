-- The pieces of a text after its first line end.
use Rattle.std.proofs.Common.{◌≡◌, ℕ, suc, ◌+◌, ◌<◌, ◌==◌, Bool, true, false, cond, List, [], ◌∷◌, length, take, drop, Option, Some, None, position, refl, ◌∙◌, arith, add-one}
use Rattle.std.specs.List.{position_from}
use Rattle.std.proofs.lemmas.Iterator.Adapters.{position_from-zero}
use Rattle.tv_model.specs.Screen.Faces.{pieces_of}

abbrev pub is_end : ℕ → Bool
is_end ch = ch == 10

-- what the search for a line end says of the pieces, where the text begins at a place
abbrev SplitsFrom : ℕ → List ℕ → Option ℕ → Type 0
SplitsFrom from text None = pieces_of text ≡ text ∷ []
SplitsFrom from text (Some end) = (k : ℕ) × (end ≡ from + k) × (k < length text) × (pieces_of text ≡ take k text ∷ pieces_of (drop (suc k) text))

split_later : (from ch : ℕ) (chars : List ℕ) (o : Option ℕ) → ch == 10 ≡ false → SplitsFrom (from + 1) chars o → SplitsFrom from (ch ∷ chars) o
split_later from ch chars None e s = rw (e, s) refl
split_later from ch chars (Some end) e s = (suc s.0, omega (arith, s.1), omega (arith, s.2), rw (e, s.3) refl)

split_at : (from ch : ℕ) (chars : List ℕ) (b : Bool) → ch == 10 ≡ b → SplitsFrom (from + 1) chars (position_from is_end (from + 1) chars) → SplitsFrom from (ch ∷ chars) (cond b (Some from) (position_from is_end (from + 1) chars))
split_at from ch chars true e s = (0, omega arith, omega arith, rw e refl)
split_at from ch chars false e s = split_later from ch chars (position_from is_end (from + 1) chars) e s

splits : (from : ℕ) (text : List ℕ) → SplitsFrom from text (position_from is_end from text)
splits from [] = refl
splits from (ch ∷ chars) = split_at from ch chars (ch == 10) refl (splits (from + 1) chars)

splits_at : (text : List ℕ) (o : Option ℕ) → o ≡ position is_end text → SplitsFrom 0 text o
splits_at text o e = let same : o ≡ position_from is_end 0 text = e ∙ position_from-zero is_end text in rw same (splits 0 text)

pub last_piece : (text : List ℕ) → None ≡ position is_end text → pieces_of text ≡ text ∷ []
last_piece text e = splits_at text None e

pub first_piece : (text : List ℕ) (end : ℕ) → Some end ≡ position is_end text → pieces_of text ≡ take end text ∷ pieces_of (drop (end + 1) text)
first_piece text end e =
    let s = splits_at text (Some end) e in
    let same : s.0 ≡ end = omega (arith, s.1) in
    let is : pieces_of text ≡ take end text ∷ pieces_of (drop (suc end) text) = rw same at s.3 in
    rw add-one is
