-- The characters of a word, found in the text that goes on from it.
use Rattle.std.specs.Prelude.{ℕ, List, [], ◌∷◌, Bool, true, false, ◌==◌, if◌then◌else◌}
use Rattle.tv_words.specs.Characters.{backslash, letter_n, line_feed, quote}
use Rattle.tv_words.specs.Words.{is_bare}

-- the bare word with which the characters begin
abbrev pub bare_text : List ℕ → List ℕ
bare_text [] = []
bare_text (c ∷ cs) = if is_bare c then c ∷ bare_text cs else []

-- what a character stands for after a backslash: `n` for a line feed, and any other for itself
abbrev pub unescaped : ℕ → ℕ
unescaped c = if c == letter_n then line_feed else c

-- the text up to the quote that closes it, where a backslash is just before the characters or not
abbrev pub text_from : Bool → List ℕ → List ℕ
text_from escape [] = []
text_from true (c ∷ cs) = unescaped c ∷ text_from false cs
text_from false (c ∷ cs) =
    if c == quote then [] else if c == backslash then text_from true cs else c ∷ text_from false cs
