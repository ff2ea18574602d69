-- The words of a line of bytes, as a function.
use Rattle.std.specs.Prelude.{ℕ, Bool, true, false, List, [], ◌∷◌, Option, Some, None, chars}
use Rattle.std.specs.List.{list_any}
use Rattle.std.specs.Char.{is_control}
use Rattle.std.specs.Str.{is_utf8}
use Rattle.tv_words.specs.declared.word.Word.{Word}
use Rattle.tv_words.specs.declared.scan.Mode.TheVariants.{Between}
use Rattle.tv_words.specs.Words.{is_comment}
use Rattle.tv_words.specs.Reading.Scan.{at, read_on}

-- the words of these characters, by whether they are UTF-8, have a control character and are a comment
abbrev pub line_words_if : Bool → Bool → Bool → List ℕ → Option (List Word)
line_words_if false unclean comment cs = None
line_words_if true true comment cs = None
line_words_if true false true cs = Some []
line_words_if true false false cs = read_on (at [] Between) cs

-- the words of a line of bytes, or none where it is faulty
abbrev pub line_words : List ℕ → Option (List Word)
line_words line =
    line_words_if (is_utf8 line) (list_any is_control (chars line)) (is_comment (chars line)) (chars line)

-- the machine over lines, which passes over lines without words
abbrev pub words_taken : {S : Type 0} → (S → List Word → Option S) → S → Option (List Word) → Option S
words_taken next p None = None
words_taken next p (Some []) = Some p
words_taken next p (Some (w ∷ ws)) = next p (w ∷ ws)

-- the same of a line of bytes
abbrev pub line_taken : {S : Type 0} → (S → List Word → Option S) → S → List ℕ → Option S
line_taken next p line = words_taken next p (line_words line)
