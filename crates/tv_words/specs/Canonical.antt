-- The canonical text of declarations: each on a line of its own, one space between its words, no other
-- spaces, and a
-- line end after every line.
use Rattle.std.specs.Prelude.{ℕ, List, [], ◌∷◌, ◌++◌, flat_map, encode_utf8_all}
use Rattle.std.specs.List.{join_by}
use Rattle.tv_words.specs.Characters.{line_feed, space}
use Rattle.tv_words.specs.declared.word.Word.{Word}
use Rattle.tv_words.specs.Words.{word_text}

-- the characters of a line: its words, with one space between
abbrev pub canonical_line : List Word → List ℕ
canonical_line ws = join_by word_text (space ∷ []) ws

-- the line in UTF-8, and its line end
unfoldable pub ended_line : List Word → List ℕ
ended_line ws = encode_utf8_all (canonical_line ws) ++ line_feed ∷ []

-- the bytes of the text
abbrev pub canonical_text : List (List Word) → List ℕ
canonical_text wss = flat_map ended_line wss
