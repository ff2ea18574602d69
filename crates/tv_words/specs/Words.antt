-- The words of a line, and the characters that spell them.
use Rattle.std.specs.Prelude.{◌≡◌, ◌≢◌, ℕ, List, [], ◌∷◌, ◌++◌, Bool, false, not, ◌||◌, ◌==◌, if◌then◌else◌}
use Rattle.std.specs.Prelude.{IsTrue, IsUtf8, chars, replicate, MatchBool}
use Rattle.std.specs.List.{find, flat_map, list_all, list_any}
use Rattle.std.specs.Option.{option_map_or}
use Rattle.std.specs.Char.{is_control}
use Rattle.tv_words.specs.Characters.{backslash, letter_n, line_feed, number_sign, quote, space}
use Rattle.tv_words.specs.declared.word.Word.{Word}
use Rattle.tv_words.specs.declared.word.Word.TheVariants.{Bare, Quoted}

-- how a character stands between quotes: `"`, `\` and a line feed by a backslash and another character
abbrev pub escaped : ℕ → List ℕ
escaped c =
    if c == quote then backslash ∷ quote ∷ []
    else if c == backslash then backslash ∷ backslash ∷ []
    else if c == line_feed then backslash ∷ letter_n ∷ []
    else c ∷ []

-- the characters of a word
abbrev pub word_text : Word → List ℕ
word_text (Bare text) = text
word_text (Quoted text) = quote ∷ flat_map escaped text ++ quote ∷ []

-- a character of a bare word: neither a space nor a quote
abbrev pub is_bare : ℕ → Bool
is_bare c = not (c == space || c == quote)

-- a word that can stand in a line
abbrev pub IsWord : Word → Type 0
IsWord (Bare text) = (text ≢ []) × IsTrue (list_all is_bare text)
IsWord (Quoted text) = Unit {0}

-- the characters are these words, one space or more before each, and any spaces at the end
abbrev pub Spaced : List ℕ → List Word → Type 0
Spaced cs [] = (n : ℕ) × (cs ≡ replicate n space)
Spaced cs (w ∷ ws) =
    (n : ℕ) × (rest : List ℕ) × (cs ≡ space ∷ replicate n space ++ (word_text w ++ rest)) × IsWord w
    × Spaced rest ws

-- the first character that is no space is `#`
abbrev pub is_comment : List ℕ → Bool
is_comment cs = option_map_or (λ c. c == number_sign) (find (λ c. not (c == space)) cs) false

-- the bytes of a line spell these words: they are UTF-8 without control characters, and a comment has no
-- words.
-- A space is put before the line, so that its first word has one before it too
pub record SpellsWords (line : List ℕ) (ws : List Word) : Type 0 where
  pub utf8 : IsUtf8 line
  pub clean : list_any is_control (chars line) ≡ false
  pub words : MatchBool (is_comment (chars line)) (ws ≡ []) (Spaced (space ∷ chars line) ws)
