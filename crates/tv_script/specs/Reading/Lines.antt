-- Reading the lines of a script.
use Rattle.std.specs.Prelude.{ℕ, List, [], ◌∷◌, Option, Some, None, codes, if◌then◌else◌}
use Rattle.std.specs.Option.{option_map}
use Rattle.std.specs.List.{list_any}
use Rattle.tv_cells.specs.declared.rect.Point.{Point}
use Rattle.tv_declarations.specs.Reading.Keys.{key_in}
use Rattle.tv_declarations.specs.Reading.Options.{with2}
use Rattle.tv_script.specs.Line.{Line}
use Rattle.tv_script.specs.Line as lines
use Rattle.tv_script.specs.Lines.{ends_line}
use Rattle.tv_words.specs.declared.word.Word.{Word}
use Rattle.tv_words.specs.Fields.{is_bare_word, text_in}
use Rattle.tv_words.specs.Reading.LineWords.{line_words}
use Rattle.tv_words.specs.Reading.Numbers.{number_in}

-- the line of one word
abbrev pub screen_line_in : Word → Option Line
screen_line_in w =
    if is_bare_word w (codes "shot") then Some lines.Shot
    else if is_bare_word w (codes "colors") then Some lines.Colors
    else None

-- the line that types a text, one without a line end
abbrev pub typed_line : Option (List ℕ) → Option Line
typed_line None = None
typed_line (Some text) = if list_any ends_line text then None else Some (lines.Typed text)

-- the line that types the text of a word
abbrev pub typed_in : Word → Option Line
typed_in w = typed_line (text_in w)

-- the line of a keyword and a word
abbrev pub key_line_in : Word → Word → Option Line
key_line_in k w =
    if is_bare_word k (codes "key") then option_map lines.Key (key_in w)
    else if is_bare_word k (codes "type") then typed_in w
    else None

-- the point of two numbers
abbrev pub point_in : Word → Word → Option Point
point_in x y = with2 (λ x y. record { x = x; y = y }) (number_in x) (number_in y)

-- the line of a keyword and a point
abbrev pub mouse_line_in : Word → Option Point → Option Line
mouse_line_in k p =
    if is_bare_word k (codes "down") then option_map lines.Down p
    else if is_bare_word k (codes "move") then option_map lines.Move p
    else if is_bare_word k (codes "up") then option_map lines.Up p
    else None

-- the line of these words
abbrev pub script_line_in : List Word → Option Line
script_line_in (k ∷ []) = screen_line_in k
script_line_in (k ∷ w ∷ []) = key_line_in k w
script_line_in (k ∷ x ∷ y ∷ []) = mouse_line_in k (point_in x y)
script_line_in _ = None

-- what a line of these words comes to: none where it is faulty, and no line where it has no words
abbrev pub words_read : Option (List Word) → Option (Option Line)
words_read None = None
words_read (Some []) = Some None
words_read (Some (w ∷ ws)) = option_map Some (script_line_in (w ∷ ws))

-- the same of a line of bytes
abbrev pub line_read : List ℕ → Option (Option Line)
line_read line = words_read (line_words line)
