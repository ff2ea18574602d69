-- Streams of whole sequences.
use Rattle.std.specs.Prelude.{ℕ, ◌≡◌, ◌≤◌, Bool, List, [], ◌∷◌, map, flat_map, length, Option}
use Rattle.tv_terminal.specs.declared.action.Action.{Action}
use Rattle.tv_terminal.specs.declared.reading.Reading.TheVariants.{Whole}
use Rattle.tv_terminal.specs.Sequences.{reading_of}
use Rattle.tv_terminal.specs.Decoding.{Symbol, Byte, most, before, heard_while, pasting_after}

-- bytes, and what they mean
pub record Lexeme : Type 0 where
  pub bytes : List ℕ
  pub action : Option Action

-- they are a whole sequence, and not too long
pub record IsLexeme (lexeme : Lexeme) : Type 0 where
  pub whole : reading_of lexeme.bytes ≡ Whole lexeme.action
  pub short : length lexeme.bytes ≤ most

abbrev pub symbols_of : List Lexeme → List Symbol
symbols_of lexemes = flat_map (λ lexeme. map Byte lexeme.bytes) lexemes

-- what is heard of them, and whether a paste goes on after them
abbrev pub actions_of : (is_pasting : Bool) → List Lexeme → List Action
actions_of is_pasting [] = []
actions_of is_pasting (lexeme ∷ lexemes) =
    before (heard_while is_pasting lexeme.action) (actions_of (pasting_after is_pasting lexeme.bytes) lexemes)

abbrev pub pasting_by : (is_pasting : Bool) → List Lexeme → Bool
pasting_by is_pasting [] = is_pasting
pasting_by is_pasting (lexeme ∷ lexemes) = pasting_by (pasting_after is_pasting lexeme.bytes) lexemes
