-- How the blocks of a report begin.
use Rattle.std.specs.Prelude.{ℕ, List, ◌∷◌, ◌++◌, codes, decimal}
use Rattle.serde_json.specs.Data.Data.{string}
use Rattle.serde_json.specs.Written.{compact_text}
use Rattle.tv_advice.specs.declared.colour.Colour.{Colour}
use Rattle.tv_advice.specs.declared.colour.Colour.TheVariants as colours
use Rattle.tv_advice.specs.declared.manner.Manner.{Manner}
use Rattle.tv_advice.specs.declared.manner.Manner.TheVariants as manners

-- what begins a colour in a terminal
abbrev pub sequence : Colour → List ℕ
sequence colours.Fault = 27 ∷ codes "[1;31m"
sequence colours.Other = 27 ∷ codes "[1;34m"
sequence colours.Help = 27 ∷ codes "[1;32m"

-- a text in a colour, where colours were asked for
abbrev pub shown_in : Manner → Colour → (text : List ℕ) → List ℕ
shown_in manners.Coloured colour text = sequence colour ++ (text ++ 27 ∷ codes "[0m")
shown_in _ colour text = text

-- FILE:LINE:COLUMN: FAULT: with a space behind it
abbrev pub plain_head : Manner → (name : List ℕ) → (line column : ℕ) → (fault : List ℕ) → List ℕ
plain_head manner name line column fault =
    name ++ (58 ∷ (decimal line ++ (58 ∷ (decimal column
    ++ (codes ": " ++ (shown_in manner colours.Fault fault ++ codes ": "))))))

-- a text as JSON has it
abbrev pub in_json : (text : List ℕ) → List ℕ
in_json text = compact_text (string text)

-- the first members of an object of JSON, with a comma behind them
abbrev pub object_head : (name : List ℕ) → (line column : ℕ) → (fault : List ℕ) → List ℕ
object_head name line column fault =
    codes "{\"file\":" ++ (in_json name ++ (codes ",\"line\":" ++ (decimal line
    ++ (codes ",\"column\":" ++ (decimal column ++ (codes ",\"fault\":" ++ (in_json fault ++ codes ",")))))))

-- the head of a block
abbrev pub block_head : Manner → (name : List ℕ) → (line column : ℕ) → (fault : List ℕ) → List ℕ
block_head manners.Json name line column fault = object_head name line column fault
block_head manner name line column fault = plain_head manner name line column fault
